-- Part: the bytes.
-- The grammar of values, on whole byte strings. `IsValue d text`: the bytes are exactly one value, of a depth of at most d.
--
-- The depth of a value with no values inside is 0, that of the list without data is 1. A list or a map has one more than
-- its deepest part, and at least 1; a described value one more than the deeper of its descriptor and the value inside; an
-- array one more than its deepest element. An array whose constructor is that of a list with data, a map or an array, or
-- is described, has at least 2, also with no element; then each descriptor in the constructor counts as an element would.
use Rattle.std.specs.Prelude.{◌≡◌, ◌<◌, ℕ, suc, ◌%◌, List, [], ◌∷◌, ◌++◌, length, Bool}
use Rattle.amqp_values.specs.declared.format_class.FormatClass.{FormatClass}
use Rattle.amqp_values.specs.declared.format_class.FormatClass.TheVariants as class
use Rattle.amqp_values.specs.FormatClass.{class_of, IsPlain, IsCompound}
use Rattle.amqp_values.specs.Reading.{IsNumber, joined}

mutual
  -- a constructor and its data, or a descriptor and a value
  pub data IsValue : ℕ → List ℕ → Type 0 where
    plain : (d code : ℕ) (bytes : List ℕ) → Data d (class_of code) bytes → IsValue d (code ∷ bytes)
    described : (d : ℕ) (descriptor value : List ℕ) → IsValue d descriptor → IsValue d value → IsValue (suc d) (0x00 ∷ descriptor ++ value)

  -- the data after a format code of this class
  pub data Data : ℕ → FormatClass → List ℕ → Type 0 where
    fixed : (d : ℕ) (bytes : List ℕ) → Data d (class.Fixed (length bytes)) bytes
    flag : (d b : ℕ) → b < 2 → Data d class.Flag (b ∷ [])
    variable : (d : ℕ) (wide : Bool) (size bytes : List ℕ) → IsNumber wide size (length bytes) → Data d (class.Variable wide) (size ++ bytes)
    list0 : (d : ℕ) → Data (suc d) class.List0 []
    list : (d : ℕ) (wide : Bool) (size count : List ℕ) (parts : List (List ℕ))
        → IsNumber wide size (length (count ++ joined parts)) → IsNumber wide count (length parts)
        → Values d parts → Data (suc d) (class.List wide) (size ++ (count ++ joined parts))
    map : (d : ℕ) (wide : Bool) (size count : List ℕ) (parts : List (List ℕ))
        → IsNumber wide size (length (count ++ joined parts)) → IsNumber wide count (length parts)
        → length parts % 2 ≡ 0 → Values d parts → Data (suc d) (class.Map wide) (size ++ (count ++ joined parts))
    array : (d : ℕ) (wide : Bool) (size count constructor : List ℕ) (elements : List (List ℕ))
        → IsNumber wide size (length (count ++ (constructor ++ joined elements)))
        → IsNumber wide count (length elements) → Elements d constructor elements
        → Data (suc d) (class.Array wide) (size ++ (count ++ (constructor ++ joined elements)))
    no_elements : (d : ℕ) (wide : Bool) (size count constructor : List ℕ) → IsNumber wide size (length (count ++ constructor))
        → IsNumber wide count 0
        → Constructor d constructor → Data (suc d) (class.Array wide) (size ++ (count ++ constructor))
    bare : (d : ℕ) (wide : Bool) (size count : List ℕ) → IsNumber wide size (length count) → IsNumber wide count 0
        → Data (suc d) (class.Array wide) (size ++ count)

  -- each part is one value
  pub data Values : ℕ → List (List ℕ) → Type 0 where
    no_values : (d : ℕ) → Values d []
    more_values : (d : ℕ) (part : List ℕ) (parts : List (List ℕ)) → IsValue d part → Values d parts → Values d (part ∷ parts)

  -- one or more data after one constructor: each of them, with that constructor before it, is a value
  pub data Elements : ℕ → List ℕ → List (List ℕ) → Type 0 where
    plain_elements : (d code : ℕ) (elements : List (List ℕ)) → Run d (class_of code) elements → Elements d (code ∷ []) elements
    described_elements : (d : ℕ) (descriptor constructor : List ℕ) (elements : List (List ℕ)) → IsValue d descriptor
        → Elements d constructor elements
        → Elements (suc d) (0x00 ∷ descriptor ++ constructor) elements

  -- one or more data of this class, one after the other
  pub data Run : ℕ → FormatClass → List (List ℕ) → Type 0 where
    last : (d : ℕ) (k : FormatClass) (bytes : List ℕ) → Data d k bytes → Run d k (bytes ∷ [])
    next : (d : ℕ) (k : FormatClass) (bytes : List ℕ) (others : List (List ℕ)) → Data d k bytes → Run d k others → Run d k (bytes ∷ others)

  -- a constructor that no data follow
  pub data Constructor : ℕ → List ℕ → Type 0 where
    plain_constructor : (d code : ℕ) → IsPlain (class_of code) → Constructor d (code ∷ [])
    compound_constructor : (d code : ℕ) → IsCompound (class_of code) → Constructor (suc d) (code ∷ [])
    described_constructor : (d : ℕ) (descriptor constructor : List ℕ) → IsValue (suc d) descriptor → Constructor (suc d) constructor
        → Constructor (suc d) (0x00 ∷ descriptor ++ constructor)
