-- Part: every call exactly; other calls; inner.
-- The parts of lists and maps.
use Rattle.std.specs.Prelude.{◌≡◌, ℕ, zero, suc, ◌-◌, ◌%◌, List, [], ◌∷◌, ◌++◌, length, take, drop, Option, Some, None}
use Rattle.std.specs.Prelude.{Bool, ◌==◌, if◌then◌else◌}
use Rattle.amqp_values.specs.declared.format_class.FormatClass.{FormatClass}
use Rattle.amqp_values.specs.declared.format_class.FormatClass.TheVariants as class
use Rattle.amqp_values.specs.FormatClass.{class_of}
use Rattle.amqp_values.specs.Reading.{◌>>=◌, byte_at, count_at, region_at, IsNumber, joined}
use Rattle.amqp_values.specs.Walk.{value_at}
use Rattle.amqp_values.specs.Grammar.{IsValue, Values}

-- The parts of a list or a map after its constructor: as many as its count says, and joined they are the data after the
-- count. Those of a map are its keys and values in turn, so their number is even.
pub data ItemsIn : FormatClass → List ℕ → List (List ℕ) → Type 0 where
  no_items : ItemsIn class.List0 [] []
  list_items : (wide : Bool) (size count : List ℕ) (parts : List (List ℕ))
      → IsNumber wide size (length (count ++ joined parts)) → IsNumber wide count (length parts)
      → Values 64 parts → ItemsIn (class.List wide) (size ++ (count ++ joined parts)) parts
  map_items : (wide : Bool) (size count : List ℕ) (parts : List (List ℕ)) → IsNumber wide size (length (count ++ joined parts))
      → IsNumber wide count (length parts)
      → length parts % 2 ≡ 0 → Values 64 parts → ItemsIn (class.Map wide) (size ++ (count ++ joined parts)) parts

pub record IsItems (bytes : List ℕ) (parts : List (List ℕ)) : Type 0 where
  pub code : ℕ
  pub body : List ℕ
  pub whole : bytes ≡ code ∷ body
  pub items : ItemsIn (class_of code) body parts

-- the items of a list or a map are given, all of them and in their order; of any other value none are
abbrev pub Lends : List ℕ → Option (List (List ℕ)) → Type 0
Lends bytes (Some parts) = IsItems bytes parts
Lends bytes None = (parts : List (List ℕ)) → IsItems bytes parts → ⊥

-- ---- how they are cut

unfoldable pub front_at : List ℕ → Option (List ℕ × List ℕ)
front_at bytes = value_at 64 bytes >>= λ rest. Some (take (length bytes - length rest) bytes, drop (length bytes - length rest) bytes)

abbrev pub parts_from : Option (List ℕ × List ℕ) → (List ℕ → List (List ℕ)) → List (List ℕ)
parts_from None others = []
parts_from (Some x) others = x.0 ∷ others x.1

unfoldable pub parts_at : ℕ → List ℕ → List (List ℕ)
parts_at zero bytes = []
parts_at (suc n) bytes = parts_from (front_at bytes) (parts_at n)

-- so many values, and nothing after them
pub record AllParts (n : ℕ) (bytes : List ℕ) : Type 0 where
  pub values : Values 64 (parts_at n bytes)
  pub whole : bytes ≡ joined (parts_at n bytes)
  pub count : n ≡ length (parts_at n bytes)

-- a count, and the data after it
abbrev pub open_in : FormatClass → List ℕ → Option (ℕ × List ℕ)
open_in class.List0 bytes = Some (0, bytes)
open_in (class.List wide) bytes = region_at wide bytes >>= λ r. count_at wide r.0
open_in (class.Map wide) bytes = region_at wide bytes >>= λ r. count_at wide r.0
open_in k bytes = None

unfoldable pub open_at : List ℕ → Option (ℕ × List ℕ)
open_at bytes = byte_at bytes >>= λ c. open_in (class_of c.0) c.1

-- ---- a described value: its descriptor, and the value inside
pub record IsDescribed (bytes descriptor inner : List ℕ) : Type 0 where
  pub whole : bytes ≡ 0x00 ∷ descriptor ++ inner
  pub descriptor_is : IsValue 64 descriptor
  pub inner_is : IsValue 64 inner

abbrev pub LendsDescriptor : List ℕ → Option (List ℕ) → Type 0
LendsDescriptor bytes (Some descriptor) = (inner : List ℕ) × IsDescribed bytes descriptor inner
LendsDescriptor bytes None = (descriptor inner : List ℕ) → IsDescribed bytes descriptor inner → ⊥

abbrev pub LendsInner : List ℕ → Option (List ℕ) → Type 0
LendsInner bytes (Some inner) = (descriptor : List ℕ) × IsDescribed bytes descriptor inner
LendsInner bytes None = (descriptor inner : List ℕ) → IsDescribed bytes descriptor inner → ⊥

unfoldable pub halves_at : List ℕ → Option (List ℕ × List ℕ)
halves_at bytes = byte_at bytes >>= λ c. if c.0 == 0 then front_at c.1 else None
