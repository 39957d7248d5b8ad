-- Part: other calls; inner.
-- What is left after a value, if its depth keeps a limit.
use Rattle.std.specs.Prelude.{ℕ, zero, suc, ◌%◌, List, length, Option, Some, None, Bool, true, false, nat_lt, ◌==◌, if◌then◌else◌}
use Rattle.amqp_values.specs.declared.format_class.FormatClass.{FormatClass}
use Rattle.amqp_values.specs.declared.format_class.FormatClass.TheVariants as class
use Rattle.amqp_values.specs.FormatClass.{class_of}
use Rattle.amqp_values.specs.Reading.{◌>>=◌, byte_at, count_at, cut_at, region_at, is_empty}

unfoldable pub repeat : ℕ → (List ℕ → Option (List ℕ)) → List ℕ → Option (List ℕ)
repeat zero f bytes = Some bytes
repeat (suc n) f bytes = f bytes >>= repeat n f

-- what may stand inside a value
pub record Level : Type 0 where
  pub value : List ℕ → Option (List ℕ)
  pub elements : ℕ → List ℕ → Option (List ℕ)
  pub constructor : List ℕ → Option (List ℕ)

-- all of the region is taken
abbrev pub ended : List ℕ → List ℕ → Option (List ℕ)
ended rest left = if is_empty left then Some rest else None

-- what is left of a region after its count
unfoldable pub inside : Level → FormatClass → ℕ → List ℕ → Option (List ℕ)
inside l (class.List wide) count bytes = repeat count l.value bytes
inside l (class.Map wide) count bytes = if count % 2 == 0 then repeat count l.value bytes else None
inside l (class.Array wide) count bytes =
    if count == 0 then (if is_empty bytes then Some bytes else l.constructor bytes) else l.elements count bytes
inside l k count bytes = None

abbrev pub compound_of : Option Level → FormatClass → Bool → List ℕ → Option (List ℕ)
compound_of None k wide bytes = None
compound_of (Some l) k wide bytes =
    region_at wide bytes >>= λ region. count_at wide region.0 >>= λ count. inside l k count.0 count.1 >>= ended region.1

unfoldable pub data_of : Option Level → FormatClass → List ℕ → Option (List ℕ)
data_of below (class.Fixed n) bytes = cut_at n bytes >>= λ x. Some x.1
data_of below class.Flag bytes = byte_at bytes >>= λ b. if nat_lt b.0 2 then Some b.1 else None
data_of below (class.Variable wide) bytes = region_at wide bytes >>= λ x. Some x.1
data_of None class.List0 bytes = None
data_of (Some l) class.List0 bytes = Some bytes
data_of below (class.List wide) bytes = compound_of below (class.List wide) wide bytes
data_of below (class.Map wide) bytes = compound_of below (class.Map wide) wide bytes
data_of below (class.Array wide) bytes = compound_of below (class.Array wide) wide bytes
data_of below class.Unknown bytes = None

abbrev pub described : Option Level → (Level → List ℕ → Option (List ℕ)) → List ℕ → Option (List ℕ)
described None next bytes = None
described (Some l) next bytes = l.value bytes >>= next l

unfoldable pub value_of : Option Level → List ℕ → Option (List ℕ)
value_of below bytes = byte_at bytes >>= λ c. if c.0 == 0 then described below (λ l. l.value) c.1 else data_of below (class_of c.0) c.1

-- a constructor may stand here, also with no element
abbrev pub may_hold : Option Level → FormatClass → Bool
may_hold below class.Unknown = false
may_hold None (class.List wide) = false
may_hold None (class.Map wide) = false
may_hold None (class.Array wide) = false
may_hold below k = true

abbrev pub is_dataless : FormatClass → Bool
is_dataless (class.Fixed n) = n == 0
is_dataless class.List0 = true
is_dataless k = false

unfoldable pub run_of : Option Level → FormatClass → ℕ → List ℕ → Option (List ℕ)
run_of below k count bytes = repeat count (data_of below k) bytes

unfoldable pub elements_of : Option Level → ℕ → List ℕ → Option (List ℕ)
elements_of below count bytes =
    byte_at bytes >>= λ c.
    if c.0 == 0 then described below (λ l. l.elements count) c.1
    else run_of below (class_of c.0) count c.1

abbrev pub is_ground : Option Level → Bool
is_ground None = true
is_ground (Some l) = false

-- what is left after the constructor of an array with no elements, by so many bytes at most
unfoldable pub constructor_of : Option Level → ℕ → List ℕ → Option (List ℕ)
constructor_of below zero bytes = None
constructor_of below (suc n) bytes =
    byte_at bytes >>= λ c.
    if c.0 == 0 then (if is_ground below then None else value_of below c.1 >>= constructor_of below n)
    else if may_hold below (class_of c.0) then Some c.1
    else None

unfoldable pub under : ℕ → Option Level
under zero = None
under (suc d) =
    Some (record {
      value = value_of (under d);
      elements = elements_of (under d);
      constructor = λ bytes. constructor_of (under d) (length bytes) bytes;
    })

-- what may stand inside a value of depth d + 1
abbrev pub level : ℕ → Level
level d =
    record {
      value = value_of (under d);
      elements = elements_of (under d);
      constructor = λ bytes. constructor_of (under d) (length bytes) bytes;
    }

-- what is left after a value of a depth of at most d
unfoldable pub value_at : ℕ → List ℕ → Option (List ℕ)
value_at d = value_of (under d)
