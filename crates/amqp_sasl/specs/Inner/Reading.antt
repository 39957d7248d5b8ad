-- Part: inner.
-- Reading a body from left to right, where it stands in received bytes.
use Rattle.std.specs.Prelude.{◌≡◌, ◌≤◌, ℕ, List, [], ◌∷◌, length, take, drop, Option, Some, None, Bool, true, false, ◌==◌, if◌then◌else◌, codes, bytes_eq}
use Rattle.amqp_values.specs.declared.list_walk.ListWalk.{ListWalk}
use Rattle.amqp_values.specs.Reading.{◌>>=◌, byte_at, region_at}
use Rattle.amqp_values.specs.Number.{ubyte_at, ulong_at}
use Rattle.amqp_values.specs.Text.{binary_at, string_at, symbol_at}
use Rattle.amqp_values.specs.Symbols.{symbols_at, all_at, array_at, alone_at}
use Rattle.amqp_values.specs.Slots.{PartsLeft, optional_at, required_at, end_at, then_at, named_at}
use Rattle.amqp_values.specs.Composite.{list_at, composite_at}
use Rattle.amqp_values.specs.Walking.{ahead}
use Rattle.amqp_sasl.specs.declared.body.SaslCode.{SaslCode}
use Rattle.amqp_sasl.specs.declared.body.SaslCode.TheVariants as code
use Rattle.amqp_sasl.specs.declared.body.Body.{Body}
use Rattle.amqp_sasl.specs.declared.value.FieldType.{FieldType}
use Rattle.amqp_sasl.specs.declared.value.FieldType.TheVariants as type
use Rattle.amqp_sasl.specs.SaslFrame.{Said, mechanisms_are, init_is, challenge_is, response_is, outcome_is, has_name, said_in, AreWithin}

-- what a call read, and what it left, is what reading gives
abbrev pub Reads : {X V S : Type 0} → (X → V) → Option X → S → Option (V × S) → Type 0
Reads view (Some x) left read = read ≡ Some (view x, left)
Reads view None left read = read ≡ None

-- ---- fields

-- the bytes of a value of this type
abbrev pub bytes_at : FieldType → List ℕ → Option (List ℕ × List ℕ)
bytes_at type.Binary = binary_at
bytes_at type.String = string_at
bytes_at type.Symbol = symbol_at

abbrev pub some_of : List (List ℕ) → Option (List (List ℕ))
some_of [] = None
some_of (name ∷ names) = Some (name ∷ names)

abbrev pub some_names : List (List ℕ) × List ℕ → Option (List (List ℕ) × List ℕ)
some_names ([], rest) = None
some_names (name ∷ names, rest) = Some (name ∷ names, rest)

-- the symbols after the count of an array, of which there is one or more
abbrev pub counted_names_at : ℕ → List ℕ → Option (List (List ℕ))
counted_names_at n bytes = all_at n bytes >>= some_of

abbrev pub array_names_at : Bool → List ℕ → Option (List (List ℕ) × List ℕ)
array_names_at wide bytes = array_at wide bytes >>= some_names

abbrev pub alone_name_at : Bool → List ℕ → Option (List (List ℕ) × List ℕ)
alone_name_at long bytes = alone_at long bytes >>= some_names

-- one name or more
unfoldable pub names_at : List ℕ → Option (List (List ℕ) × List ℕ)
names_at bytes = symbols_at bytes >>= some_names

abbrev pub code_numbered : ℕ → Option SaslCode
code_numbered n =
    if n == 0 then Some code.Ok
    else if n == 1 then Some code.Auth
    else if n == 2 then Some code.Sys
    else if n == 3 then Some code.SysPerm
    else if n == 4 then Some code.SysTemp
    else None

abbrev pub as_code : ℕ × List ℕ → Option (SaslCode × List ℕ)
as_code x = code_numbered x.0 >>= λ c. Some (c, x.1)

unfoldable pub sasl_code_at : List ℕ → Option (SaslCode × List ℕ)
sasl_code_at bytes = ubyte_at bytes >>= as_code

-- ---- the fields of each body

abbrev pub mechanisms_of : List (List ℕ) × Unit {0} → Said
mechanisms_of (names, end) = mechanisms_are names

unfoldable pub mechanisms_at : PartsLeft → Option (Said × PartsLeft)
mechanisms_at = named_at mechanisms_of (then_at (required_at names_at) end_at)

abbrev pub init_of : List ℕ × (Option (List ℕ) × (Option (List ℕ) × Unit {0})) → Said
init_of (mechanism, (response, (hostname, end))) = init_is mechanism response hostname

unfoldable pub init_at : PartsLeft → Option (Said × PartsLeft)
init_at = named_at init_of (then_at (required_at symbol_at) (then_at (optional_at binary_at) (then_at (optional_at string_at) end_at)))

abbrev pub challenge_of : List ℕ × Unit {0} → Said
challenge_of (challenge, end) = challenge_is challenge

unfoldable pub challenge_at : PartsLeft → Option (Said × PartsLeft)
challenge_at = named_at challenge_of (then_at (required_at binary_at) end_at)

abbrev pub response_of : List ℕ × Unit {0} → Said
response_of (response, end) = response_is response

unfoldable pub response_at : PartsLeft → Option (Said × PartsLeft)
response_at = named_at response_of (then_at (required_at binary_at) end_at)

abbrev pub outcome_of : SaslCode × (Option (List ℕ) × Unit {0}) → Said
outcome_of (code, (additional, end)) = outcome_is code additional

unfoldable pub outcome_at : PartsLeft → Option (Said × PartsLeft)
outcome_at = named_at outcome_of (then_at (required_at sasl_code_at) (then_at (optional_at binary_at) end_at))

-- the fields of the body with this descriptor
unfoldable pub said_at : ℕ → PartsLeft → Option (Said × PartsLeft)
said_at n p =
    if n == 0x40 then mechanisms_at p
    else if n == 0x41 then init_at p
    else if n == 0x42 then challenge_at p
    else if n == 0x43 then response_at p
    else if n == 0x44 then outcome_at p
    else None

-- ---- descriptors

unfoldable pub number_of : List ℕ → Option ℕ
number_of name =
    if bytes_eq name (codes "amqp:sasl-mechanisms:list") then Some 0x40
    else if bytes_eq name (codes "amqp:sasl-init:list") then Some 0x41
    else if bytes_eq name (codes "amqp:sasl-challenge:list") then Some 0x42
    else if bytes_eq name (codes "amqp:sasl-response:list") then Some 0x43
    else if bytes_eq name (codes "amqp:sasl-outcome:list") then Some 0x44
    else None

abbrev pub meaning_at : List ℕ × List ℕ → Option (ℕ × List ℕ)
meaning_at x = number_of x.0 >>= λ n. Some (n, x.1)

-- the number that the name at the front means
abbrev pub name_at : Bool → List ℕ → Option (ℕ × List ℕ)
name_at wide bytes = region_at wide bytes >>= meaning_at

unfoldable pub coded_at : List ℕ → Option (ℕ × List ℕ)
coded_at bytes =
    byte_at bytes >>= λ c.
    if c.0 == 0xa3 then name_at false c.1
    else if c.0 == 0xb3 then name_at true c.1
    else ulong_at bytes

unfoldable pub descriptor_at : List ℕ → Option (ℕ × List ℕ)
descriptor_at bytes = do
  first ← byte_at bytes
  if first.0 == 0 then coded_at first.1 else None

abbrev pub described_as : ℕ × List ℕ → Option (Said × List ℕ)
described_as d = composite_at (said_at d.0) d.1

unfoldable pub body_at : List ℕ → Option (Said × List ℕ)
body_at bytes = descriptor_at bytes >>= described_as

-- a body stands at this place, and ends at that one
abbrev pub ReadsBody : List ℕ → ℕ → Option (Body × ℕ) → Type 0
ReadsBody text at (Some x) = (body_at (drop at text) ≡ Some (said_in text x.0, drop x.1 text)) × AreWithin x.1 x.0 × (x.1 ≤ length text)
ReadsBody text at None = body_at (drop at text) ≡ None

-- ---- lists

-- a list stands at this place: the walk is before its parts, and it ends at that place
abbrev pub IsEntered : List ℕ → ℕ → Option (ListWalk × ℕ) → Type 0
IsEntered text at (Some x) = (list_at (drop at text) ≡ Some (ahead (take x.1 text) x.0, drop x.1 text)) × (x.0.at ≤ x.1) × (x.1 ≤ length text)
IsEntered text at None = list_at (drop at text) ≡ None

-- ---- a name among those that are offered

abbrev pub searched : List ℕ → Option (List (List ℕ) × List ℕ) → Option (Bool × List ℕ)
searched name read = read >>= λ x. Some (has_name name x.0, x.1)
