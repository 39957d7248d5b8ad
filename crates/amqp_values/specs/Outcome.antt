-- Part: every call exactly; other calls; inner.
-- The terminal states of a delivery: accepted, rejected, released and modified.
use Rattle.std.specs.Prelude.{◌≡◌, ℕ, List, [], ◌∷◌, ◌++◌, length, Bool, true, false, Option, Some, None, ◌==◌, ◌&&◌}
use Rattle.std.specs.Prelude.{◌||◌, if◌then◌else◌, codes}
use Rattle.std.specs.Str.{bytes_eq}
use Rattle.std.specs.Int.{w64, from_be_bytes}
use Rattle.amqp_values.specs.Reading.{region_at, is_empty, IsNumber}
use Rattle.amqp_values.specs.Parts.{IsDescribed}

-- the number and the name of each
pub data IsOutcome : ℕ → List ℕ → Type 0 where
  accepted : IsOutcome 0x24 (codes "amqp:accepted:list")
  rejected : IsOutcome 0x25 (codes "amqp:rejected:list")
  released : IsOutcome 0x26 (codes "amqp:released:list")
  modified : IsOutcome 0x27 (codes "amqp:modified:list")

-- a descriptor spells a number, in one byte or in eight, or a name
pub data StandsFor : ℕ → List ℕ → List ℕ → Type 0 where
  small_number : (n : ℕ) (name : List ℕ) → StandsFor n name (0x53 ∷ n ∷ [])
  large_number : (name bytes : List ℕ) → length bytes ≡ 8 → StandsFor (from_be_bytes w64 bytes) name (0x80 ∷ bytes)
  short_name : (n : ℕ) (name size : List ℕ) → IsNumber false size (length name) → StandsFor n name (0xa3 ∷ size ++ name)
  long_name : (n : ℕ) (name size : List ℕ) → IsNumber true size (length name) → StandsFor n name (0xb3 ∷ size ++ name)

-- a described value, whatever stands inside, whose descriptor stands for one of them
pub record IsTerminal (bytes : List ℕ) : Type 0 where
  pub descriptor : List ℕ
  pub inner : List ℕ
  pub number : ℕ
  pub name : List ℕ
  pub described : IsDescribed bytes descriptor inner
  pub stands : StandsFor number name descriptor
  pub outcome : IsOutcome number name

-- the shortest text of the outcome of this number: its fields are all absent
abbrev pub outcome_text : ℕ → List ℕ
outcome_text n = 0x00 ∷ 0x53 ∷ n ∷ 0x45 ∷ []

-- ---- how a descriptor is tested

abbrev pub has_outcome_number : ℕ → Bool
has_outcome_number n = n == 0x24 || n == 0x25 || n == 0x26 || n == 0x27

abbrev pub has_outcome_name : List ℕ → Bool
has_outcome_name name =
    bytes_eq name (codes "amqp:accepted:list") || bytes_eq name (codes "amqp:rejected:list")
    || bytes_eq name (codes "amqp:released:list") || bytes_eq name (codes "amqp:modified:list")

abbrev pub spells_small : List ℕ → Bool
spells_small [] = false
spells_small (n ∷ others) = is_empty others && has_outcome_number n

abbrev pub spells_large : List ℕ → Bool
spells_large bytes = if length bytes == 8 then has_outcome_number (from_be_bytes w64 bytes) else false

abbrev pub is_whole_name : Option (List ℕ × List ℕ) → Bool
is_whole_name None = false
is_whole_name (Some x) = is_empty x.1 && has_outcome_name x.0

unfoldable pub spells_name : Bool → List ℕ → Bool
spells_name wide bytes = is_whole_name (region_at wide bytes)

unfoldable pub spells_outcome : ℕ → List ℕ → Bool
spells_outcome code bytes =
    if code == 0x53 then spells_small bytes else
    if code == 0x80 then spells_large bytes else
    if code == 0xa3 then spells_name false bytes else
    if code == 0xb3 then spells_name true bytes else
    false

abbrev pub stands_for_outcome : List ℕ → Bool
stands_for_outcome [] = false
stands_for_outcome (code ∷ bytes) = spells_outcome code bytes
