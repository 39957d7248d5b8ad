-- Part: the bytes; other calls; inner.
-- Raw values, and those of them that are maps.
use Rattle.std.specs.Prelude.{◌≡◌, ◌≢◌, ℕ, ◌-◌, List, [], ◌∷◌, length, take, drop, Option, Some, None, Bool, false}
use Rattle.std.specs.Prelude.{◌==◌, ◌||◌, if◌then◌else◌}
use Rattle.amqp_values.specs.Reading.{◌>>=◌, byte_at, is_empty}
use Rattle.amqp_values.specs.Walk.{value_at}
use Rattle.amqp_values.specs.Grammar.{IsValue}

-- exactly one value, of a depth of at most 64, and not the null
pub record IsRaw (bytes : List ℕ) : Type 0 where
  pub value : IsValue 64 bytes
  pub not_null : bytes ≢ 0x40 ∷ []

-- a raw value is its own text
abbrev pub SpellsRaw : List ℕ → List ℕ → Type 0
SpellsRaw v text = IsRaw text × (v ≡ text)

-- bytes are made a raw value exactly where they are one, and it is they
abbrev pub MakesRaw : List ℕ → Option (List ℕ) → Type 0
MakesRaw bytes (Some raw) = IsRaw bytes × (raw ≡ bytes)
MakesRaw bytes None = IsRaw bytes → ⊥

-- ---- maps

-- the code is that of a map
pub data HasMapCode : List ℕ → Type 0 where
  map8 : (others : List ℕ) → HasMapCode (0xc1 ∷ others)
  map32 : (others : List ℕ) → HasMapCode (0xd1 ∷ others)

pub record IsMap (bytes : List ℕ) : Type 0 where
  pub raw : IsRaw bytes
  pub code : HasMapCode bytes

-- fields are made of a value exactly where it is a map, and are that value
abbrev pub MakesFields : List ℕ → Option (List ℕ) → Type 0
MakesFields raw (Some fields) = (fields ≡ raw) × HasMapCode raw
MakesFields raw None = HasMapCode raw → ⊥

-- a map is its own text
abbrev pub SpellsMap : List ℕ → List ℕ → Type 0
SpellsMap v text = IsMap text × (v ≡ text)

-- ---- how they are read

unfoldable pub raw_at : List ℕ → Option (List ℕ × List ℕ)
raw_at bytes = do
  rest ← value_at 64 bytes
  code ← byte_at bytes
  if code.0 == 0x40 then None else Some (take (length bytes - length rest) bytes, drop (length bytes - length rest) bytes)

abbrev pub begins_null : List ℕ → Bool
begins_null [] = false
begins_null (code ∷ others) = code == 0x40

abbrev pub is_end : Option (List ℕ) → Bool
is_end None = false
is_end (Some rest) = is_empty rest

unfoldable pub is_raw_text : List ℕ → Bool
is_raw_text bytes = if begins_null bytes then false else is_end (value_at 64 bytes)

abbrev pub has_map_code : List ℕ → Bool
has_map_code [] = false
has_map_code (code ∷ others) = code == 0xc1 || code == 0xd1

unfoldable pub map_at : List ℕ → Option (List ℕ × List ℕ)
map_at bytes = raw_at bytes >>= λ x. if has_map_code x.0 then Some x else None
