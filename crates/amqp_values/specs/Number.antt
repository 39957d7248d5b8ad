-- Part: the bytes; other calls.
-- Numbers and booleans, in every spelling (AMQP 1.0 part 1, section 1.6).
use Rattle.std.specs.Prelude.{◌≡◌, ℕ, List, [], ◌∷◌, length, Option, Some, None, Bool, true, false, ◌==◌, if◌then◌else◌}
use Rattle.std.specs.Int.{Width, w16, w32, w64, from_be_bytes}
use Rattle.amqp_values.specs.Reading.{◌>>=◌, byte_at, number_at}

-- ---- the spellings

pub data IsUbyte : ℕ → List ℕ → Type 0 where
  ubyte : (n : ℕ) → IsUbyte n (0x50 ∷ n ∷ [])

pub data IsUshort : ℕ → List ℕ → Type 0 where
  ushort : (bytes : List ℕ) → length bytes ≡ 2 → IsUshort (from_be_bytes w16 bytes) (0x60 ∷ bytes)

pub data IsUint : ℕ → List ℕ → Type 0 where
  uint0 : IsUint 0 (0x43 ∷ [])
  small_uint : (n : ℕ) → IsUint n (0x52 ∷ n ∷ [])
  uint : (bytes : List ℕ) → length bytes ≡ 4 → IsUint (from_be_bytes w32 bytes) (0x70 ∷ bytes)

pub data IsUlong : ℕ → List ℕ → Type 0 where
  ulong0 : IsUlong 0 (0x44 ∷ [])
  small_ulong : (n : ℕ) → IsUlong n (0x53 ∷ n ∷ [])
  ulong : (bytes : List ℕ) → length bytes ≡ 8 → IsUlong (from_be_bytes w64 bytes) (0x80 ∷ bytes)

pub data IsBoolean : Bool → List ℕ → Type 0 where
  is_true : IsBoolean true (0x41 ∷ [])
  is_false : IsBoolean false (0x42 ∷ [])
  byte_true : IsBoolean true (0x56 ∷ 1 ∷ [])
  byte_false : IsBoolean false (0x56 ∷ 0 ∷ [])

-- ---- their readers

unfoldable pub ubyte_at : List ℕ → Option (ℕ × List ℕ)
ubyte_at bytes = do
  code ← byte_at bytes
  if code.0 == 0x50 then byte_at code.1 else None

unfoldable pub ushort_at : List ℕ → Option (ℕ × List ℕ)
ushort_at bytes = do
  code ← byte_at bytes
  if code.0 == 0x60 then number_at w16 code.1 else None

-- a number with three codes: for zero, for one byte, and for its whole width
abbrev pub three_at : ℕ → ℕ → ℕ → Width → List ℕ → Option (ℕ × List ℕ)
three_at nought small long width bytes =
    byte_at bytes >>= λ code.
    if code.0 == nought then Some (0, code.1)
    else if code.0 == small then byte_at code.1
    else if code.0 == long then number_at width code.1
    else None

unfoldable pub uint_at : List ℕ → Option (ℕ × List ℕ)
uint_at = three_at 0x43 0x52 0x70 w32

unfoldable pub ulong_at : List ℕ → Option (ℕ × List ℕ)
ulong_at = three_at 0x44 0x53 0x80 w64

abbrev pub flag_at : List ℕ → Option (Bool × List ℕ)
flag_at bytes = do
  flag ← byte_at bytes
  if flag.0 == 0 then Some (false, flag.1) else if flag.0 == 1 then Some (true, flag.1) else None

unfoldable pub boolean_at : List ℕ → Option (Bool × List ℕ)
boolean_at bytes =
    byte_at bytes >>= λ code.
    if code.0 == 0x41 then Some (true, code.1)
    else if code.0 == 0x42 then Some (false, code.1)
    else if code.0 == 0x56 then flag_at code.1
    else None
