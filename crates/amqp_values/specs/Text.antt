-- Part: the bytes; other calls.
-- Binaries, strings and symbols (AMQP 1.0 part 1, sections 1.6.19 to 1.6.21).
use Rattle.std.specs.Prelude.{◌≡◌, ◌<◌, ◌^◌, ℕ, List, ◌∷◌, ◌++◌, length, Option, Some, None, Bool, true, false, nat_lt, ◌==◌, if◌then◌else◌}
use Rattle.std.specs.List.{list_all}
use Rattle.std.specs.Str.{is_utf8}
use Rattle.amqp_values.specs.Reading.{◌>>=◌, byte_at, region_at, IsNumber}

-- the code of a type with two widths
abbrev pub by_width : Bool → ℕ → ℕ → ℕ
by_width wide short long = if wide then long else short

-- a code, a length, and that many bytes
pub data IsVar (short long : ℕ) : List ℕ → List ℕ → Type 0 where
  var : (wide : Bool) (len bytes : List ℕ) → IsNumber wide len (length bytes)
      → IsVar short long bytes (by_width wide short long ∷ len ++ bytes)

abbrev pub is_ascii : List ℕ → Bool
is_ascii s = list_all (λ b. nat_lt b 128) s

abbrev pub IsBinary : List ℕ → List ℕ → Type 0
IsBinary = IsVar 0xa0 0xb0

abbrev pub IsString : List ℕ → List ℕ → Type 0
IsString s text = IsVar 0xa1 0xb1 s text × (is_utf8 s ≡ true)

abbrev pub IsSymbol : List ℕ → List ℕ → Type 0
IsSymbol s text = IsVar 0xa3 0xb3 s text × (is_ascii s ≡ true)

-- what a symbol holds: bytes below 128, no more of them than a length of four bytes can say
pub record IsSymbolText (s : List ℕ) : Type 0 where
  pub ascii : is_ascii s ≡ true
  pub short : length s < 2 ^ 32

-- ---- their readers

unfoldable pub var_at : ℕ → ℕ → List ℕ → Option (List ℕ × List ℕ)
var_at short long bytes = do
  code ← byte_at bytes
  if code.0 == short then region_at false code.1 else if code.0 == long then region_at true code.1 else None

abbrev pub tested_at : (List ℕ → Bool) → (List ℕ → Option (List ℕ × List ℕ)) → List ℕ → Option (List ℕ × List ℕ)
tested_at test at bytes = at bytes >>= λ x. if test x.0 then Some x else None

unfoldable pub binary_at : List ℕ → Option (List ℕ × List ℕ)
binary_at = var_at 0xa0 0xb0

unfoldable pub string_at : List ℕ → Option (List ℕ × List ℕ)
string_at = tested_at is_utf8 (var_at 0xa1 0xb1)

unfoldable pub symbol_at : List ℕ → Option (List ℕ × List ℕ)
symbol_at = tested_at is_ascii (var_at 0xa3 0xb3)
