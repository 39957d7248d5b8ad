-- Part: the bytes; other calls; inner.
-- Multiple symbols: one symbol, or an array of symbols (AMQP 1.0 part 2, the `multiple` attribute of a field).
use Rattle.std.specs.Prelude.{◌≡◌, ℕ, zero, suc, List, [], ◌∷◌, ◌++◌, length, Option, Some, None, Bool, true, false, ◌==◌, if◌then◌else◌}
use Rattle.amqp_values.specs.Reading.{◌>>=◌, byte_at, count_at, region_at, is_empty, IsNumber}
use Rattle.amqp_values.specs.Text.{by_width, is_ascii}

-- symbols without their constructors, one after the other; long ones have a length of four bytes
pub data IsRun (long : Bool) : List (List ℕ) → List ℕ → Type 0 where
  no_symbols : IsRun long [] []
  more_symbols : (len s : List ℕ) (others : List (List ℕ)) (text : List ℕ) → IsNumber long len (length s) → is_ascii s ≡ true
      → IsRun long others text
      → IsRun long (s ∷ others) ((len ++ s) ++ text)

-- one symbol, an array of symbols, or an array of none that ends after its count
pub data IsSymbols : List (List ℕ) → List ℕ → Type 0 where
  one_symbol : (long : Bool) (len s : List ℕ) → IsNumber long len (length s) → is_ascii s ≡ true
      → IsSymbols (s ∷ []) (by_width long 0xa3 0xb3 ∷ len ++ s)
  array : (wide long : Bool) (size count : List ℕ) (items : List (List ℕ)) (text : List ℕ)
      → IsNumber wide size (length (count ++ by_width long 0xa3 0xb3 ∷ text)) → IsNumber wide count (length items)
      → IsRun long items text → IsSymbols items (by_width wide 0xe0 0xf0 ∷ size ++ (count ++ by_width long 0xa3 0xb3 ∷ text))
  bare : (wide : Bool) (size count : List ℕ) → IsNumber wide size (length count) → IsNumber wide count 0
      → IsSymbols [] (by_width wide 0xe0 0xf0 ∷ size ++ count)

-- ---- their readers

abbrev pub symbol_of : List ℕ → Option (List ℕ)
symbol_of bytes = if is_ascii bytes then Some bytes else None

unfoldable pub item_at : Bool → List ℕ → Option (List ℕ × List ℕ)
item_at long bytes = region_at long bytes >>= λ x. if is_ascii x.0 then Some x else None

unfoldable pub run_at : ℕ → Bool → List ℕ → Option (List (List ℕ))
run_at zero long bytes = if is_empty bytes then Some [] else None
run_at (suc n) long bytes = item_at long bytes >>= λ x. run_at n long x.1 >>= λ others. Some (x.0 ∷ others)

unfoldable pub all_at : ℕ → List ℕ → Option (List (List ℕ))
all_at n bytes =
    if is_empty bytes then (if n == 0 then Some [] else None)
    else byte_at bytes >>= λ c.
    if c.0 == 0xa3 then run_at n false c.1
    else if c.0 == 0xb3 then run_at n true c.1
    else None

unfoldable pub array_at : Bool → List ℕ → Option (List (List ℕ) × List ℕ)
array_at wide bytes = region_at wide bytes >>= λ r. count_at wide r.0 >>= λ n. all_at n.0 n.1 >>= λ items. Some (items, r.1)

abbrev pub alone_at : Bool → List ℕ → Option (List (List ℕ) × List ℕ)
alone_at long bytes = item_at long bytes >>= λ x. Some (x.0 ∷ [], x.1)

unfoldable pub symbols_at : List ℕ → Option (List (List ℕ) × List ℕ)
symbols_at bytes =
    byte_at bytes >>= λ code.
    if code.0 == 0xa3 then alone_at false code.1
    else if code.0 == 0xb3 then alone_at true code.1
    else if code.0 == 0xe0 then array_at false code.1
    else if code.0 == 0xf0 then array_at true code.1
    else None
