-- The canonical text of multiple symbols is in the grammar.
use Rattle.std.proofs.Common.{◌≡◌, ℕ, ◌+◌, ◌^◌, ◌<◌, ◌≤◌, Bool, true, false, List, [], ◌∷◌, ◌++◌, length, refl, sym, subst, arith}
use Rattle.std.proofs.lemmas.List.{length-append}
use Rattle.amqp_values.specs.Reading.{IsNumber}
use Rattle.amqp_values.specs.Symbols.{IsRun, no_symbols, more_symbols, IsSymbols, array}
use Rattle.amqp_values.specs.Slots.{is_null}
use Rattle.amqp_values.specs.Writing.{number_text, item_text, is_long, run_text, array_text, is_wide, symbols_body, symbols_text}
use Rattle.amqp_values.specs.Inner.Held.{AreSymbols}
use Rattle.amqp_values.proofs.SlotCanonicalLemmas.{Fits, IsCanonical, other_canonical}
use Rattle.amqp_values.proofs.NumberCanonicalLemmas.{number_canonical}

run_is : (long : Bool) (items : List (List ℕ)) → AreSymbols items → IsRun long items (run_text long items)
run_is long [] h = no_symbols
run_is long (s ∷ others) h = more_symbols (number_text long (length s)) s others (run_text long others) (number_canonical long (length s) h.0.short) h.0.ascii (run_is long others h.1)

-- each item has a length of one byte at least
few : (long : Bool) (items : List (List ℕ)) → length items ≤ length (run_text long items)
few long [] = omega arith
few long (s ∷ others) = omega (arith, few long others, length-append (item_text long s) (run_text long others), length-append (number_text long (length s)) s, some long (length s))
  where
    some : (wide : Bool) (n : ℕ) → 0 < length (number_text wide n)
    some true n = omega arith
    some false n = omega arith

array_is : (wide long : Bool) (items : List (List ℕ)) → AreSymbols items → Fits (array_text wide (length items) (symbols_body long items))
    → IsSymbols items (array_text wide (length items) (symbols_body long items))
array_is wide long items h fits =
    let count = number_text wide (length items) in
    let body = symbols_body long items in
    let size = length count + length body in
    let after = length-append count body in
    let whole = length-append (number_text wide size) (count ++ body) in
    let small : size < 2 ^ 32 = omega (arith, after, whole, fits) in
    let size_is : IsNumber wide (number_text wide size) (length (count ++ body)) = subst (λ m. IsNumber wide (number_text wide size) m) (sym after) (number_canonical wide size small) in
    let count_is : IsNumber wide count (length items) = number_canonical wide (length items) (omega (arith, few long items, small)) in
    array wide long (number_text wide size) count items (run_text long items) size_is count_is (run_is long items h)

no_null : (wide : Bool) (count : ℕ) (body : List ℕ) → is_null (array_text wide count body) ≡ false
no_null true count body = refl
no_null false count body = refl

pub symbols_canonical : (items : List (List ℕ)) → AreSymbols items → IsCanonical (IsSymbols items) (symbols_text items)
unfolding symbols_text
symbols_canonical items h = other_canonical _ _ (no_null (is_wide (length items) (length (symbols_body (is_long items) items))) (length items) (symbols_body (is_long items) items))
    (array_is (is_wide (length items) (length (symbols_body (is_long items) items))) (is_long items) items h)
