-- The items of an array of symbols: which have lengths of one byte, and how many there can be.
use Rattle.std.proofs.Common.{◌≡◌, ℕ, zero, suc, ◌<◌, take, Bool, true, false, List, [], ◌∷◌, ◌++◌, ◌+◌, ◌≤◌, length, get_or, ltb, ◌&&◌, not, refl, sym, ap, ◌∙◌, arith}
use Rattle.std.specs.List.{list_all}
use Rattle.std.proofs.lemmas.Bool.{ltb-true}
use Rattle.std.proofs.lemmas.List.{length-append}
use Rattle.std.specs.Int.{w32, to_be_bytes}
use Rattle.amqp_values.specs.Writing.{is_long, is_wide, number_text, item_text, run_text, symbols_body, symbols_text}

both : (a b : Bool) → (a && b) ≡ true → (a ≡ true) × (b ≡ true)
both true b e = (refl, e)
both false b e = absurd cc

short_at : (xs : List (List ℕ)) (i : ℕ) (x : List ℕ) → list_all (λ s. ltb (length s) 256) xs ≡ true → i < length xs → x ≡ get_or xs i x → length x < 256
short_at [] i x h lt is = absurd (omega arith)
short_at (y ∷ ys) zero x h lt is = let s = both (ltb (length y) 256) (list_all (λ s. ltb (length s) 256) ys) h in rw is (ltb-true (length y) 256 s.0)
short_at (y ∷ ys) (suc i) x h lt is = let s = both (ltb (length y) 256) (list_all (λ s. ltb (length s) 256) ys) h in short_at ys i x s.1 (omega arith) is

not_false : (b : Bool) → not b ≡ false → b ≡ true
not_false true e = refl
not_false false e = absurd cc

-- where no symbol is long, each has a length of one byte
pub short_item : (xs : List (List ℕ)) (long : Bool) (i : ℕ) (x : List ℕ) → long ≡ is_long xs → long ≡ false → i < length xs → x ≡ get_or xs i x → length x < 256
short_item xs long i x e f lt is = short_at xs i x (not_false _ (sym e ∙ f)) lt is

item_some : (long : Bool) (s : List ℕ) → 0 < length (item_text long s)
item_some true s = omega (arith, length-append (to_be_bytes w32 (length s)) s)
item_some false s = omega arith

run_many : (long : Bool) (items : List (List ℕ)) → length items ≤ length (run_text long items)
run_many long [] = omega arith
run_many long (s ∷ others) = omega (arith, run_many long others, item_some long s, length-append (item_text long s) (run_text long others))

array_longer : (wide : Bool) (count : ℕ) (body : List ℕ) → length body ≤ length (number_text wide (length (number_text wide count) + length body) ++ (number_text wide count ++ body))
array_longer wide count body =
    omega (arith, length-append (number_text wide (length (number_text wide count) + length body)) (number_text wide count ++ body), length-append (number_text wide count) body)

-- there are no more symbols than bytes of their array
pub few_symbols : (items : List (List ℕ)) → length items ≤ length (symbols_text items)
unfolding symbols_text
few_symbols items =
    let long = is_long items in
    omega (arith, run_many long items, array_longer (is_wide (length items) (length (symbols_body long items))) (length items) (symbols_body long items))

-- one more that passes a test, and one that fails it
pub all_more : {X : Type 0} (p : X → Bool) (xs : List X) (i : ℕ) (x : X) → list_all p (take i xs) ≡ true → i < length xs → x ≡ get_or xs i x → p x ≡ true → list_all p (take (suc i) xs) ≡ true
all_more p [] i x h lt is t = absurd (omega arith)
all_more p (y ∷ ys) zero x h lt is t = rw (ap p (sym is) ∙ t) refl
all_more p (y ∷ ys) (suc i) x h lt is t = let s = both (p y) (list_all p (take i ys)) h in rw s.0 (all_more p ys i x s.1 (omega arith) is t)

second_false : (a b : Bool) → b ≡ false → (a && b) ≡ false
second_false true b e = e
second_false false b e = refl

pub all_fails : {X : Type 0} (p : X → Bool) (xs : List X) (i : ℕ) (x : X) → i < length xs → x ≡ get_or xs i x → p x ≡ false → list_all p xs ≡ false
all_fails p [] i x lt is f = absurd (omega arith)
all_fails p (y ∷ ys) zero x lt is f = rw (ap p (sym is) ∙ f) refl
all_fails p (y ∷ ys) (suc i) x lt is f = second_false (p y) (list_all p ys) (all_fails p ys i x (omega arith) is f)

pub whole : {X : Type 0} (p : X → Bool) (xs : List X) (i : ℕ) → length xs ≤ i → list_all p (take i xs) ≡ true → list_all p xs ≡ true
whole p [] i le h = refl
whole p (y ∷ ys) zero le h = absurd (omega arith)
whole p (y ∷ ys) (suc i) le h = let s = both (p y) (list_all p (take i ys)) h in rw s.0 (whole p ys i (omega arith) s.1)
