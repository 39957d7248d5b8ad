-- Writing the parts of a list: one more part.
use Rattle.std.proofs.Common.{◌≡◌, ℕ, suc, ◌+◌, ◌<◌, ◌≤◌, Bool, true, false, cond, eqb, List, [], ◌∷◌, ◌++◌, length, get_or, take, drop, map, sym, ap, ◌∙◌, arith}
use Rattle.amqp_values.specs.Slots.{is_null}
use Rattle.amqp_values.specs.Reading.{joined}
use Rattle.amqp_values.specs.Writing.{keep, trim, list_head, list_text}
use Rattle.amqp_values.proofs.TrimLemmas.{joined-append}
use Rattle.std.proofs.lemmas.Bool.{ne_eqb}
use Rattle.std.proofs.lemmas.List.{length-append, take_more, map_push, map-append, take-append-drop, append-nil}

pub more : {X : Type 0} (f : X → List ℕ) (xs : List X) (i : ℕ) (x : X) → i < length xs → x ≡ get_or xs i x → map f (take (i + 1) xs) ≡ map f (take i xs) ++ f x ∷ []
more f xs i x lt is =
    let e = take_more xs i x lt in
    ap (map f) (e ∙ ap (λ y. take i xs ++ y ∷ []) (sym is)) ∙ map_push f (take i xs) x

pub joined_more : {X : Type 0} (f : X → List ℕ) (xs : List X) (i : ℕ) (x : X) → i < length xs → x ≡ get_or xs i x → joined (map f (take (i + 1) xs)) ≡ joined (map f (take i xs)) ++ f x
joined_more f xs i x lt is = ap joined (more f xs i x lt is) ∙ joined-append (map f (take i xs)) (f x ∷ []) ∙ ap (λ (r : List ℕ). joined (map f (take i xs)) ++ r) (append-nil (f x))

pub room_for : {X : Type 0} (f : X → List ℕ) (xs : List X) (i : ℕ) (x : X) → i < length xs → x ≡ get_or xs i x → length (joined (map f (take i xs))) + length (f x) ≤ length (joined (map f xs))
room_for f xs i x lt is =
    let whole : joined (map f xs) ≡ joined (map f (take (i + 1) xs)) ++ joined (map f (drop (i + 1) xs)) =
    ap (λ ys. joined (map f ys)) (sym (take-append-drop (i + 1) xs)) ∙ ap joined (map-append f (take (i + 1) xs) (drop (i + 1) xs)) ∙ joined-append (map f (take (i + 1) xs)) (map f (drop (i + 1) xs)) in
    let a = ap length whole ∙ length-append (joined (map f (take (i + 1) xs))) (joined (map f (drop (i + 1) xs))) in
    let b = ap length (joined_more f xs i x lt is) ∙ length-append (joined (map f (take i xs))) (f x) in
    omega (arith, a, b)

length_keep : (p : List ℕ) (ts : List (List ℕ)) → length (keep p ts) ≤ suc (length ts)
length_keep p [] = go (is_null p)
  where
    go : (b : Bool) → length (cond b [] (p ∷ [])) ≤ suc 0
    go true = omega arith
    go false = omega arith
length_keep p (t ∷ ts) = omega arith

pub length_trim : (xs : List (List ℕ)) → length (trim xs) ≤ length xs
length_trim [] = omega arith
length_trim (x ∷ xs) = omega (arith, length_keep x (trim xs), length_trim xs)

pub size_le : (ps : List (List ℕ)) → length (joined ps) ≤ length (list_text ps)
unfolding list_text
size_le [] = omega arith
size_le (p ∷ ps) = let e : eqb (length (p ∷ ps)) 0 ≡ false = ne_eqb _ _ (omega arith) in
    rw e (omega (arith, length-append (list_head (length (p ∷ ps)) (length (joined (p ∷ ps)))) (joined (p ∷ ps))))
