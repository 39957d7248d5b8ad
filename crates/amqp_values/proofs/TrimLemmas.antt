-- Nulls at the end of a list are cut.
use Rattle.std.proofs.Common.{◌≡◌, ℕ, Bool, true, false, cond, List, [], ◌∷◌, ◌++◌, length, take, refl, sym, ap, ◌∙◌, append_assoc}
use Rattle.amqp_values.specs.Slots.{is_null}
use Rattle.amqp_values.specs.Reading.{joined}
use Rattle.amqp_values.specs.Writing.{keep, trim}

pub joined-append : (a b : List (List ℕ)) → joined (a ++ b) ≡ joined a ++ joined b
joined-append [] b = refl
joined-append (x ∷ xs) b = ap (λ (r : List ℕ). x ++ r) (joined-append xs b) ∙ sym (append_assoc x (joined xs) (joined b))

keep_take : (p : List ℕ) (xs ts : List (List ℕ)) → take (length ts) xs ≡ ts → take (length (keep p ts)) (p ∷ xs) ≡ keep p ts
keep_take p xs [] e = go (is_null p)
  where
    go : (b : Bool) → take (length (cond b [] (p ∷ []))) (p ∷ xs) ≡ cond b [] (p ∷ [])
    go true = refl
    go false = refl
keep_take p xs (t ∷ ts) e = ap (λ (r : List (List ℕ)). p ∷ r) e

-- the trimmed parts are the first ones
pub trim_take : (xs : List (List ℕ)) → take (length (trim xs)) xs ≡ trim xs
trim_take [] = refl
trim_take (x ∷ xs) = keep_take x xs (trim xs) (trim_take xs)
