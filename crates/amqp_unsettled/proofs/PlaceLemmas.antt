-- What stands before the place where a search ended, and after it.
use Rattle.std.proofs.Common.{◌≡◌, ℕ, suc, zero, ◌<◌, ◌≤◌, arith, List, [], ◌∷◌, length, take, drop, map}
use Rattle.std.proofs.Common.{ap, sym, subst, refl, Bool, false, Option, Some}
use Rattle.std.proofs.Common.{None}
use Rattle.std.specs.Prelude.{slice_get}
use Rattle.amqp_unsettled.specs.Inner.Order.{Each, NonePasses}
use Rattle.amqp_unsettled.specs.Inner.Order.{IsRising, Begins}
use Rattle.amqp_unsettled.proofs.ListLemmas.{each_map, each_both, each_drop, each_join}
use Rattle.amqp_unsettled.proofs.OrderLemmas.{each_before, each_from, each_after_item}

module _ {X : Type 0} where
  pub item_at : (xs : List X) (c : ℕ) → c < length xs → (x : X) × (slice_get xs c ≡ Some x)
  item_at [] c h = absurd (omega (arith, h))
  item_at (x ∷ xs) zero h = (x, refl)
  item_at (x ∷ xs) (suc c) h = item_at xs c (omega (arith, h))

  pub from_item : (c : ℕ) (xs : List X) (x : X) → slice_get xs c ≡ Some x → drop c xs ≡ x ∷ drop (suc c) xs
  from_item c [] x e = absurd (let n : (let n : Option X = None in n) ≡ Some x = e in grind (arith, n))
  from_item zero (y ∷ ys) x e = let is : Some y ≡ Some x = e in let same : y ≡ x = grind (arith, is) in
      ap (λ z. z ∷ ys) same
  from_item (suc c) (y ∷ ys) x e = from_item c ys x e

  pub nothing_after : (c : ℕ) (xs : List X) → length xs ≤ c → drop c xs ≡ []
  nothing_after zero [] h = refl
  nothing_after (suc c) [] h = refl
  nothing_after zero (x ∷ xs) h = absurd (omega (arith, h))
  nothing_after (suc c) (x ∷ xs) h = nothing_after c xs (omega (arith, h))

  -- a test, and a target that all that pass are at or after; P holds of each item
  module _ (f : X → ℕ) (p : X → Bool) (target : ℕ) (P : X → Type 0)
      (low : (x : X) → f x < target → p x ≡ false)
      (late : (x y : X) → P x → P y → target ≤ f x → f x < f y → p x ≡ false → p y ≡ false) where
    pub before : (c : ℕ) (xs : List X) → Begins (map f xs) target c → NonePasses p (take c xs)
    before c xs b = each_map (λ x. f x < target) (λ x. p x ≡ false) low (take c xs) (each_before f target c xs b)

    pub past_end : (c : ℕ) (xs : List X) → Begins (map f xs) target c → length xs ≤ c → NonePasses p xs
    past_end c xs b h = each_join (λ x. p x ≡ false) c xs (before c xs b)
        (subst (NonePasses p) (sym (nothing_after c xs h)) tt)

    pub not_there : (c : ℕ) (xs : List X) (x : X) → Begins (map f xs) target c → IsRising (map f xs) → Each P xs →
        slice_get xs c ≡ Some x → p x ≡ false → NonePasses p xs
    not_there c xs x b r h at fails =
        let these = from_item c xs x at in
        let from : Each (λ y. target ≤ f y) (x ∷ drop (suc c) xs) = subst (Each (λ y. target ≤ f y)) these
        (each_from f target c xs b) in
        let have : Each P (x ∷ drop (suc c) xs) = subst (Each P) these (each_drop P c xs h) in
        let more = each_both (λ y. f x < f y) P (drop (suc c) xs) (each_after_item f c xs x r at) have.1 in
        let rest = each_map (λ y. (f x < f y) × P y) (λ y. p y ≡ false) (λ y m. late x y have.0 m.1 from.0 m.0 fails)
        (drop (suc c) xs) more in
        each_join (λ y. p y ≡ false) c xs (before c xs b) (subst (NonePasses p) (sym these) (fails, rest))
