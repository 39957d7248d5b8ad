-- The first item that passes a test, the items that do, and a list without the first one.
use Rattle.std.proofs.Common.{◌≡◌, ℕ, suc, zero, arith, List, [], ◌∷◌, ◌++◌, take, drop, map}
use Rattle.std.proofs.Common.{ap, sym, subst, ◌∙◌, refl, cond, Bool, true, false, Option, Some, None}
use Rattle.std.specs.Prelude.{slice_get}
use Rattle.std.specs.List.{filter, find}
use Rattle.amqp_unsettled.specs.Table.{without_first}
use Rattle.amqp_unsettled.specs.Inner.Order.{Each, NonePasses}

module _ {X : Type 0} where
  pub each_map : (P Q : X → Type 0) → ((x : X) → P x → Q x) → (xs : List X) → Each P xs → Each Q xs
  each_map P Q f [] h = tt
  each_map P Q f (x ∷ xs) h = (f x h.0, each_map P Q f xs h.1)

  pub each_both : (P Q : X → Type 0) (xs : List X) → Each P xs → Each Q xs → Each (λ x. P x × Q x) xs
  each_both P Q [] h k = tt
  each_both P Q (x ∷ xs) h k = ((h.0, k.0), each_both P Q xs h.1 k.1)

  pub each_drop : (P : X → Type 0) (n : ℕ) (xs : List X) → Each P xs → Each P (drop n xs)
  each_drop P zero xs h = h
  each_drop P (suc n) [] h = tt
  each_drop P (suc n) (x ∷ xs) h = each_drop P n xs h.1

  pub each_join : (P : X → Type 0) (n : ℕ) (xs : List X) → Each P (take n xs) → Each P (drop n xs) → Each P xs
  each_join P zero xs h k = k
  each_join P (suc n) [] h k = tt
  each_join P (suc n) (x ∷ xs) h k = (h.0, each_join P n xs h.1 k)

  pub each_at : (P : X → Type 0) (c : ℕ) (xs : List X) (x : X) → Each P xs → slice_get xs c ≡ Some x → P x
  each_at P c [] x h at = absurd (let n : (let n : Option X = None in n) ≡ Some x = at in grind (arith, n))
  each_at P zero (y ∷ ys) x h at = let is : Some y ≡ Some x = at in let same : y ≡ x = grind (arith, is) in
      subst P same h.0
  each_at P (suc c) (y ∷ ys) x h at = each_at P c ys x h.1 at

  pub each_filter : (P : X → Type 0) (q : X → Bool) (xs : List X) → Each P xs → Each P (filter q xs)
  each_filter P q [] h = tt
  each_filter P q (x ∷ xs) h = by (q x) (each_filter P q xs h.1)
    where
      by : (b : Bool) → Each P (filter q xs) → Each P (cond b (x ∷ filter q xs) (filter q xs))
      by true r = (h.0, r)
      by false r = r

  -- ---- the first that passes

  pub none_found : (p : X → Bool) (xs : List X) → NonePasses p xs → (find p xs ≡ None) × (without_first p xs ≡ xs)
  none_found p [] h = (refl, refl)
  none_found p (x ∷ xs) h =
      let r = none_found p xs h.1 in
      (rw h.0 r.0, rw h.0 (ap (λ ys. x ∷ ys) r.1))

  pub not_found : (p : X → Bool) (xs : List X) → find p xs ≡ None → without_first p xs ≡ xs
  not_found p [] e = refl
  not_found p (x ∷ xs) e = by (p x) refl (λ rest. not_found p xs rest)
    where
      by : (b : Bool) → p x ≡ b → (find p xs ≡ None → without_first p xs ≡ xs) →
          cond (p x) xs (x ∷ without_first p xs) ≡ x ∷ xs
      by true t on = absurd (let is : Some x ≡ None = sym (ap (λ b. cond b (Some x) (find p xs)) t) ∙ e in
          grind (arith, is))
      by false t on = rw t (ap (λ ys. x ∷ ys) (on (sym (ap (λ b. cond b (Some x) (find p xs)) t) ∙ e)))

  pub found_each : (P : X → Type 0) (p : X → Bool) (xs : List X) (x : X) → Each P xs → find p xs ≡ Some x → P x
  found_each P p [] x h e = absurd (let n : (let n : Option X = None in n) ≡ Some x = e in grind (arith, n))
  found_each P p (y ∷ ys) x h e = by (p y) refl (λ rest. found_each P p ys x h.1 rest)
    where
      by : (b : Bool) → p y ≡ b → (find p ys ≡ Some x → P x) → P x
      by true t on = let is : Some y ≡ Some x = sym (ap (λ b. cond b (Some y) (find p ys)) t) ∙ e in
          let same : y ≡ x = grind (arith, is) in subst P same h.0
      by false t on = on (sym (ap (λ b. cond b (Some y) (find p ys)) t) ∙ e)

  pub found_passes : (p : X → Bool) (xs : List X) (x : X) → find p xs ≡ Some x → p x ≡ true
  found_passes p [] x e = absurd (let n : (let n : Option X = None in n) ≡ Some x = e in grind (arith, n))
  found_passes p (y ∷ ys) x e = by (p y) refl (λ rest. found_passes p ys x rest)
    where
      by : (b : Bool) → p y ≡ b → (find p ys ≡ Some x → p x ≡ true) → p x ≡ true
      by true t on = let is : Some y ≡ Some x = sym (ap (λ b. cond b (Some y) (find p ys)) t) ∙ e in
          let same : y ≡ x = grind (arith, is) in sym (ap p same) ∙ t
      by false t on = on (sym (ap (λ b. cond b (Some y) (find p ys)) t) ∙ e)

  pub each_without : (P : X → Type 0) (p : X → Bool) (xs : List X) → Each P xs → Each P (without_first p xs)
  each_without P p [] h = tt
  each_without P p (x ∷ xs) h = by (p x) (each_without P p xs h.1)
    where
      by : (b : Bool) → Each P (without_first p xs) → Each P (cond b xs (x ∷ without_first p xs))
      by true r = h.1
      by false r = (h.0, r)

  -- ---- those that pass

  pub filter_append : (q : X → Bool) (xs ys : List X) → filter q (xs ++ ys) ≡ filter q xs ++ filter q ys
  filter_append q [] ys = refl
  filter_append q (x ∷ xs) ys = by (q x) (filter_append q xs ys)
    where
      by : (b : Bool) → filter q (xs ++ ys) ≡ filter q xs ++ filter q ys →
          cond b (x ∷ filter q (xs ++ ys)) (filter q (xs ++ ys)) ≡ cond b (x ∷ filter q xs) (filter q xs) ++ filter q ys
      by true r = ap (λ zs. x ∷ zs) r
      by false r = r

-- ---- through a map

module _ {X Y : Type 0} (f : X → Y) where
  pub each_mapped : (P : Y → Type 0) (xs : List X) → Each (λ x. P (f x)) xs → Each P (map f xs)
  each_mapped P [] h = tt
  each_mapped P (x ∷ xs) h = (h.0, each_mapped P xs h.1)
