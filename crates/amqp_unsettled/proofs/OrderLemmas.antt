-- Rising numbers, and the place where those of at least so much begin.
use Rattle.std.proofs.Common.{◌-◌, ◌≡◌, ℕ, suc, zero, ◌+◌, ◌<◌, ◌≤◌, arith, List, [], ◌∷◌, length, take, drop}
use Rattle.std.proofs.Common.{map}
use Rattle.std.proofs.Common.{sym, subst, inl, inr, min, Some}
use Rattle.std.specs.Prelude.{slice_get, slice_index}
use Rattle.std.proofs.lemmas.Bool.{cases_order}
use Rattle.amqp_unsettled.specs.Inner.Order.{Each}
use Rattle.amqp_unsettled.specs.Inner.Order.{Above, Below, IsRising, Begins, HoldsPlace}

above_at : (n : ℕ) (ks : List ℕ) → Above n ks → (i : ℕ) → i < length ks → n < slice_index ks i
above_at n [] a i h = absurd (omega arith)
above_at n (k ∷ ks) a zero h = a.0
above_at n (k ∷ ks) a (suc i) h = above_at n ks a.1 i (omega arith)

pub rising_at : (ks : List ℕ) → IsRising ks → (i j : ℕ) → i < j → j < length ks → slice_index ks i < slice_index ks j
rising_at [] r i j lt h = absurd (omega arith)
rising_at (k ∷ ks) r i zero lt h = absurd (omega arith)
rising_at (k ∷ ks) r zero (suc j) lt h = above_at k ks r.0 j (omega arith)
rising_at (k ∷ ks) r (suc i) (suc j) lt h = rising_at ks r.1 i j (omega arith) (omega arith)

-- what is before a place with less is less
pub below_place : (ks : List ℕ) (at target : ℕ) → IsRising ks → at < length ks → slice_index ks at < target →
    (i : ℕ) → i < at + 1 → slice_index ks i < target
below_place ks at target rising within less i h =
    elim (cases_order i at) [
      | inl e ↦ subst (λ k. slice_index ks k < target) (sym e) less
      | inr (inl lt) ↦ let r = rising_at ks rising i at lt within in omega (arith, r, less)
      | inr (inr gt) ↦ absurd (omega arith)
    ]

-- what is after a place with no less is no less
pub above_place : (ks : List ℕ) (at target : ℕ) → IsRising ks → target ≤ slice_index ks at →
    (i : ℕ) → at ≤ i → i < length ks → target ≤ slice_index ks i
above_place ks at target rising more i h within =
    elim (cases_order i at) [
      | inl e ↦ subst (λ k. target ≤ slice_index ks k) (sym e) more
      | inr (inl lt) ↦ absurd (omega arith)
      | inr (inr gt) ↦ let r = rising_at ks rising at i gt within in omega (arith, r, more)
    ]

-- a number rises by one at least from each place to the next
far_at : (ks : List ℕ) → IsRising ks → (i k j : ℕ) → j ≡ i + k → j < length ks → slice_index ks i + k ≤ slice_index ks j
far_at ks r i zero j e h = subst (λ n. slice_index ks i + 0 ≤ slice_index ks n) (let same : i ≡ j = omega (arith, e) in
    same) (omega arith)
far_at ks r i (suc k) j e h =
    let less = far_at ks r i k (j - 1) (omega (arith, e)) (omega (arith, h)) in
    let one = rising_at ks r (j - 1) j (omega (arith, e)) h in
    omega (arith, less, one)

-- the part that holds a place, by the first number and the last
module _ (ks : List ℕ) (target first last : ℕ) (r : IsRising ks) (some : 0 < length ks)
    (begin : slice_index ks 0 ≡ first)
    (end : slice_index ks (length ks - 1) ≡ last) where
  above_part : (high : ℕ) → high ≡ min (length ks) (target - first) → (i : ℕ) → high ≤ i → i < length ks →
      target ≤ slice_index ks i
  above_part high e i h k = let far = far_at ks r 0 i i (omega arith) k in omega (arith, far, e, begin, h, k)

  below_part : (low : ℕ) → low ≡ length ks - 1 - (last - target) → target ≤ last → (i : ℕ) → i < low →
      slice_index ks i < target
  below_part low e t i h =
      let far = far_at ks r i (length ks - 1 - i) (length ks - 1) (omega (arith, e, h)) (omega (arith, some)) in
      omega (arith, far, e, end, t, h)

  below_all : last < target → (i : ℕ) → i < length ks → slice_index ks i < target
  below_all t i h =
      let far = far_at ks r i (length ks - 1 - i) (length ks - 1) (omega (arith, h)) (omega (arith, some)) in
      omega (arith, far, end, t)

  ordered : (low high : ℕ) → low ≤ length ks → ((i : ℕ) → i < low → slice_index ks i < target) →
      ((i : ℕ) → high ≤ i → i < length ks → target ≤ slice_index ks i) → low ≤ high
  ordered low high w below above =
      elim (cases_order high low) [
        | inl e ↦ omega (arith, e)
        | inr (inl lt) ↦ absurd (let b = below high lt in let a = above high (omega arith) (omega (arith, lt, w)) in
            omega (arith, a, b))
        | inr (inr gt) ↦ omega (arith, gt)
      ]

  pub near_part : (low high : ℕ) → high ≡ min (length ks) (target - first) → low ≡ length ks - 1 - (last - target) →
      target ≤ last →
      HoldsPlace ks target low high
  near_part low high e f t =
      let below = below_part low f t in
      let above = above_part high e in
      record {
        order = ordered low high (omega (arith, f)) below above;
        within = omega (arith, e);
        below =
            below;
        above = above;
      }

  pub past_part : (low high : ℕ) → high ≡ min (length ks) (target - first) → low ≡ length ks → last < target →
      HoldsPlace ks target low high
  past_part low high e f t =
      let below = λ (i : ℕ) (h : i < low). below_all t i (omega (arith, h, f)) in
      let above = above_part high e in
      record {
        order = ordered low high (omega (arith, f)) below above;
        within = omega (arith, e);
        below =
            below;
        above = above;
      }

module _ {X : Type 0} (f : X → ℕ) where
  pub above_each : (n : ℕ) (xs : List X) → Above n (map f xs) → Each (λ x. n < f x) xs
  above_each n [] a = tt
  above_each n (x ∷ xs) a = (a.0, above_each n xs a.1)

  pub below_each : (n : ℕ) (xs : List X) → Below n (map f xs) → Each (λ x. f x < n) xs
  below_each n [] a = tt
  below_each n (x ∷ xs) a = (a.0, below_each n xs a.1)

  -- ---- around a place

  pub each_before : (target c : ℕ) (xs : List X) → Begins (map f xs) target c → Each (λ x. f x < target) (take c xs)
  each_before target zero xs b = tt
  each_before target (suc c) [] b = tt
  each_before target (suc c) (x ∷ xs) b = (b.below 0 (omega arith), each_before target c xs (later target c x xs b))
    where
      later : (target c : ℕ) (x : X) (xs : List X) → Begins (map f (x ∷ xs)) target (suc c) → Begins (map f xs) target c
      later target c x xs b = record {
        within = let w = b.within in omega (arith, w);
        below = λ i h. b.below (suc i) (omega (arith, h));
        above = λ i h k. b.above (suc i) (omega (arith, h)) (omega (arith, k));
      }

  pub each_from : (target c : ℕ) (xs : List X) → Begins (map f xs) target c → Each (λ x. target ≤ f x) (drop c xs)
  each_from target zero [] b = tt
  each_from target zero (x ∷ xs) b = (
    b.above 0 (omega arith) (omega arith),
    each_from target zero xs (record {
      within = omega arith;
      below = λ i h. absurd (omega (arith, h));
      above = λ i h k. b.above (suc i) (omega arith) (omega (arith, k));
    }),
  )
  each_from target (suc c) [] b = tt
  each_from target (suc c) (x ∷ xs) b = each_from target c xs (record {
    within = let w = b.within in omega (arith, w);
    below = λ i h. b.below (suc i) (omega (arith, h));
    above = λ i h k. b.above (suc i) (omega (arith, h)) (omega (arith, k));
  })

  pub each_after_item : (c : ℕ) (xs : List X) (x : X) → IsRising (map f xs) → slice_get xs c ≡ Some x →
      Each (λ y. f x < f y) (drop (suc c) xs)
  each_after_item c [] x r at = tt
  each_after_item zero (y ∷ ys) x r at =
      let is : Some y ≡ Some x = at in let same : y ≡ x = grind (arith, is) in
      subst (λ z. Each (λ w. f z < f w) ys) same (above_each (f y) ys r.0)
  each_after_item (suc c) (y ∷ ys) x r at = each_after_item c ys x r.1 at
