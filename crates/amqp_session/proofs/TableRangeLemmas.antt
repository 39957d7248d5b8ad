-- A range of numbers in a table: its records are one stretch, or those on both sides of one.
use Rattle.std.proofs.Common.{◌≡◌, ℕ, suc, zero, ◌<◌, ◌≤◌, ◌+◌, ◌-◌, ◌%◌, ◌^◌, List, [], ◌∷◌, ◌++◌, length, take, drop, refl, ap, sym, subst, ◌∙◌, arith, cond, Bool, true, false, not, nat_le, inl, inr, append-nil}
use Rattle.std.specs.List.{filter}
use Rattle.std.proofs.lemmas.Bool.{cases_lt}
use Rattle.std.proofs.lemmas.Bool.Decides.{nat_tests}
use Rattle.std.proofs.lemmas.Grind.{common_steps}
use Rattle.std.proofs.lemmas.List.{drop_all}
use Rattle.amqp_session.specs.declared.deliveries.Delivery.{Delivery}
use Rattle.amqp_session.specs.Deliveries.{Under, IsTable, cut, number_at}
use Rattle.amqp_session.specs.Disposing.{distance}

-- the place where the numbers from n on begin
pub record Begins (rows : List Delivery) (n place : ℕ) : Type 0 where
  pub within : place ≤ length rows
  pub below : (i : ℕ) → i < place → number_at rows i < n
  pub above : (i : ℕ) → place ≤ i → i < length rows → n ≤ number_at rows i

under_at : (n : ℕ) (rows : List Delivery) → Under n rows → (i : ℕ) → i < length rows → number_at rows i < n
under_at n [] u i h = absurd (omega arith)
under_at n (e ∷ es) u zero h = u.0
under_at n (e ∷ es) u (suc i) h = under_at n es u.1 i (omega (arith, h))

-- the larger number begins no earlier
pub begins_later : (rows : List Delivery) (m n from to : ℕ) → m ≤ n → Begins rows m from → Begins rows n to → from ≤ to
begins_later rows m n from to h a b =
    elim (cases_lt to from) [
      | inl less ↦ absurd (let low = a.below to less in let high = b.above to (omega arith) (let w = a.within in omega (arith, less, w)) in omega (arith, h, low, high))
      | inr more ↦ more
    ]

-- ---- the records that a test picks

module _ (test : ℕ → Bool) where
  abbrev picked : List Delivery → List Delivery
  picked rows = filter (λ r. test r.number) rows

  abbrev left : List Delivery → List Delivery
  left rows = filter (λ r. not (test r.number)) rows

  -- the records from one place up to another have this answer
  abbrev pub Tests : Bool → ℕ → ℕ → List Delivery → Type 0
  Tests b low high rows = (i : ℕ) → low ≤ i → i < high → i < length rows → test (number_at rows i) ≡ b

  later_tests : (b : Bool) (low high : ℕ) (e : Delivery) (es : List Delivery) → Tests b (suc low) (suc high) (e ∷ es) → Tests b low high es
  later_tests b low high e es t = λ i ge lt within. t (suc i) (omega (arith, ge)) (omega (arith, lt)) (omega (arith, within))

  front : (b : Bool) (high : ℕ) (e : Delivery) (es : List Delivery) → Tests b zero (suc high) (e ∷ es) → Tests b zero high es
  front b high e es t = λ i ge lt within. t (suc i) (omega arith) (omega (arith, lt)) (omega (arith, within))

  nothing : (b : Bool) (high : ℕ) (rows : List Delivery) → high ≤ zero → Tests b zero high rows
  nothing b high rows h = λ i ge lt within. absurd (omega (arith, h, lt))

  kept : (e : Delivery) (es : List Delivery) → test e.number ≡ false → (left (e ∷ es) ≡ e ∷ left es) × (picked (e ∷ es) ≡ picked es)
  kept e es t = (ap (λ b. cond (not b) (e ∷ left es) (left es)) t, ap (λ b. cond b (e ∷ picked es) (picked es)) t)

  gone : (e : Delivery) (es : List Delivery) → test e.number ≡ true → (left (e ∷ es) ≡ left es) × (picked (e ∷ es) ≡ e ∷ picked es)
  gone e es t = (ap (λ b. cond (not b) (e ∷ left es) (left es)) t, ap (λ b. cond b (e ∷ picked es) (picked es)) t)

  -- one stretch is picked
  between : (from to : ℕ) (rows : List Delivery) → from ≤ to → to ≤ length rows → Tests false zero from rows → Tests true from to rows →
      Tests false to (length rows) rows → (left rows ≡ take from rows ++ drop to rows) × (length (picked rows) ≡ to - from)
  between zero zero [] h k a b c = (refl, refl)
  between from (suc to) [] h k a b c = absurd (omega (arith, k))
  between (suc from) zero rows h k a b c = absurd (omega (arith, h))
  between zero zero (e ∷ es) h k a b c =
      let g = kept e es (c 0 (omega arith) (omega arith) (omega arith)) in
      let rest = between zero zero es (omega arith) (omega arith) (nothing false zero es (omega arith)) (nothing true zero es (omega arith)) (front false (length es) e es c) in
      (g.0 ∙ ap (λ xs. e ∷ xs) rest.0, ap length g.1 ∙ rest.1)
  between zero (suc to) (e ∷ es) h k a b c =
      let g = gone e es (b 0 (omega arith) (omega arith) (omega arith)) in
      let rest = between zero to es (omega arith) (omega (arith, k)) (nothing false zero es (omega arith)) (front true to e es b) (later_tests false to (length es) e es c) in
      (g.0 ∙ rest.0, let x = ap length g.1 in let y = rest.1 in omega (arith, x, y))
  between (suc from) (suc to) (e ∷ es) h k a b c =
      let g = kept e es (a 0 (omega arith) (omega arith) (omega arith)) in
      let rest = between from to es (omega (arith, h)) (omega (arith, k)) (front false from e es a) (later_tests true from to e es b) (later_tests false to (length es) e es c) in
      (g.0 ∙ ap (λ xs. e ∷ xs) rest.0, let x = ap length g.1 in let y = rest.1 in omega (arith, x, y))

  -- or all but one stretch
  around : (to from : ℕ) (rows : List Delivery) → to ≤ from → from ≤ length rows → Tests true zero to rows → Tests false to from rows →
      Tests true from (length rows) rows → (left rows ≡ drop to (take from rows)) × (length (picked rows) ≡ (length rows - from) + to)
  around zero zero [] h k a b c = (refl, refl)
  around to (suc from) [] h k a b c = absurd (omega (arith, k))
  around (suc to) zero rows h k a b c = absurd (omega (arith, h))
  around zero zero (e ∷ es) h k a b c =
      let g = gone e es (c 0 (omega arith) (omega arith) (omega arith)) in
      let rest = around zero zero es (omega arith) (omega arith) (nothing true zero es (omega arith)) (nothing false zero es (omega arith)) (front true (length es) e es c) in
      (g.0 ∙ rest.0, let x = ap length g.1 in let y = rest.1 in omega (arith, x, y))
  around zero (suc from) (e ∷ es) h k a b c =
      let g = kept e es (b 0 (omega arith) (omega arith) (omega arith)) in
      let rest = around zero from es (omega arith) (omega (arith, k)) (nothing true zero es (omega arith)) (front false from e es b) (later_tests true from (length es) e es c) in
      (g.0 ∙ ap (λ xs. e ∷ xs) rest.0, let x = ap length g.1 in let y = rest.1 in omega (arith, x, y))
  around (suc to) (suc from) (e ∷ es) h k a b c =
      let g = gone e es (a 0 (omega arith) (omega arith) (omega arith)) in
      let rest = around to from es (omega (arith, h)) (omega (arith, k)) (front true to e es a) (later_tests false to from e es b) (later_tests true from (length es) e es c) in
      (g.0 ∙ rest.0, let x = ap length g.1 in let y = rest.1 in omega (arith, x, y))

-- ---- the cut

cut_between : (from to : ℕ) (rows : List Delivery) → from ≤ to → to ≤ length rows → cut from (to - from) rows ≡ take from rows ++ drop to rows
cut_between from to rows h k =
    let t : nat_le (to - from) (length rows - from) ≡ true = grind (arith, nat_tests, common_steps) in
    let e : from + (to - from) ≡ to = omega (arith, h) in
    ap (λ b. cond b (take from rows ++ drop (from + (to - from)) rows) (drop ((to - from) - (length rows - from)) (take from rows))) t ∙ ap (λ n. take from rows ++ drop n rows) e

cut_around : (to from : ℕ) (rows : List Delivery) → to ≤ from → from ≤ length rows → cut from ((length rows - from) + to) rows ≡ drop to (take from rows)
cut_around zero from rows h k =
    let t : nat_le ((length rows - from) + 0) (length rows - from) ≡ true = grind (arith, nat_tests, common_steps) in
    ap (λ b. cond b (take from rows ++ drop (from + ((length rows - from) + 0)) rows) (drop (((length rows - from) + 0) - (length rows - from)) (take from rows))) t
    ∙ ap (λ xs. take from rows ++ xs) (drop_all (from + ((length rows - from) + 0)) rows (omega (arith, k))) ∙ append-nil (take from rows)
cut_around (suc to) from rows h k =
    let n : ℕ = (length rows - from) + suc to in
    let t : nat_le n (length rows - from) ≡ false = grind (arith, nat_tests, common_steps) in
    let e : n - (length rows - from) ≡ suc to = omega arith in
    ap (λ b. cond b (take from rows ++ drop (from + n) rows) (drop (n - (length rows - from)) (take from rows))) t ∙ ap (λ m. drop m (take from rows)) e

-- ---- by distance

is_near : (first span n : ℕ) → distance first n ≤ span → nat_le (distance first n) span ≡ true
is_near first span n h = grind (arith, nat_tests, common_steps)

is_far : (first span n : ℕ) → span < distance first n → nat_le (distance first n) span ≡ false
is_far first span n h = grind (arith, nat_tests, common_steps)

up : (first n : ℕ) → first ≤ n → n < 2 ^ 32 → distance first n ≡ n - first
up first n h k = omega arith

down : (first n : ℕ) → n < first → first < 2 ^ 32 → distance first n ≡ n + 2 ^ 32 - first
down first n h k = omega arith

-- the number after a range
abbrev pub next : ℕ → ℕ → ℕ
next first span = ((first + span) % 2 ^ 32 + 1) % 2 ^ 32

-- how many places there are from one up to another
abbrev pub places : Bool → ℕ → ℕ → ℕ → ℕ
places passes from to len = cond passes ((len - from) + to) (to - from)

-- what a range of numbers is in a table
pub record Ranges (rows : List Delivery) (first span from count : ℕ) : Type 0 where
  pub few : count ≤ length rows
  pub left_is : cut from count rows ≡ filter (λ r. not (nat_le (distance first r.number) span)) rows
  pub count_is : count ≡ length (filter (λ r. nat_le (distance first r.number) span) rows)

module _ (rows : List Delivery) (first span from to : ℕ) (hf : first < 2 ^ 32) (hs : span < 2 ^ 32) (t : IsTable rows)
    (a : Begins rows first from) (b : Begins rows (next first span) to) where
  forward : first < next first span → Ranges rows first span from (to - from)
  forward h =
      let after = next first span in
      let order : from ≤ to = begins_later rows first after from to (omega (arith, h)) a b in
      let s = between (λ n. nat_le (distance first n) span) from to rows order b.within
      (λ i ge lt within. let low = a.below i lt in let d = down first (number_at rows i) low hf in is_far first span (number_at rows i) (omega (arith, d, low, h, hs, hf)))
      (λ i ge lt within. let high = a.above i ge within in let low = b.below i lt in let u = under_at (2 ^ 32) rows t.1 i within in let d = up first (number_at rows i) high u in is_near first span (number_at rows i) (omega (arith, d, high, low, h, hs, hf)))
      (λ i ge lt within. let high = b.above i ge within in let u = under_at (2 ^ 32) rows t.1 i within in let d = up first (number_at rows i) (omega (arith, h, high)) u in is_far first span (number_at rows i) (omega (arith, d, high, h, hs, hf)))
      in
      record { few = let w = b.within in omega (arith, w); left_is = cut_between from to rows order b.within ∙ sym s.0; count_is = sym s.1 }

  passing : next first span ≤ first → Ranges rows first span from ((length rows - from) + to)
  passing h =
      let after = next first span in
      let order : to ≤ from = begins_later rows after first to from h b a in
      let s = around (λ n. nat_le (distance first n) span) to from rows order a.within
      (λ i ge lt within. let low = b.below i lt in let less : number_at rows i < first = omega (arith, low, h) in let d = down first (number_at rows i) less hf in is_near first span (number_at rows i) (omega (arith, d, low, h, hs, hf)))
      (λ i ge lt within. let high = b.above i ge within in let low = a.below i lt in let d = down first (number_at rows i) low hf in is_far first span (number_at rows i) (omega (arith, d, high, low, h, hs, hf)))
      (λ i ge lt within. let high = a.above i ge within in let u = under_at (2 ^ 32) rows t.1 i within in let d = up first (number_at rows i) high u in is_near first span (number_at rows i) (omega (arith, d, high, u, h, hs, hf)))
      in
      record { few = let w = a.within in omega (arith, w, order); left_is = cut_around to from rows order a.within ∙ sym s.0; count_is = sym s.1 }

  by_order : (passes : Bool) → nat_le (next first span) first ≡ passes → Ranges rows first span from (places passes from to (length rows))
  by_order true e = passing (grind (arith, nat_tests, common_steps))
  by_order false e = forward (grind (arith, nat_tests, common_steps))

  pub ranges : (len count : ℕ) → len ≡ length rows → count ≡ places (nat_le (next first span) first) from to len →
      Ranges rows first span from count
  ranges len count e is =
      let passes : Bool = nat_le (next first span) first in
      subst (Ranges rows first span from) (sym (is ∙ ap (places passes from to) e)) (by_order passes refl)
