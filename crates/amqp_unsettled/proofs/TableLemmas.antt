-- A table that loses an entry: the same as one without its number; and what calls until None leave.
use Rattle.std.proofs.Common.{◌≡◌, ℕ, ◌+◌, ◌^◌, ◌<◌, arith, List, [], ◌∷◌, ◌++◌, length}
use Rattle.std.proofs.Common.{ap, sym, subst, ◌∙◌, refl, cond, not, ◌||◌, Bool, true, false, Option, Some, None}
use Rattle.std.specs.List.{filter, find, list_all, list_any}
use Rattle.amqp_unsettled.specs.Inner.Order.{Each}
use Rattle.amqp_unsettled.specs.declared.entry.Entry.{Entry}
use Rattle.amqp_unsettled.specs.Serial.{distance, is_after}
use Rattle.amqp_unsettled.specs.Table.{has_number, without_first}
use Rattle.amqp_unsettled.specs.Laws.{InOrder}
use Rattle.amqp_unsettled.proofs.ListLemmas.{each_map, each_without, found_each}
use Rattle.amqp_unsettled.proofs.NumberLemmas.{equal_test, other_test}
use Rattle.amqp_unsettled.proofs.NextLemmas.{all_pass, each_passes, is_after_parts}

module _ {X : Type 0} where
  pub filter_all : (q : X → Bool) (xs : List X) → Each (λ x. q x ≡ true) xs → filter q xs ≡ xs
  filter_all q [] h = refl
  filter_all q (x ∷ xs) h = rw h.0 (ap (λ ys. x ∷ ys) (filter_all q xs h.1))

  -- as many pass a test as without the first that passes another one, and that one
  pub counted_apart : (p test : X → Bool) (xs : List X) (e : X) → find p xs ≡ Some e →
      length (filter test xs) ≡ length (filter test (e ∷ [])) + length (filter test (without_first p xs))
  counted_apart p test [] e h = absurd (let n : (let n : Option X = None in n) ≡ Some e = h in grind (arith, n))
  counted_apart p test (x ∷ xs) e h = by (p x) refl (λ rest. counted_apart p test xs e rest)
    where
      on : (b : Bool) →
          length (filter test xs) ≡ length (filter test (e ∷ [])) + length (filter test (without_first p xs)) →
          length (cond b (x ∷ filter test xs) (filter test xs))
          ≡ length (filter test (e ∷ [])) + length
          (cond b (x ∷ filter test (without_first p xs)) (filter test (without_first p xs)))
      on true r = omega (arith, r)
      on false r = r

      one : (b : Bool) → length (cond b (x ∷ filter test xs) (filter test xs))
          ≡ length (cond b (x ∷ []) []) + length (filter test xs)
      one true = omega arith
      one false = omega arith

      by : (b : Bool) → p x ≡ b →
          (find p xs ≡ Some e →
          length (filter test xs) ≡ length (filter test (e ∷ [])) + length (filter test (without_first p xs))) →
          length (filter test (x ∷ xs))
          ≡ length (filter test (e ∷ [])) + length (filter test (cond (p x) xs (x ∷ without_first p xs)))
      by true t more =
          let is : Some x ≡ Some e = sym (ap (λ b. cond b (Some x) (find p xs)) t) ∙ h in
          let same : x ≡ e = grind (arith, is) in
          rw t (subst (λ y. length (filter test (x ∷ xs)) ≡ length (filter test (y ∷ [])) + length (filter test xs))
          same (one (test x)))
      by false t more = rw t (on (test x) (more (sym (ap (λ b. cond b (Some x) (find p xs)) t) ∙ h)))

  pub none_pass : (p : X → Bool) (xs : List X) → find p xs ≡ None → (filter p xs ≡ [])
      × (filter (λ x. not (p x)) xs ≡ xs)
  none_pass p [] h = (refl, refl)
  none_pass p (x ∷ xs) h = by (p x) refl (λ rest. none_pass p xs rest)
    where
      by : (b : Bool) → p x ≡ b → (find p xs ≡ None → (filter p xs ≡ []) × (filter (λ x. not (p x)) xs ≡ xs)) →
          (cond (p x) (x ∷ filter p xs) (filter p xs) ≡ [])
          × (cond (not (p x)) (x ∷ filter (λ x. not (p x)) xs) (filter (λ x. not (p x)) xs) ≡ x ∷ xs)
      by true t more = absurd (let is : Some x ≡ None = sym (ap (λ b. cond b (Some x) (find p xs)) t) ∙ h in
          grind (arith, is))
      by false t more = let r = more (sym (ap (λ b. cond b (Some x) (find p xs)) t) ∙ h) in
          (rw t r.0, rw t (ap (λ ys. x ∷ ys) r.1))

  pub first_passes : (p : X → Bool) (xs : List X) (e : X) → find p xs ≡ Some e →
      (filter p xs ≡ e ∷ filter p (without_first p xs))
      × (filter (λ x. not (p x)) xs ≡ filter (λ x. not (p x)) (without_first p xs))
  first_passes p [] e h = absurd (let n : (let n : Option X = None in n) ≡ Some e = h in grind (arith, n))
  first_passes p (x ∷ xs) e h = by (p x) refl (λ rest. first_passes p xs e rest)
    where
      by : (b : Bool) → p x ≡ b →
          (find p xs ≡ Some e → (filter p xs ≡ e ∷ filter p (without_first p xs))
          × (filter (λ x. not (p x)) xs ≡ filter (λ x. not (p x)) (without_first p xs))) →
          (cond (p x) (x ∷ filter p xs) (filter p xs) ≡ e ∷ filter p (cond (p x) xs (x ∷ without_first p xs)))
          × (cond (not (p x)) (x ∷ filter (λ x. not (p x)) xs) (filter (λ x. not (p x)) xs)
          ≡ filter (λ x. not (p x)) (cond (p x) xs (x ∷ without_first p xs)))
      by true t more =
          let is : Some x ≡ Some e = sym (ap (λ b. cond b (Some x) (find p xs)) t) ∙ h in
          let same : x ≡ e = grind (arith, is) in
          (rw t (ap (λ y. y ∷ filter p xs) same), rw t refl)
      by false t more = let r = more (sym (ap (λ b. cond b (Some x) (find p xs)) t) ∙ h) in
          (rw (t, t) r.0, rw (t, t) (ap (λ ys. x ∷ ys) r.1))

-- ---- numbers differ

pub after_other : (a n : ℕ) → a < 2 ^ 32 → is_after a n ≡ true → a ≡ n → ⊥
after_other a n h t e =
    let p = is_after_parts a n t in
    let far : 0 < distance a a = subst (λ k. 0 < distance a k) (sym e) p.0 in
    omega (arith, far, h)

abbrev pub Small : Entry → Type 0
Small e = e.number < 2 ^ 32

-- an entry that was given back has this number
abbrev pub is_not_given : Entry → Entry → Bool
is_not_given e x = not (list_any (has_number x.number) (e ∷ []))

not_given : (e x : Entry) → (e.number ≡ x.number → ⊥) → is_not_given e x ≡ true
not_given e x h = let t = other_test e.number x.number h in ap (λ b. not (b || false)) t

was_given : (e x : Entry) → e.number ≡ x.number → is_not_given e x ≡ false
was_given e x h = let t = equal_test e.number x.number h in ap (λ b. not (b || false)) t

pub only_one : (p : Entry → Bool) (t : List Entry) (e : Entry) → InOrder t → Each Small t → find p t ≡ Some e →
    filter (is_not_given e) t ≡ without_first p t
only_one p [] e o s h = absurd (let n : (let n : Option Entry = None in n) ≡ Some e = h in grind (arith, n))
only_one p (x ∷ xs) e o s h = by (p x) refl (λ rest. only_one p xs e o.1 s.1 rest)
  where
    later : Each (λ y. is_after x.number y.number ≡ true) xs
    later = each_passes (λ y. is_after x.number y.number) xs o.0

    by : (b : Bool) → p x ≡ b → (find p xs ≡ Some e → filter (is_not_given e) xs ≡ without_first p xs) →
        filter (is_not_given e) (x ∷ xs) ≡ cond (p x) xs (x ∷ without_first p xs)
    by true t more =
        let is : Some x ≡ Some e = sym (ap (λ b. cond b (Some x) (find p xs)) t) ∙ h in
        let same : x ≡ e = grind (arith, is) in
        let number : e.number ≡ x.number = ap (λ (y : Entry). y.number) (sym same) in
        let others = each_map (λ y. is_after x.number y.number ≡ true) (λ y. is_not_given e y ≡ true)
        (λ y a. not_given e y (λ k. after_other x.number y.number s.0 a (sym number ∙ k))) xs later in
        rw t (ap (λ b. cond b (x ∷ filter (is_not_given e) xs) (filter (is_not_given e) xs)) (was_given e x number)
        ∙ filter_all (is_not_given e) xs others)
    by false t more =
        let rest : find p xs ≡ Some e = sym (ap (λ b. cond b (Some x) (find p xs)) t) ∙ h in
        let after = found_each (λ y. is_after x.number y.number ≡ true) p xs e later rest in
        let other = not_given e x (λ k. after_other x.number e.number s.0 after (sym k)) in
        rw t (ap (λ b. cond b (x ∷ filter (is_not_given e) xs) (filter (is_not_given e) xs)) other
        ∙ ap (λ ys. x ∷ ys) (more rest))

-- ---- the order is kept

pub in_order_without : (p : Entry → Bool) (t : List Entry) → InOrder t → InOrder (without_first p t)
in_order_without p [] o = tt
in_order_without p (x ∷ xs) o = by (p x) (in_order_without p xs o.1)
  where
    left : list_all (λ f. is_after x.number f.number) (without_first p xs) ≡ true
    left = all_pass (λ f. is_after x.number f.number) (without_first p xs)
        (each_without (λ f. is_after x.number f.number ≡ true) p xs
        (each_passes (λ f. is_after x.number f.number) xs o.0))

    by : (b : Bool) → InOrder (without_first p xs) → InOrder (cond b xs (x ∷ without_first p xs))
    by true r = o.1
    by false r = (left, r)

each_end : {X : Type 0} (P : X → Type 0) (xs : List X) (x : X) → Each P xs → P x → Each P (xs ++ x ∷ [])
each_end P [] x h p = (p, tt)
each_end P (y ∷ ys) x h p = (h.0, each_end P ys x h.1 p)

pub small_end : (t : List Entry) (e : Entry) → Each Small t → Small e → Each Small (t ++ e ∷ [])
small_end t e h s = each_end Small t e h s

pub in_order_end : (t : List Entry) (e : Entry) → InOrder t → list_all (λ x. is_after x.number e.number) t ≡ true →
    InOrder (t ++ e ∷ [])
in_order_end [] e o h = (refl, tt)
in_order_end (x ∷ xs) e o h =
    let all = each_passes (λ y. is_after y.number e.number) (x ∷ xs) h in (
      all_pass (λ f. is_after x.number f.number) (xs ++ e ∷ [])
          (each_end (λ f. is_after x.number f.number ≡ true) xs e
          (each_passes (λ f. is_after x.number f.number) xs o.0) all.0),
      in_order_end xs e o.1 (all_pass (λ y. is_after y.number e.number) xs all.1),
    )
