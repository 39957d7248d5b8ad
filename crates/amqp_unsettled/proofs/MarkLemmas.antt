-- A row's cells: one between the first and the last goes.
use Rattle.std.proofs.Common.{◌≡◌, ℕ, suc, zero, ◌+◌, ◌-◌, ◌^◌, ◌<◌, ◌≤◌, arith, List, [], ◌∷◌, ◌++◌, length, min, take}
use Rattle.std.proofs.Common.{drop}
use Rattle.std.proofs.Common.{ap, sym, subst, ◌∙◌, refl, true, false, true≢false, Option, Some, None}
use Rattle.std.specs.Prelude.{slice_get, slice_set}
use Rattle.std.proofs.lemmas.List.{length-append}
use Rattle.amqp_unsettled.specs.declared.cells.Cell.{Cell}
use Rattle.amqp_unsettled.specs.Inner.Order.{Below}
use Rattle.amqp_unsettled.specs.Inner.Rows.{is_there, there, numbers, FirstGone, RunsGone, IsThereAt}
use Rattle.amqp_unsettled.specs.Inner.Rows.{InSerial, IsFullRow}
use Rattle.amqp_unsettled.proofs.NumberLemmas.{other_test}
use Rattle.amqp_unsettled.proofs.RowLemmas.{numbers_set}
use Rattle.amqp_unsettled.proofs.CellLemmas.{got_within, got_drop, drop_set_add, got_set_other, length_set}
use Rattle.amqp_unsettled.proofs.CellLemmas.{there_at, there_but, there_not}
use Rattle.amqp_unsettled.proofs.CellLemmas.{gone_less, gone_set, gone_upto, runs_set}

module _ {X : Type 0} (f : X → ℕ) where
  module _ (cs : List (Cell X)) (gone from at run : ℕ) (c d1 : Cell X) (r : IsFullRow f cs gone) (some : 0 < at)
      (within : at + 1 < length cs) (here : slice_get cs at ≡ Some c) (is : is_there c ≡ true) (order : from ≤ at)
      (before : FirstGone (at - from) (drop from cs)) (item1 : d1.item ≡ c.item) (run1 : d1.run ≡ 1) where
    abbrev one : List (Cell X)
    one = slice_set cs at d1

    gone1 : is_there d1 ≡ false
    gone1 = other_test d1.run 0 (λ e. let z : 1 ≡ 0 = sym run1 ∙ e in omega (arith, z))

    from_some : 0 < from
    from_some = by from refl
      where
        by : (k : ℕ) → from ≡ k → 0 < from
        by zero e = absurd (first (at - from) cs (omega (arith, some, e)) (subst (λ k. FirstGone (at - from) (drop k
            cs)) e before) r.front (omega (arith, within)))
          where
            first : (k : ℕ) (ds : List (Cell X)) → 0 < k → FirstGone k ds → IsThereAt ds 0 → 0 < length ds → ⊥
            first k [] h g t w = absurd (omega (arith, w))
            first zero (d ∷ ds) h g t w = absurd (omega (arith, h))
            first (suc k) (d ∷ ds) h g t w = true≢false (sym (t d refl) ∙ g.0)
        by (suc k) e = omega (arith, e)

    one_from : drop from one ≡ slice_set (drop from cs) (at - from) d1
    one_from = ap (λ n. drop from (slice_set cs n d1)) (let e : at ≡ from + (at - from) = omega (arith, order) in e)
        ∙ drop_set_add from cs (at - from) d1

    upto : FirstGone (suc (at - from)) (drop from one)
    upto = subst (FirstGone (suc (at - from))) (sym one_from) (gone_upto (at - from) (drop from cs) d1 gone1 before)

    one_runs : RunsGone one
    one_runs = runs_set cs at d1 gone1 (subst (λ k. FirstGone k (drop at one)) (sym run1)
        (subst (FirstGone 1) (sym at_one) (gone_upto 0 (drop at cs) d1 gone1 tt))) r.loose.runs
      where
        at_one : drop at one ≡ slice_set (drop at cs) 0 d1
        at_one = ap (λ n. drop at (slice_set cs n d1)) (let e : at ≡ at + 0 = omega arith in e) ∙ drop_set_add at cs 0
            d1

    module _ (e d2 : Cell X) (there' : slice_get one from ≡ Some e) (item2 : d2.item ≡ e.item)
        (run2 : d2.run ≡ min (at - from + 1) (2 ^ 32 - 1)) where
      abbrev two : List (Cell X)
      two = slice_set one from d2

      gone2 : is_there d2 ≡ false
      gone2 = other_test d2.run 0 (λ z. let w : min (at - from + 1) (2 ^ 32 - 1) ≡ 0 = sym run2 ∙ z in omega (arith, w))

      gone_e : is_there e ≡ false
      gone_e = first (drop from one) upto e (got_drop from one 0 ∙ ap (slice_get one) (let z : from + 0 ≡ from = omega
          arith in z) ∙ there')
        where
          first : (ds : List (Cell X)) → FirstGone (suc (at - from)) ds → (a : Cell X) → slice_get ds 0 ≡ Some a →
              is_there a ≡ false
          first [] g a k = absurd (let n : (let n : Option (Cell X) = None in n) ≡ Some a = k in grind (arith, n))
          first (d ∷ ds) g a k = let same : d ≡ a = grind (arith, k) in sym (ap is_there same) ∙ g.0

      two_runs : RunsGone two
      two_runs = runs_set one from d2 gone2
          (subst (FirstGone d2.run) (sym from_two)
          (gone_set d2.run 0 (drop from one) d2 gone2 (gone_less d2.run (suc (at - from)) (drop from one) (omega (
            arith,
            run2,
          )) upto)))
          one_runs
        where
          from_two : drop from two ≡ slice_set (drop from one) 0 d2
          from_two = ap (λ n. drop from (slice_set one n d2)) (let z : from ≡ from + 0 = omega arith in z)
              ∙ drop_set_add from one 0 d2

      pub mark_items : there two ≡ there (take at cs) ++ there (drop (at + 1) cs)
      mark_items =
          there_but one from d2 (got_within one from e there') gone2 ∙ sym (there_not one from e there' gone_e)
          ∙ there_but cs at d1 (omega (arith, within)) gone1
          ∙ ap (λ n. there (take at cs) ++ there (drop n cs)) (let z : suc at ≡ at + 1 = omega arith in z)

      two_length : length two ≡ length cs
      two_length = length_set one from d2 ∙ length_set cs at d1

      two_other : (i : ℕ) → (at ≡ i → ⊥) → (from ≡ i → ⊥) → slice_get two i ≡ slice_get cs i
      two_other i h k = got_set_other one from i d2 k ∙ got_set_other cs at i d1 h

      pub mark_row : IsFullRow f two (gone + 1)
      mark_row = record {
        loose = record {
          counts =
              let a = ap length mark_items in
              let b = length-append (there (take at cs)) (there (drop (at + 1) cs)) in
              let m = ap length (there_at cs at c here is) in
              let n = length-append (there (take at cs)) (c.item ∷ there (drop (suc at) cs)) in
              let s = ap (λ k. length (there (drop k cs))) (let z : suc at ≡ at + 1 = omega arith in z) in
              let k = r.loose.counts in
              let l = two_length in
              omega (arith, a, b, m, n, s, k, l);
          small = subst (Below (2 ^ 32)) (sym same_numbers) r.loose.small;
          serial = subst InSerial (sym same_numbers) r.loose.serial;
          runs = two_runs;
        };
        front = λ a k. r.front a (sym (two_other 0 (λ z. omega (arith, z, some)) (λ z. let s = from_some in omega
            (arith, z, s))) ∙ k);
        back = λ i h a k. r.back i (let l = two_length in omega (arith, h, l)) a (sym (two_other i
            (λ z. let l = two_length in omega (arith, z, h, l, within)) (λ z. let l = two_length in omega (
              arith,
              z,
              h,
              l,
              within,
              order,
            ))) ∙ k);
      }
        where
          same_numbers : numbers f two ≡ numbers f cs
          same_numbers = numbers_set f one from e d2 there' item2 ∙ numbers_set f cs at c d1 here item1
