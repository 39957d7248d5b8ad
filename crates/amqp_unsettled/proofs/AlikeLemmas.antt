-- Cells that have the same items, which are there in both or in neither: what holds of the ones holds of the others.
use Rattle.std.proofs.Common.{◌≡◌, ℕ, suc, zero, ◌+◌, ◌-◌, ◌^◌, ◌<◌, arith, List, [], ◌∷◌, length, min, take}
use Rattle.std.proofs.Common.{drop, ap, sym, subst, ◌∙◌, refl, Bool, true, false, true≢false, Option, Some, None}
use Rattle.std.specs.Prelude.{slice_get, slice_set}
use Rattle.std.proofs.lemmas.List.{drop-drop}
use Rattle.amqp_unsettled.specs.declared.cells.Cell.{Cell}
use Rattle.amqp_unsettled.specs.declared.spots.Found.{Found}
use Rattle.amqp_unsettled.specs.Inner.Order.{NonePasses, Below}
use Rattle.amqp_unsettled.specs.Inner.Rows.{Alike, FirstGone, InSerial, IsAt, IsFullRow, IsReached, IsThereAt, RunsGone}
use Rattle.amqp_unsettled.specs.Inner.Rows.{is_there, numbers, there}
use Rattle.amqp_unsettled.proofs.NumberLemmas.{equal_test, other_test}
use Rattle.amqp_unsettled.proofs.CellLemmas.{drop_set_add, got_drop, gone_less, gone_set, runs_set, there_more}
use Rattle.amqp_unsettled.proofs.CellLemmas.{there_same}

module _ {X : Type 0} where
  pub alike_same : (cs : List (Cell X)) → Alike cs cs
  alike_same [] = tt
  alike_same (c ∷ cs) = (refl, refl, alike_same cs)

  pub alike_on : (cs ds es : List (Cell X)) → Alike cs ds → Alike ds es → Alike cs es
  alike_on [] [] [] h k = tt
  alike_on [] [] (e ∷ es) h k = absurd k
  alike_on [] (d ∷ ds) es h k = absurd h
  alike_on (c ∷ cs) [] es h k = absurd h
  alike_on (c ∷ cs) (d ∷ ds) [] h k = absurd k
  alike_on (c ∷ cs) (d ∷ ds) (e ∷ es) h k = (h.0 ∙ k.0, h.1 ∙ k.1, alike_on cs ds es h.2 k.2)

  pub alike_length : (cs ds : List (Cell X)) → Alike cs ds → length cs ≡ length ds
  alike_length [] [] h = refl
  alike_length [] (d ∷ ds) h = absurd h
  alike_length (c ∷ cs) [] h = absurd h
  alike_length (c ∷ cs) (d ∷ ds) h = ap suc (alike_length cs ds h.2)

  pub alike_there : (cs ds : List (Cell X)) → Alike cs ds → there cs ≡ there ds
  alike_there [] [] h = refl
  alike_there [] (d ∷ ds) h = absurd h
  alike_there (c ∷ cs) [] h = absurd h
  alike_there (c ∷ cs) (d ∷ ds) h = by (is_there c) refl (alike_there cs ds h.2)
    where
      by : (b : Bool) → is_there c ≡ b → there cs ≡ there ds → there (c ∷ cs) ≡ there (d ∷ ds)
      by true t r = there_more c cs t ∙ ap (λ x. x ∷ there cs) h.0 ∙ ap (λ xs. d.item ∷ xs) r
          ∙ sym (there_more d ds (sym h.1 ∙ t))
      by false t r = there_same c cs t ∙ r ∙ sym (there_same d ds (sym h.1 ∙ t))

  pub alike_numbers : (f : X → ℕ) (cs ds : List (Cell X)) → Alike cs ds → numbers f cs ≡ numbers f ds
  alike_numbers f [] [] h = refl
  alike_numbers f [] (d ∷ ds) h = absurd h
  alike_numbers f (c ∷ cs) [] h = absurd h
  alike_numbers f (c ∷ cs) (d ∷ ds) h =
      ap (λ x. f x ∷ numbers f cs) h.0 ∙ ap (λ ns. f d.item ∷ ns) (alike_numbers f cs ds h.2)

  pub alike_take : (k : ℕ) (cs ds : List (Cell X)) → Alike cs ds → Alike (take k cs) (take k ds)
  alike_take zero cs ds h = tt
  alike_take (suc k) [] [] h = tt
  alike_take (suc k) [] (d ∷ ds) h = absurd h
  alike_take (suc k) (c ∷ cs) [] h = absurd h
  alike_take (suc k) (c ∷ cs) (d ∷ ds) h = (h.0, h.1, alike_take k cs ds h.2)

  pub alike_drop : (k : ℕ) (cs ds : List (Cell X)) → Alike cs ds → Alike (drop k cs) (drop k ds)
  alike_drop zero cs ds h = h
  alike_drop (suc k) [] [] h = tt
  alike_drop (suc k) [] (d ∷ ds) h = absurd h
  alike_drop (suc k) (c ∷ cs) [] h = absurd h
  alike_drop (suc k) (c ∷ cs) (d ∷ ds) h = alike_drop k cs ds h.2

  pub alike_at : (cs ds : List (Cell X)) (i : ℕ) (d : Cell X) → Alike cs ds → slice_get ds i ≡ Some d →
      (c : Cell X) × (slice_get cs i ≡ Some c) × (c.item ≡ d.item) × (is_there c ≡ is_there d)
  alike_at cs [] i d h e = absurd (let n : (let n : Option (Cell X) = None in n) ≡ Some d = e in grind (arith, n))
  alike_at [] (b ∷ ds) i d h e = absurd h
  alike_at (a ∷ cs) (b ∷ ds) zero d h e =
      let is : b ≡ d = grind (arith, e) in
      (a, refl, h.0 ∙ ap (λ (x : Cell X). x.item) is, h.1 ∙ ap is_there is)
  alike_at (a ∷ cs) (b ∷ ds) (suc i) d h e = alike_at cs ds i d h.2 e

  pub alike_set : (cs : List (Cell X)) (i : ℕ) (c d : Cell X) → slice_get cs i ≡ Some c → c.item ≡ d.item →
      is_there c ≡ is_there d → Alike cs (slice_set cs i d)
  alike_set [] i c d e h k = tt
  alike_set (a ∷ cs) zero c d e h k =
      let is : a ≡ c = grind (arith, e) in
      (ap (λ (x : Cell X). x.item) is ∙ h, ap is_there is ∙ k, alike_same cs)
  alike_set (a ∷ cs) (suc i) c d e h k = (refl, refl, alike_set cs i c d e h k)

  pub alike_gone : (k : ℕ) (cs ds : List (Cell X)) → Alike cs ds → FirstGone k cs → FirstGone k ds
  alike_gone zero cs ds h g = tt
  alike_gone (suc k) [] [] h g = tt
  alike_gone (suc k) [] (d ∷ ds) h g = absurd h
  alike_gone (suc k) (c ∷ cs) [] h g = absurd h
  alike_gone (suc k) (c ∷ cs) (d ∷ ds) h g = (sym h.1 ∙ g.0, alike_gone k cs ds h.2 g.1)

  pub alike_is : (cs ds : List (Cell X)) (i : ℕ) → Alike cs ds → IsThereAt cs i → IsThereAt ds i
  alike_is cs ds i h t d e = let c = alike_at cs ds i d h e in sym c.3 ∙ t c.0 c.1

  -- those from a later one on
  pub gone_rest : (k j : ℕ) (cs : List (Cell X)) → FirstGone k cs → FirstGone (k - j) (drop j cs)
  gone_rest k zero cs g = subst (λ n. FirstGone n cs) (let e : k ≡ k - 0 = omega arith in e) g
  gone_rest zero (suc j) cs g = subst (λ n. FirstGone n (drop (suc j) cs)) (let e : 0 ≡ zero - suc j = omega arith in e)
      tt
  gone_rest (suc k) (suc j) [] g = none (suc k - suc j)
    where
      none : (n : ℕ) → FirstGone n (let xs : List (Cell X) = [] in xs)
      none zero = tt
      none (suc n) = tt
  gone_rest (suc k) (suc j) (c ∷ cs) g =
      subst (λ n. FirstGone n (drop j cs)) (let e : k - j ≡ suc k - suc j = omega arith in e) (gone_rest k j cs g.1)

  -- ---- a run is noted

  module _ (f : X → ℕ) (cs : List (Cell X)) (gone at to : ℕ) (c d : Cell X) (r : IsFullRow f cs gone)
      (here : slice_get cs at ≡ Some c) (less : at < to) (g : FirstGone (to - at) (drop at cs)) (same : d.item ≡ c.item)
      (run : d.run ≡ min (to - at) (2 ^ 32 - 1)) where
    abbrev noted : List (Cell X)
    noted = slice_set cs at d

    pub gone_here : is_there c ≡ false
    gone_here = first (to - at) (drop at cs) g (omega (arith, less)) (got_drop at cs 0
        ∙ ap (slice_get cs) (let e : at + 0 ≡ at = omega arith in e) ∙ here)
      where
        first : (k : ℕ) (ds : List (Cell X)) → FirstGone k ds → 0 < k → slice_get ds 0 ≡ Some c → is_there c ≡ false
        first zero ds h l e = absurd (omega (arith, l))
        first (suc k) [] h l e = absurd (let n : (let n : Option (Cell X) = None in n) ≡ Some c = e in grind (arith, n))
        first (suc k) (b ∷ bs) h l e = let is : b ≡ c = grind (arith, e) in sym (ap is_there is) ∙ h.0

    pub run_some : 0 < c.run
    run_some = by c.run refl
      where
        by : (k : ℕ) → c.run ≡ k → 0 < c.run
        by zero e = absurd (true≢false (sym (equal_test c.run 0 e) ∙ gone_here))
        by (suc k) e = omega (arith, e)

    gone_noted : is_there d ≡ false
    gone_noted = other_test d.run 0 (λ z. let w : min (to - at) (2 ^ 32 - 1) ≡ 0 = sym run ∙ z in omega (
      arith,
      w,
      less,
    ))

    pub noted_alike : Alike cs noted
    noted_alike = alike_set cs at c d here (sym same) (gone_here ∙ sym gone_noted)

    noted_runs : RunsGone noted
    noted_runs = runs_set cs at d gone_noted (subst (FirstGone d.run) (sym at_noted)
        (gone_set d.run 0 (drop at cs) d gone_noted (gone_less d.run (to - at) (drop at cs) (omega (arith, run)) g)))
        r.loose.runs
      where
        at_noted : drop at noted ≡ slice_set (drop at cs) 0 d
        at_noted = ap (λ n. drop at (slice_set cs n d)) (let e : at ≡ at + 0 = omega arith in e) ∙ drop_set_add at cs 0
            d

    pub noted_row : IsFullRow f noted gone
    noted_row = record {
      loose = record {
        counts = let k = r.loose.counts in let t = ap length (alike_there cs noted noted_alike) in
            let l = alike_length cs noted noted_alike in omega (arith, k, t, l);
        small = subst (Below (2 ^ 32)) (alike_numbers f cs noted noted_alike) r.loose.small;
        serial = subst InSerial (alike_numbers f cs noted noted_alike) r.loose.serial;
        runs = noted_runs;
      };
      front = alike_is cs noted 0 noted_alike r.front;
      back = λ i e. alike_is cs noted i noted_alike
          (r.back i (let l = alike_length cs noted noted_alike in omega (arith, e, l)));
    }

    pub noted_rest : FirstGone (to - (at + c.run)) (drop (at + c.run) noted)
    noted_rest = alike_gone (to - (at + c.run)) (drop (at + c.run) cs) (drop (at + c.run) noted)
        (alike_drop (at + c.run) cs noted noted_alike)
        (subst (FirstGone (to - (at + c.run))) (drop-drop c.run at cs)
        (subst (λ n. FirstGone n (drop c.run (drop at cs))) (let e : to - at - c.run ≡ to - (at + c.run) = omega arith
        in e)
        (gone_rest (to - at) c.run (drop at cs) g)))

  -- ---- what is reached

  module _ (p : X → Bool) (cs ds : List (Cell X)) (s : Found) (h : Alike cs ds) (r : IsReached p cs s) where
    pub reached_length : s.at < length ds
    reached_length = let l = alike_length cs ds h in let w = r.within in omega (arith, l, w)

    pub reached_is : IsThereAt ds s.at
    reached_is = alike_is cs ds s.at h r.is

    pub reached_gone : FirstGone (s.at - s.from) (drop s.from ds)
    reached_gone = alike_gone (s.at - s.from) (drop s.from cs) (drop s.from ds) (alike_drop s.from cs ds h) r.gone

    pub reached_at : (d : Cell X) → slice_get ds s.at ≡ Some d → p d.item ≡ true → IsAt p ds s.at
    reached_at d e t = record {
      within = reached_length;
      is = reached_is;
      meant = λ x k. let z : Some d ≡ Some x = sym e ∙ k in let w : d ≡ x = grind (arith, z) in
          sym (ap (λ (y : Cell X). p y.item) w) ∙ t;
      before = subst (NonePasses p) (alike_there (take s.at cs) (take s.at ds) (alike_take s.at cs ds h)) r.before;
    }

    pub reached_none : (d : Cell X) → slice_get ds s.at ≡ Some d → p d.item ≡ false → NonePasses p (there cs)
    reached_none d e t = let c = alike_at cs ds s.at d h e in r.after c.0 c.1 (ap p c.2 ∙ t)
