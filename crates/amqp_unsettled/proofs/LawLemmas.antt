-- The laws of a table's histories.
use Rattle.std.proofs.Common.{◌≡◌, arith, List, [], ◌∷◌, ◌++◌}
use Rattle.std.proofs.Common.{ap, sym, subst, ◌∙◌, refl, cond, not, Bool, true, false, Option, Some, None, Ok, Err}
use Rattle.std.specs.List.{filter, find}
use Rattle.amqp_unsettled.specs.declared.entry.Entry.{Entry}
use Rattle.amqp_unsettled.specs.declared.entry.InsertError.TheVariants.{NotNext, OutOfMemory}
use Rattle.amqp_unsettled.specs.Chain.{Chain}
use Rattle.amqp_unsettled.specs.Table.{TakeStep, has_number, is_any, is_in, is_of}
use Rattle.amqp_unsettled.specs.History.{TableCall, TableStep, LeadsTo, listed, given_by, gives_back, unsettled_after}
use Rattle.amqp_unsettled.specs.History.{Inserts, Removes, RemovesOldest, Settles, Leaves, Gets, Finds, AsksCount}
use Rattle.amqp_unsettled.specs.History.{AsksLen, AsksEmpty}
use Rattle.amqp_unsettled.specs.Laws.{WasInserted, GivenOnce, IsAskedFor, GivenAsAsked, AnswersBy, AnswersByHistory}
use Rattle.amqp_unsettled.specs.Laws.{until_none, GivesAll}
use Rattle.amqp_unsettled.proofs.ListLemmas.{not_found, found_passes}
use Rattle.amqp_unsettled.proofs.NumberLemmas.{test_equal}
use Rattle.amqp_unsettled.proofs.ChainLemmas.{cut, cut_of, joined}
use Rattle.amqp_unsettled.proofs.TableLemmas.{none_pass, first_passes}
use Rattle.amqp_unsettled.proofs.HistoryLemmas.{Stands, stands}

-- ---- a call among others

pub record Reached (before : List TableCall) (c : TableCall) : Type 0 where
  pub at : List Entry
  pub stands : Stands before at
  pub next : List Entry
  pub step : TableStep at c next

reached : (H : List TableCall) (t : List Entry) (before after : List TableCall) (c : TableCall) → LeadsTo H t →
    H ≡ before ++ c ∷ after → Reached before c
reached H t before after c h e =
    let s = cut_of TableStep [] t H before (c ∷ after) h e in
    record { at = s.at; stands = stands before s.at s.reached; next = s.onward.0; step = s.onward.1 }

-- ---- answers

answered : (t u : List Entry) (c : TableCall) → TableStep t c u → AnswersBy t c
answered t u (Inserts e (Ok done)) s = s.1.0
answered t u (Inserts e (Err NotNext)) s = s.1.0
answered t u (Inserts e (Err OutOfMemory)) s = s.1.0
answered t u (Removes n given) s = s.0
answered t u (RemovesOldest given) s = s.0
answered t u (Settles first last given) s = s.0
answered t u (Leaves link given) s = s.0
answered t u (Gets n answer) s = s.0
answered t u (Finds first last answer) s = s.0
answered t u (AsksCount link n) s = s.0
answered t u (AsksLen n) s = s.0
answered t u (AsksEmpty answer) s = s.0

pub answers_by_history : (H : List TableCall) (t : List Entry) → LeadsTo H t → AnswersByHistory H
answers_by_history H t h before after c e =
    let r = reached H t before after c h e in
    subst (λ xs. AnswersBy xs c) r.stands.exact (answered r.at r.next c r.step)

asked_for : (t u : List Entry) (c : TableCall) → TableStep t c u → IsAskedFor c
asked_for t u (Removes n (Some e)) s = test_equal e.number n (found_passes (has_number n) t e (sym s.0))
asked_for t u (Settles first last (Some e)) s = found_passes (is_in first last) t e (sym s.0)
asked_for t u (Leaves link (Some e)) s = test_equal e.link link (found_passes (is_of link) t e (sym s.0))
asked_for t u (Removes n None) s = tt
asked_for t u (Settles first last None) s = tt
asked_for t u (Leaves link None) s = tt
asked_for t u (RemovesOldest given) s = tt
asked_for t u (Inserts e answer) s = tt
asked_for t u (Gets n answer) s = tt
asked_for t u (Finds first last answer) s = tt
asked_for t u (AsksCount link n) s = tt
asked_for t u (AsksLen n) s = tt
asked_for t u (AsksEmpty answer) s = tt

pub given_as_asked : (H : List TableCall) (t : List Entry) → LeadsTo H t → GivenAsAsked H
given_as_asked H t h before after c e =
    let r = reached H t before after c h e in asked_for r.at r.next c r.step

-- ---- given back once

earlier : (c : TableCall) (cs : List TableCall) (e : Entry) → WasInserted cs e → WasInserted (c ∷ cs) e
earlier c cs e w =
    record {
      older = c ∷ w.older;
      done = w.done;
      since = w.since;
      split = ap (λ xs. c ∷ xs) w.split;
      not_given =
          w.not_given;
    }

was_inserted : (p : Entry → Bool) (H : List TableCall) (e : Entry) → find p (unsettled_after H) ≡ Some e →
    WasInserted H e
was_inserted p [] e h = absurd (let n : (let n : Option Entry = None in n) ≡ Some e = h in grind (arith, n))
was_inserted p (Inserts x (Ok done) ∷ cs) e h = by (gives_back x.number cs) refl (λ rest. was_inserted p cs e rest)
  where
    here : (b : Bool) → p x ≡ b → gives_back x.number cs ≡ false → cond b (Some x) (find p (unsettled_after cs))
        ≡ Some e →
        (find p (unsettled_after cs) ≡ Some e → WasInserted cs e) → WasInserted (Inserts x (Ok done) ∷ cs) e
    here true u t is on =
        let found : Some x ≡ Some e = is in
        let same : x ≡ e = grind (arith, found) in
        subst (WasInserted (Inserts x (Ok done) ∷ cs)) same
        (record { older = []; done = done; since = cs; split = refl; not_given = t })
    here false u t is on = earlier (Inserts x (Ok done)) cs e (on is)

    by : (b : Bool) → gives_back x.number cs ≡ b → (find p (unsettled_after cs) ≡ Some e → WasInserted cs e) →
        WasInserted (Inserts x (Ok done) ∷ cs) e
    by true t on = earlier (Inserts x (Ok done)) cs e
        (on (sym (ap (λ b. find p (cond b [] (x ∷ []) ++ unsettled_after cs)) t) ∙ h))
    by false t on = here (p x) refl t (sym (ap (λ b. find p (cond b [] (x ∷ []) ++ unsettled_after cs)) t) ∙ h) on
was_inserted p (Inserts x (Err r) ∷ cs) e h = earlier (Inserts x (Err r)) cs e (was_inserted p cs e h)
was_inserted p (Removes n g ∷ cs) e h = earlier (Removes n g) cs e (was_inserted p cs e h)
was_inserted p (RemovesOldest g ∷ cs) e h = earlier (RemovesOldest g) cs e (was_inserted p cs e h)
was_inserted p (Settles a b g ∷ cs) e h = earlier (Settles a b g) cs e (was_inserted p cs e h)
was_inserted p (Leaves l g ∷ cs) e h = earlier (Leaves l g) cs e (was_inserted p cs e h)
was_inserted p (Gets n g ∷ cs) e h = earlier (Gets n g) cs e (was_inserted p cs e h)
was_inserted p (Finds a b g ∷ cs) e h = earlier (Finds a b g) cs e (was_inserted p cs e h)
was_inserted p (AsksCount l n ∷ cs) e h = earlier (AsksCount l n) cs e (was_inserted p cs e h)
was_inserted p (AsksLen n ∷ cs) e h = earlier (AsksLen n) cs e (was_inserted p cs e h)
was_inserted p (AsksEmpty b ∷ cs) e h = earlier (AsksEmpty b) cs e (was_inserted p cs e h)

given_was : (p : Entry → Bool) (before : List TableCall) (t : List Entry) (given : Option Entry) (e : Entry) →
    Stands before t → given ≡ find p t →
    listed given ≡ e ∷ [] → WasInserted before e
given_was p before t None e s g is = absurd (none is)
  where
    none : (let xs : List Entry = [] in xs) ≡ e ∷ [] → ⊥
    none k = grind (arith, k)
given_was p before t (Some x) e s g is =
    let one : x ∷ [] ≡ e ∷ [] = is in
    let same : x ≡ e = grind (arith, one) in
    subst (WasInserted before) same (was_inserted p before x (ap (find p) (sym s.exact) ∙ sym g))

nothing : (e : Entry) → (let xs : List Entry = [] in xs) ≡ e ∷ [] → ⊥
nothing e k = grind (arith, k)

given_inserted : (before : List TableCall) (t u : List Entry) (c : TableCall) (e : Entry) → Stands before t →
    TableStep t c u → given_by c ≡ e ∷ [] → WasInserted before e
given_inserted before t u (Removes n g) e s step is = given_was (has_number n) before t g e s step.0 is
given_inserted before t u (RemovesOldest g) e s step is = given_was is_any before t g e s step.0 is
given_inserted before t u (Settles a b g) e s step is = given_was (is_in a b) before t g e s step.0 is
given_inserted before t u (Leaves l g) e s step is = given_was (is_of l) before t g e s step.0 is
given_inserted before t u (Inserts x r) e s step is = absurd (nothing e is)
given_inserted before t u (Gets n g) e s step is = absurd (nothing e is)
given_inserted before t u (Finds a b g) e s step is = absurd (nothing e is)
given_inserted before t u (AsksCount l n) e s step is = absurd (nothing e is)
given_inserted before t u (AsksLen n) e s step is = absurd (nothing e is)
given_inserted before t u (AsksEmpty b) e s step is = absurd (nothing e is)

pub given_once : (H : List TableCall) (t : List Entry) → LeadsTo H t → GivenOnce H
given_once H t h before after c split e is =
    let r = reached H t before after c h split in given_inserted before r.at r.next c e r.stands r.step is

-- ---- until None

module _ (call : Option Entry → TableCall) (p : Entry → Bool) (takes : (t u : List Entry) (o : Option Entry) →
    TableStep t (call o) u → TakeStep p t o u) where
  drained : (given : List Entry) (v w : List Entry) → Chain TableStep v (until_none call given) w →
      (given ≡ filter p v) × (w ≡ filter (λ e. not (p e)) v)
  drained [] v w h =
      let step = takes v h.0 None h.1 in
      let none = none_pass p v (sym step.0) in
      (sym none.0, h.2 ∙ step.1 ∙ not_found p v (sym step.0) ∙ sym none.1)
  drained (e ∷ es) v w h =
      let step = takes v h.0 (Some e) h.1 in
      let first = first_passes p v e (sym step.0) in
      let rest = drained es h.0 w h.2 in (
        ap (λ xs. e ∷ xs) (rest.0 ∙ ap (filter p) step.1) ∙ sym first.0,
        rest.1 ∙ ap (filter (λ x. not (p x))) step.1 ∙ sym first.1,
      )

  pub gives_all : (H : List TableCall) (t : List Entry) → LeadsTo H t → GivesAll call p H
  gives_all H t h before after given e =
      let at = cut_of TableStep [] t H before (until_none call given ++ after) h e in
      let all = cut TableStep at.at t (until_none call given) after at.onward in
      let s = stands before at.at at.reached in
      let d = drained given at.at all.at all.reached in
      let sofar = stands (before ++ until_none call given) all.at
      (joined TableStep [] at.at all.at before (until_none call given) at.reached all.reached) in
      (d.0 ∙ ap (filter p) s.exact, sym sofar.exact ∙ d.1 ∙ ap (filter (λ x. not (p x))) s.exact)
