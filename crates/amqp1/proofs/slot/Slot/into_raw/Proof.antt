-- `into_raw` takes the slot apart, in which a box lies.
use Rattle.std.proofs.Common.{◌≡◌, List, [], ◌∷◌, ◌++◌, refl, sym, subst}
use mir.Val.{Val}
use base.Logic.{SProp, ent, emp, id⊢}
use prog.Wp.{WpFn}
use contract.Monad.{fact, fact_i}
use contract.Running.{tables}
use types.Kit.{‵, raw, ◌⊛◌, ◌$◌, ◌∵◌, !, qed, by, move, keep, use0, use1, split, fsplit, fjoin, suffices}
use types.Part.{whole, sub, agg}
use types.Run.{stop, fld, of_opd, no_more, and_then, returns, enter}
use types.ByLocal.{alloc_all, pass_all, free_all, look_at, get, get_in, sets}
use denote.RattleType.{owns}
use denote.RawPtr.{block_ptr}
use denote.Signature.{types_at, plain}
use denote.Steps.{nothing, heard}
use denote.Triple.Entry.{alive}
use denote.Triple.Walked.{Stays, stay_dropped, walk_of}
use Rattle.std.proofs.alloc.Calls.{Goes-blank}
use Rattle.std.proofs.BoxSteps.Form.{word, box_typed, B}
use Rattle.std.proofs.BoxSteps.Steps.{box_out, box_in}
use Rattle.std.proofs.raw_atomic.Walks.{proved_at, leaves}
use Rattle.std.specs.Prelude.{IsSome}
use Rattle.std.specs.declared.option.Option.TheVariants.{Some}
use Rattle.amqp1.specs.OccupantView.{OccupantView}
use Rattle.amqp1.proofs.SlotStepLemmas.{Held, From, held_box, held_in, holds}
use Rattle.amqp1.specs.contracts.slot.Slot as slot
use Rattle.amqp1.specs.contracts.slot.Slot.into_raw.{ended, clauses}
use Rattle.amqp1.specs.contracts.slot.Slot.into_raw.Key.{name as #self}
use Rattle.amqp1.proofs.slot.Slot.into_raw.Statement.{statement}
use Rattle.amqp1.proofs.slot.Slot.into_raw.Code as code

pub into_raw_spec : {M : Type 1} → statement M
into_raw_spec 𝓤 𝓛 𝓜 𝓡 wired =
    let H = 𝓛.H in let 𝓣 = tables 𝓤 H 𝓜 𝓡 𝓡.env in let c = clauses 𝓛 𝓜.mem 𝓡.returns in let fn = code.function in
    let hs : Stays ended.signature.params ended.kept = (stay_dropped _ ended.kept.0, tt) in
    proved_at 𝓛 ended hs c 𝓜 𝓡 (Goes-blank 𝓛 0 (plain (λ _. slot.the_row)) ended.kept.0 (λ κs x f. tt), tt) #self fn (code.unfolded 𝓤 H 𝓜 𝓡 wired) (λ z are.
    let Post : Val → SProp 𝓤 = (walk_of 𝓛 ended hs c).post z in let Run : List Val → SProp 𝓤 = λ ws. WpFn 𝓤 H 𝓣.C 𝓣.Λ fn ws Post in
    let s = z.0.3.0 in
    qed 𝓛 ((raw (alive 𝓛 ended.signature z.0.0 z.0.1) ⊛ ‵ (owns (types_at ended.signature.params z.0.0) z.0.3 z.0.4)) ∷ raw (fact 𝓤 (IsSome s.held)) ∷ []) ∵ move ! (1 ∷ []) $ heard ! (IsSome s.held) (λ some'.
    let x : OccupantView = (held_in s.held some').0 in let is = (held_in s.held some').1 in
    split ! $ move ! (1 ∷ []) $ fsplit ! $ use1 𝓛 (‵ ((B Held).own_val (held_box s x) z.0.4.0)) (holds 𝓛 s x z.0.4.0 is) $
    box_out Held ! (held_box s x) z.0.4.0 (λ b o hv e ws fa.
    let w : Val = word Held hv b o in let good = box_typed Held hv b o fa in let r : From.Denot = record { at = block_ptr b o; alloc = s.alloc; value = x } in
    suffices ! (Run (w ∷ [])) (subst (λ (us : List Val). ent 𝓤 (Run (w ∷ [])) (Run us)) (sym (λ i. ws i ++ [])) (id⊢ 𝓤 (Run (w ∷ [])))) $
    enter ! 𝓣.C 𝓣.Λ fn (w ∷ []) Post $ alloc_all ! (λ l. pass_all ! refl (good, tt) $
    sets ! (of_opd ! (get_in ! (fld ! refl (stop !)) (sub ! 0 refl (whole !)))) refl (tt, tt) $ sets ! (of_opd ! (get_in ! (fld ! refl (stop !)) (sub ! 1 refl (whole !)))) refl fa $ sets ! (of_opd ! (get ! refl)) refl (tt, tt) $
    sets ! (agg ! (and_then ! (get ! refl) (and_then ! (get ! refl) (no_more !)))) refl good $ returns ! (look_at ! 0 refl) $ free_all ! refl $
    box_in Held ! (record { ptr = block_ptr b o; alloc = s.alloc; value = x }) b o x refl refl $ use1 𝓛 (‵ (From.own_val r (w ∷ []))) (id⊢ 𝓤 _) $
    use0 𝓛 (raw (fact 𝓤 (s.held ≡ Some x))) (fact_i 𝓤 (s.held ≡ Some x) (emp 𝓤) is) $ nothing ! $ nothing ! $ fjoin ! $
    keep ! (0 ∷ 1 ∷ 2 ∷ 4 ∷ []) $ move ! (3 ∷ 0 ∷ 2 ∷ 1 ∷ []) $ by ! (leaves 𝓛 ended hs c z w r (tt, tt) (tt, tt))))))
