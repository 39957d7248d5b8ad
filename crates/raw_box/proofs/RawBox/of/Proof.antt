-- `of`: the call takes the box apart, and the struct is made of the two parts that it hands out.
use Rattle.std.proofs.Common.{◌≡◌, List, [], ◌∷◌, ◌++◌, refl, sym, ap, ◌∙◌, subst}
use mir.Syntax.{Args, a_type, dcons, dnil}
use mir.MapTy.{inst_fn}
use mir.Raw.{raw as bare}
use mir.Val.{Val, vstruct, of_list}
use base.Logic.{SProp, ent, emp, id⊢, never, fst∗}
use base.Fml.{ftrue, flft}
use contract.Monad.{fact, fact_i}
use contract.Running.{tables}
use prog.Wp.{WpFn}
use types.Logic.{sem}
use types.Kit.{Item, ‵, raw, ◌⊛◌, some, later, ◌$◌, ◌∵◌, !, qed, by, move, keep, drop, use0, use1, join, split, split3, pick, rewrite, fsplit, fjoin, fpick, feq_l, suffices, await}
use types.Part.{whole, sub, agg}
use types.Run.{stop, fld, no_more, and_then, of_opd, returns, enter}
use types.ByLocal.{alloc_all, pass_all, free_all, look_at, get, get_in, sets, lands_as}
use denote.Exit.{no}
use denote.Param.{bounded}
use denote.RattleType.{owns}
use denote.RawPtr.{Ptr, RawPtr, block_ptr, null_ptr, ptr_val, in_a_block}
use denote.Signature.{plain, types_at}
use denote.Steps.{heard, nothing, only}
use denote.Struct.Tuple.{Tuple}
use denote.Triple.Call.{calls_at}
use denote.Triple.Clauses.{Lasts, lasts}
use denote.Triple.Spec.{triple_of}
use denote.Triple.Table.{framed}
use denote.Triple.Walked.{Stays, stay_dropped, walk_of}
use Rattle.std.proofs.alloc.Calls.{token, handle_tells, Goes-blank}
use Rattle.std.proofs.BoxSteps.Form.{Bx, τ, R, P, B, word, box_typed}
use Rattle.std.proofs.BoxSteps.Steps.{box_out, box_in}
use Rattle.std.proofs.raw_atomic.Walks.{proved_at, leaves}
use Rattle.std.specs.Box.Ownership.{box_owns}
use Rattle.std.specs.contracts.boxed.Box.into_raw_with_allocator as taken
use Rattle.std.proofs.boxed.Box.into_raw_with_allocator.Met.{met}
use Rattle.raw_box.proofs.BoxRowLemmas.{Raw}
use Rattle.raw_box.specs.contracts.RawBox.of.{ended, clauses}
use Rattle.raw_box.specs.contracts.RawBox.of.Key.{name as #self}
use Rattle.raw_box.proofs.RawBox.of.Statement.{statement}
use Rattle.raw_box.proofs.RawBox.of.Code as code

pub of_spec : {M : Type 1} → statement M
of_spec 𝓤 𝓛 𝓜 𝓡 wired T A L LA g d dd dx allocator md glue =
    let H = 𝓛.H in let 𝓣 = tables 𝓤 H 𝓜 𝓡 𝓡.env in
    let E : Bx = record { row = T; laws = L; al = record { row = A; laws = LA; g = g; d = d; drops = dd } } in
    let at : Args = bounded (a_type ∷ a_type ∷ []) (T, (A, tt)) (dcons d (dcons dd (dcons dx dnil))) in let fn = inst_fn at code.function in
    let En = ended T A g d dd dx in let c = clauses T A g d dd dx 𝓛 𝓜.mem 𝓡.returns in
    let hs : Stays En.signature.params En.kept = (stay_dropped (plain (λ _. B E)) no, tt) in
    proved_at 𝓛 En hs c 𝓜 𝓡 (Goes-blank 𝓛 2 (plain (λ _. B E)) no (λ κs x f. tt), tt) (#self at) fn (code.unfolded 𝓤 H 𝓜 𝓡 wired (T, (A, tt)) d dd dx) (λ z are.
    let κs = z.0.0 in let qs = z.0.1 in let v = z.0.3.0 in let a = v.alloc in
    let Post : Val → SProp 𝓤 = (walk_of 𝓛 En hs c).post z in let Run : List Val → SProp 𝓤 = λ ws. WpFn 𝓤 H 𝓣.C 𝓣.Λ fn ws Post in
    let toks : Item 𝓤 = ‵ (flft κs.0 qs.0) ⊛ ‵ (flft κs.1.0 qs.1.0) ⊛ ‵ ftrue in let asked = raw ((c κs z.0.3).requires z.1) in
    let k = triple_of 𝓛 (taken.signature T A g d dd dx) (taken.spec T A g d dd dx 𝓛 𝓜.mem 𝓡.returns) in
    qed 𝓛 ((toks ⊛ ‵ (owns (types_at En.signature.params κs) z.0.3 z.0.4)) ∷ asked ∷ []) ∵ split ! $ move ! (1 ∷ []) $ fsplit ! $
    box_out E ! v z.0.4.0 (λ b o hv e ws fa. box_in E ! v b o v.value e refl $
    let w = word E hv b o in let good = box_typed E hv b o fa in let y : k.Ghost = ((κs, qs, tt, (v, tt), (w ∷ [], tt)), tt) in
    -- [the box; nothing; the tokens; what is asked of them]
    suffices ! (Run (w ∷ [])) (subst (λ (us : List Val). ent 𝓤 (Run (w ∷ [])) (Run us)) (sym (λ i. ws i ++ [])) (id⊢ 𝓤 (Run (w ∷ [])))) $
    enter ! 𝓣.C 𝓣.Λ fn (w ∷ []) Post $ alloc_all ! (λ ls. pass_all ! refl (good, tt) $ sets ! (of_opd ! (get ! refl)) refl good $
    fjoin ! $ move ! (1 ∷ 0 ∷ []) $ join ! $ join ! $ use1 𝓛 (raw (k.pre y)) (id⊢ 𝓤 _) $
    calls_at ! (framed 𝓤 H 𝓜 𝓣) k (met 𝓤 𝓛 𝓜 𝓡 (code.calls-std_alloc::boxed::Box::into_raw_with_allocator 𝓡.env wired) T A L LA g d dd dx allocator md glue) y (and_then ! (get ! refl) (no_more !)) (λ u.
    use1 𝓛 (later (some (λ (r : Ptr × E.al.row.Denot). (toks ⊛ ‵ ((Tuple (RawPtr ∷ P E ∷ [])).own_val r (u ∷ []))) ⊛ some (λ (l : Lasts (taken.ended T A g d dd dx) κs y.0.3). ‵ (lasts (taken.ended T A g d dd dx) κs y.0.3 l) ⊛ (raw (fact 𝓤 (r.1 ≡ a)) ⊛ ‵ (box_owns (token E.al a) (R E) r.0 v.value)))))) (id⊢ 𝓤 (k.post y u)) $
    await ! tt $ pick ! (λ r. split ! $ move ! (1 ∷ []) $ pick ! (λ _. split3 ! $ drop ! $ heard ! (r.1 ≡ a) (λ same.
    -- [the block; the tokens with the pair]
    in_a_block ! r.0 (λ p. box_owns (token E.al a) (R E) p v.value) (fst∗ 𝓤 (never 𝓤) (sem 𝓛 (token E.al a (bare (τ E)) null_ptr))) (λ b' o' e'.
    move ! (1 ∷ []) $ split ! $ move ! (1 ∷ []) $ fpick ! (λ parts. fsplit ! $ feq_l ! (λ whole_is. fsplit ! $ feq_l ! (λ at_is. fsplit ! $
    rewrite ! 0 (λ (h : E.al.row.Denot). ‵ (E.al.row.own_val h parts.1.0)) same refl $ handle_tells E.al ! a parts.1.0 (λ hw handle_is fw.
    let made : (Raw E).Denot = record { at = block_ptr b' o'; alloc = a; value = v.value } in let w' = word E hw b' o' in let good' = box_typed E hw b' o' fw in
    lands_as ! (ap only (whole_is ∙ (λ j. vstruct (of_list ((at_is ∙ ap (λ (p : Ptr). ptr_val p ∷ []) e') j ++ (handle_is j ++ []))) ∷ []))) refl good' $
    sets ! (of_opd ! (get_in ! (fld ! refl (stop !)) (sub ! 0 refl (whole !)))) refl (tt, tt) $ sets ! (of_opd ! (get_in ! (fld ! refl (stop !)) (sub ! 1 refl (whole !)))) refl fw $
    sets ! (of_opd ! (get ! refl)) refl fw $ sets ! (agg ! (and_then ! (get ! refl) (and_then ! (get ! refl) (no_more !)))) refl good' $ returns ! (look_at ! 0 refl) $ free_all ! refl $
    -- [the handle; nothing; the tokens; the block]
    move ! (3 ∷ []) $ fsplit ! $ box_in E ! (record { ptr = block_ptr b' o'; alloc = a; value = v.value }) b' o' v.value refl refl $ use1 𝓛 (‵ ((Raw E).own_val made (w' ∷ []))) (id⊢ 𝓤 _) $
    use0 𝓛 (raw (fact 𝓤 (v.value ≡ v.value))) (fact_i 𝓤 (v.value ≡ v.value) (emp 𝓤) refl) $ nothing ! $ nothing ! $ fjoin ! $
    keep ! (0 ∷ 1 ∷ 2 ∷ 4 ∷ []) $ move ! (3 ∷ 0 ∷ 2 ∷ 1 ∷ []) $ by ! (leaves 𝓛 En hs c z w' made ((tt, (tt, tt)), tt) (tt, tt))))))))))))))
