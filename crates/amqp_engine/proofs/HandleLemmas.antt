-- What handles do leaves the history: wishes are no part of it, and an outcome is taken where both sides have closed.
use Rattle.std.proofs.Common.{◌≡◌, ◌⊎◌, ℕ, [], Bool, true, false, cond, Option, Some, None, Result, refl, ap, sym, subst, ◌∙◌, inl, inr, nat_eq}
use Rattle.std.specs.Map.{lookup}
use Rattle.std.specs.FinMap as map
use Rattle.std.specs.FinMap.{get-remove}
use Rattle.std.specs.Cmp.{nat_cmp_total}
use Rattle.amqp_types.specs.Error.{ErrorModel}
use Rattle.amqp_types.specs.declared.states.ConnectionState.{ConnectionState}
use Rattle.amqp_types.specs.declared.states.ConnectionState.TheVariants as at
use Rattle.amqp_types.specs.declared.states.SessionState.{SessionState}
use Rattle.amqp_types.specs.declared.states.SessionState.TheVariants as stands
use Rattle.amqp_session.specs.Session.{SessionView}
use Rattle.amqp_session.specs.declared.error.TryEndError.{TryEndError}
use Rattle.amqp_connection.specs.declared.error.TryCloseError.{TryCloseError}
use Rattle.amqp_engine.specs.EngineView.{EngineView}
use Rattle.amqp_engine.specs.Kept.{Wishes, CloseOutcome, EndOutcome}
use Rattle.amqp_engine.specs.History.{IsEnded, OutputTaken}
use Rattle.amqp_engine.specs.Handles.{CloseAnswer, EndAnswer, SessionHandleView, close_answer_at, close_noted, close_taken, CloseCall, TriesClose, TryCloseCall}
use Rattle.amqp_engine.specs.Handles.{end_answer_at, end_noted, end_taken, WishesEnd, EndCall, TriesEnd, AsksEnd, TryEndCall}
use Rattle.amqp_engine.proofs.OutputLemmas.{OutputTaken-none, OutputTaken-more}
use Rattle.amqp_engine.proofs.SessionProjectionLemmas.{same_number}
use Rattle.amqp_engine.proofs.HandledRunLemmas.{rewished}
use Rattle.amqp_session.proofs.FiniteMapLemmas.{same_test}

-- it stays
stayed : {R : Type 0} (v w : EngineView R) → w ≡ v → OutputTaken v w
stayed v w e = subst (λ (x : EngineView _). OutputTaken v x) (sym e) (OutputTaken-none v)

-- a wish is noted
pub noted : {R : Type 0} (v w : EngineView R) (q : Wishes) → w ≡ record v { wishes = q } → OutputTaken v w
noted v w q e = subst (λ (x : EngineView _). OutputTaken v x) (sym e) (rewished v q)

-- ---- of a connection

pub close_leaves : {R : Type 0} (answered : Bool) (error : Option ErrorModel) (v w : EngineView R) (answer : CloseAnswer) → CloseCall answered error v answer w → OutputTaken v w
close_leaves true error v w answer c = stayed v w c.1
close_leaves false error v w answer c = noted v w _ c.1

closed : {R : Type 0} (v : EngineView R) → v.connection.state ≡ at.End → OutputTaken v (close_taken v)
closed v e = record {
  gone = [];
  left = refl;
  connection_is = refl;
  sessions_is = refl;
  forgotten_is = refl;
  limit_is = refl;
  outcomes_are = record { close = inr (e, refl); ends = λ n. inl refl };
}

told_at_end : (s : ConnectionState) (o : Option CloseOutcome) (a : CloseAnswer) → close_answer_at s o ≡ Some a → s ≡ at.End
told_at_end at.End o a e = refl
told_at_end s o a e = absurd cc

close_tried : {R : Type 0} (v w : EngineView R) (answer : Result CloseAnswer TryCloseError) (answered' : Bool) (o : Option CloseAnswer) → close_answer_at v.connection.state v.outcomes.connection ≡ o →
    TriesClose o v answer answered' w → OutputTaken v w
close_tried v w answer answered' None e c = stayed v w c.2
close_tried v w answer answered' (Some a) e c = subst (λ (x : EngineView _). OutputTaken v x) (sym c.2) (closed v (told_at_end v.connection.state v.outcomes.connection a e))

pub try_close_leaves : {R : Type 0} (answered : Bool) (v w : EngineView R) (answer : Result CloseAnswer TryCloseError) (answered' : Bool) → TryCloseCall answered v answer answered' w → OutputTaken v w
try_close_leaves true v w answer answered' c = stayed v w c.2
try_close_leaves false v w answer answered' c =
    OutputTaken-more v (close_noted None v) w (noted v (close_noted None v) _ refl) (close_tried (close_noted None v) w answer answered' _ refl c)

-- ---- of a session

wishes_end : {R : Type 0} (n : ℕ) (s : Option (SessionView R)) (error : Option ErrorModel) (v w : EngineView R) (answer : EndAnswer) → WishesEnd n s error v answer w → OutputTaken v w
wishes_end n None error v w answer c = stayed v w c.1
wishes_end n (Some s) error v w answer c = noted v w _ c.1

end_by : {R : Type 0} (h : SessionHandleView) (error : Option ErrorModel) (v w : EngineView R) (answer : EndAnswer) (answered : Bool) → h.answered ≡ answered → EndCall h error v answer w → OutputTaken v w
end_by h error v w answer true e c = stayed v w (c.0 e).1
end_by h error v w answer false e c = wishes_end h.number (lookup (nat_eq h.number) v.sessions) error v w answer (c.1 e)

pub end_leaves : {R : Type 0} (h : SessionHandleView) (error : Option ErrorModel) (v w : EngineView R) (answer : EndAnswer) → EndCall h error v answer w → OutputTaken v w
end_leaves h error v w answer c = end_by h error v w answer h.answered refl c

ended : {R : Type 0} (n : ℕ) (v : EngineView R) → IsEnded n v → OutputTaken v (end_taken n v)
ended n v is = record {
  gone = [];
  left = refl;
  connection_is = refl;
  sessions_is = refl;
  forgotten_is = refl;
  limit_is = refl;
  outcomes_are = record { close = inl refl; ends = λ k. by k (nat_eq k n) refl };
}
  where
    by : (k : ℕ) (b : Bool) → nat_eq k n ≡ b →
        (map.get (map.remove v.outcomes.sessions n) k ≡ map.get v.outcomes.sessions k) ⊎ (IsEnded k v × (map.get (map.remove v.outcomes.sessions n) k ≡ None))
    by k true e = inr (
      subst (λ m. IsEnded m v) (sym (same_number k n e)) is,
      get-remove nat_cmp_total v.outcomes.sessions n k ∙ ap (λ b. cond b None (map.get v.outcomes.sessions k)) (same_test k n ∙ e),
    )
    by k false e = inl (get-remove nat_cmp_total v.outcomes.sessions n k ∙ ap (λ b. cond b None (map.get v.outcomes.sessions k)) (same_test k n ∙ e))

told_unmapped : (s : SessionState) (o : Option EndOutcome) (a : EndAnswer) → end_answer_at s o ≡ Some a → s ≡ stands.Unmapped
told_unmapped stands.Unmapped o a e = refl
told_unmapped s o a e = absurd cc

end_tried : {R : Type 0} (n : ℕ) (s : SessionView R) (v w : EngineView R) (answer : Result EndAnswer TryEndError) (answered : Bool) (o : Option EndAnswer) → lookup (nat_eq n) v.sessions ≡ Some s →
    end_answer_at s.state (map.get v.outcomes.sessions n) ≡ o → TriesEnd n o v answer answered w → OutputTaken v w
end_tried n s v w answer answered None is e c = stayed v w c.2
end_tried n s v w answer answered (Some a) is e c =
    subst (λ (x : EngineView _). OutputTaken v x) (sym c.2) (ended n v (s, is, told_unmapped s.state (map.get v.outcomes.sessions n) a e))

asks_end : {R : Type 0} (n : ℕ) (s : Option (SessionView R)) (v w : EngineView R) (answer : Result EndAnswer TryEndError) (answered : Bool) → lookup (nat_eq n) v.sessions ≡ s → AsksEnd n s v answer answered w → OutputTaken v w
asks_end n None v w answer answered is c = stayed v w c.2
asks_end n (Some s) v w answer answered is c = OutputTaken-more v (end_noted n None v) w (noted v (end_noted n None v) _ refl) (end_tried n s (end_noted n None v) w answer answered _ is refl c)

try_end_by : {R : Type 0} (h : SessionHandleView) (v w : EngineView R) (answer : Result EndAnswer TryEndError) (h' : SessionHandleView) (answered : Bool) → h.answered ≡ answered → TryEndCall h v answer h' w → OutputTaken v w
try_end_by h v w answer h' true e c = stayed v w (c.1 e).2
try_end_by h v w answer h' false e c = asks_end h.number _ v w answer h'.answered refl (c.2 e)

pub try_end_leaves : {R : Type 0} (h : SessionHandleView) (v w : EngineView R) (answer : Result EndAnswer TryEndError) (h' : SessionHandleView) → TryEndCall h v answer h' w → OutputTaken v w
try_end_leaves h v w answer h' c = try_end_by h v w answer h' h.answered refl c
