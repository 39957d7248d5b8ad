-- The outcomes that are kept of a Close and of an End.
use Rattle.std.proofs.Common.{◌≡◌, ℕ, List, Option, Some, None, IsSome, is_some, Result, Ok, Err, refl, ap, sym, subst, ◌∙◌, nat_eq, Bool, true, false, cond}
use Rattle.std.specs.Map.{lookup}
use Rattle.std.specs.Ordering.{nat_cmp}
use Rattle.std.specs.Cmp.{nat_cmp_total, eq_by_cmp_equiv}
use Rattle.std.specs.Option.{option_map}
use Rattle.std.specs.FinMap as map
use Rattle.amqp_types.specs.declared.states.ConnectionState.{ConnectionState}
use Rattle.amqp_types.specs.declared.states.ConnectionState.TheVariants.{CloseReceived}
use Rattle.amqp_types.specs.Error.{ErrorModel}
use Rattle.amqp_types.specs.Close.{CloseModel}
use Rattle.amqp_types.specs.End.{EndModel}
use Rattle.amqp_frames.specs.declared.frame.FrameBody.TheVariants as body
use Rattle.amqp_session.specs.declared.error.SessionStateError.{SessionStateError}
use Rattle.amqp_session.specs.declared.error.SessionStateError.TheVariants as ended
use Rattle.amqp_session.specs.Relay.{Relays}
use Rattle.amqp_session.specs.Session.{SessionView, SessionModel}
use Rattle.amqp_session.specs.Step.{TakeEndStep}
use Rattle.amqp_session.specs.History as session
use Rattle.amqp_connection.specs.declared.error.ConnectionStateError.{ConnectionStateError}
use Rattle.amqp_connection.specs.declared.error.ConnectionStateError.TheVariants as closed
use Rattle.amqp_frames.specs.declared.frame.Frame.{Frame}
use Rattle.amqp_engine.specs.declared.engine.step_error.StepError.{StepError}
use Rattle.amqp_connection.specs.Connection.{ConnectionView, IncomingCloseStep, close_error}
use Rattle.amqp_engine.specs.Kept.{Outcomes, Wishes, CloseOutcome, EndOutcome, close_answer, end_answer, close_kept, end_kept}
use Rattle.amqp_engine.specs.Inner.Places.{IsCloseCopy, IsEndCopy, Seated}
use Rattle.amqp_engine.specs.EngineView.{EngineView, views_of}
use Rattle.amqp_engine.specs.Calls.{state_refusal}
use Rattle.amqp_engine.specs.Inner.Calls.{ReceivedEndCalls}
use Rattle.amqp_engine.specs.Sessions.{Answered}
use Rattle.amqp_engine.specs.Engine.{ReceivedCloseStep, kept}
use Rattle.amqp_session.proofs.FiniteMapLemmas.{same_test}
use Rattle.amqp_engine.proofs.PickedMapLemmas.{Writes}
use Rattle.amqp_engine.proofs.SessionListLemmas.{viewed}

-- ---- a Close

told_error : (s : ConnectionState) (error : Option ErrorModel) (e : ErrorModel) → Some (closed.RemoteClosedWithError e) ≡ close_error s error → error ≡ Some e
told_error s (Some x) e is = cc
told_error CloseReceived None e is = absurd cc
told_error s None e is = absurd cc

came_copy : (v k : ConnectionView) (c : CloseModel) (r : Option ConnectionStateError) → IncomingCloseStep v c r k → IsCloseCopy r c.error
came_copy v k c (Some (closed.RemoteClosedWithError e)) s = told_error s.0 c.error e s.2
came_copy v k c (Some closed.IllegalState) s = tt
came_copy v k c (Some closed.RemoteClosed) s = tt
came_copy v k c (Some (closed.TransportError t)) s = tt
came_copy v k c (Some closed.OutOfMemory) s = tt
came_copy v k c None s = tt

-- the error that the answer names is that of the Close
pub close_copy : (v w : ConnectionView) (c : CloseModel) (r : Option ConnectionStateError) (copy : Option ErrorModel) → copy ≡ c.error → ReceivedCloseStep v c r w → IsCloseCopy r copy
close_copy v w c r copy same s = subst (λ x. IsCloseCopy r x) (sym same) (came_copy v s.0 c r s.1)

pub kept_close : {R : Type 0} (u v : EngineView R) (k : ConnectionView) (o : Outcomes) (q : Wishes) (c : ℕ) (close : CloseModel) (answer : Option CloseOutcome) (refusal : Option StepError) → u ≡ v →
    answer ≡ close_answer refusal → o ≡ close_kept answer u.outcomes → q ≡ u.wishes →
    record u { connection = k; outcomes = o; wishes = q } ≡ kept (Some (record { channel = c; body = body.Close close })) None refusal (record v { connection = k })
kept_close u v k o q c close answer refusal same is e f =
    ap (λ x. record u { connection = k; outcomes = x; wishes = q }) (e ∙ ap (λ a. close_kept a u.outcomes) is)
    ∙ ap (λ x. record u { connection = k; outcomes = close_kept (close_answer refusal) u.outcomes; wishes = x }) f
    ∙ ap (λ (x : EngineView _). record x { connection = k; outcomes = close_kept (close_answer refusal) x.outcomes }) same

-- ---- an End

ended_copy : {R : Type 0} (v w : SessionView R) (e : EndModel) (result : Result (Unit {0}) SessionStateError) → TakeEndStep v e result w → IsEndCopy (state_refusal result) e.error
ended_copy v w e (Ok u) s = tt
ended_copy v w e (Err (ended.RemoteEndedWithError x)) s = s.1
ended_copy v w e (Err ended.RemoteEnded) s = tt
ended_copy v w e (Err ended.IllegalState) s = tt
ended_copy v w e (Err x) s = absurd s

-- the error that the answer names is that of the End
pub end_copy : {R : Type 0} (g : Relays R) (v w : SessionView R) (c : ℕ) (e : EndModel) (r : Option StepError) (frames : List Frame) (copy : Option ErrorModel) →
    copy ≡ e.error → Answered g v (ReceivedEndCalls c e) r frames w → IsEndCopy r copy
end_copy {R} g v w c e r frames copy same a =
    let steps = subst (λ (cs : List (session.SessionCall R)). session.SessionChain g v cs w) a.asked.1 a.steps in
    subst (λ x. IsEndCopy r x) (sym same) (subst (λ x. IsEndCopy x e.error) (sym a.asked.2) (ended_copy v steps.0 e a.asked.0 steps.1))

-- ---- sessions have places

known_by : {X Y : Type 0} (a : Option X) (b : Option Y) → is_some a ≡ is_some b → IsSome a → IsSome b
known_by (Some x) (Some y) e h = refl
known_by (Some x) None e h = absurd cc
known_by None b e h = absurd cc

viewed_some : {R : Type 0} (o : Option (SessionModel R)) → is_some (option_map (λ x. x.view) o) ≡ is_some o
viewed_some (Some x) = refl
viewed_some None = refl

-- a session that is there has a place
pub seat_known : {R : Type 0} (es : List (ℕ × SessionModel R)) (n : ℕ) (places : map.FinMap nat_cmp Bool) → Seated es places → IsSome (lookup (nat_eq n) (views_of es)) → IsSome (map.get places n)
seat_known es n places seated h =
    known_by (lookup (nat_eq n) (views_of es)) (map.get places n) (ap is_some (viewed n es) ∙ viewed_some (lookup (nat_eq n) es) ∙ seated n) h

-- a number that is not there has none
pub seat_free : {X : Type 0} (es : List (ℕ × X)) (n : ℕ) (places : map.FinMap nat_cmp Bool) → Seated es places → lookup (nat_eq n) es ≡ None → map.get places n ≡ None
seat_free es n places seated none = by (map.get places n) (sym (seated n) ∙ ap is_some none)
  where
    by : (o : Option Bool) → is_some o ≡ false → o ≡ None
    by None e = refl
    by (Some x) e = absurd cc

-- one more session gets one
pub seated_more : {X : Type 0} (old new : List (ℕ × X)) (n : ℕ) (x : X) (places places' : map.FinMap nat_cmp Bool) → Writes old new n x → places' ≡ map.insert places n true → Seated old places → Seated new places'
seated_more old new n x places places' w put seated q =
    ap is_some (w q) ∙ by (nat_eq n q)
    ∙ sym (ap is_some (ap (λ m. map.get m q) put ∙ map.get-insert nat_cmp_total places n true q ∙ ap (λ b. cond b (Some true) (map.get places q)) ((eq_by_cmp_equiv nat_cmp_total).symm q n ∙ same_test n q)))
  where
    by : (b : Bool) → is_some (cond b (Some x) (lookup (nat_eq q) old)) ≡ is_some (cond b (Some true) (map.get places q))
    by true = refl
    by false = seated q

-- sessions that were read stay
pub seated_same : {X : Type 0} (old new : List (ℕ × X)) (places : map.FinMap nat_cmp Bool) → new ≡ old → Seated old places → Seated new places
seated_same old new places e seated = subst (λ es. Seated es places) (sym e) seated

-- ---- what is kept

pub kept_end : {R : Type 0} (u w : EngineView R) (o : Outcomes) (q : Wishes) (c n : ℕ) (end : EndModel) (reached : Option ℕ) (answer : Option EndOutcome) (refusal : Option StepError) → u ≡ w → reached ≡ Some n →
    answer ≡ end_answer refusal → o ≡ end_kept n answer u.outcomes → q ≡ u.wishes →
    record u { outcomes = o; wishes = q } ≡ kept (Some (record { channel = c; body = body.End end })) reached refusal w
kept_end u w o q c n end reached answer refusal same at is e f =
    ap (λ x. record u { outcomes = x; wishes = q }) (e ∙ ap (λ a. end_kept n a u.outcomes) is)
    ∙ ap (λ x. record u { outcomes = end_kept n (end_answer refusal) u.outcomes; wishes = x }) f
    ∙ ap (λ (x : EngineView _). record x { outcomes = end_kept n (end_answer refusal) x.outcomes }) same
    ∙ ap (λ r. kept (Some (record { channel = c; body = body.End end })) r refusal w) (sym at)
