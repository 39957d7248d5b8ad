-- The answer that a record asks for: of which calls it is made, and by which numbers it goes.
use Rattle.std.proofs.Common.{◌≡◌, inl, inr, ℕ, List, [], ◌∷◌, Option, Some, None, refl}
use Rattle.amqp_session.specs.Relay.{Relays}
use Rattle.amqp_session.specs.Settings.{default_settings}
use Rattle.amqp_session.specs.declared.error.SessionInnerError.{SessionInnerError}
use Rattle.amqp_session.specs.declared.error.SessionInnerError.TheVariants as session
use Rattle.amqp_session.specs.declared.error.SessionStateError.{SessionStateError}
use Rattle.amqp_session.specs.declared.error.SessionStateError.TheVariants as begun
use Rattle.amqp_frames.specs.declared.error.Error.{Error}
use Rattle.amqp_frames.specs.declared.error.Error.TheVariants as frame
use Rattle.amqp_connection.specs.declared.error.AllocSessionError.{AllocSessionError}
use Rattle.amqp_connection.specs.declared.error.AllocSessionError.TheVariants as full
use Rattle.amqp_connection.specs.declared.error.ConnectionInnerError.{ConnectionInnerError}
use Rattle.amqp_connection.specs.declared.error.ConnectionInnerError.TheVariants as inner
use Rattle.amqp_connection.specs.declared.error.ConnectionStateError.{ConnectionStateError}
use Rattle.amqp_connection.specs.declared.error.ConnectionStateError.TheVariants as state
use Rattle.amqp_connection.specs.declared.numbers.SessionNo.{SessionNo}
use Rattle.amqp_session.specs.declared.error.AllocLinkError.{AllocLinkError}
use Rattle.amqp_session.specs.declared.error.AllocLinkError.TheVariants as link
use Rattle.amqp_engine.specs.declared.engine.input.Input.TheVariants as input
use Rattle.amqp_engine.specs.declared.engine.step_error.StepError.{StepError}
use Rattle.amqp_engine.specs.declared.engine.step_error.StepError.TheVariants as no
use Rattle.fe2o3_amqp.specs.declared.refusals.PeerAnswer.{PeerAnswer}
use Rattle.fe2o3_amqp.specs.Refusals.{connection_answer, frame_answer, session_answer, session_state_answer, state_answer, step_answer}
use Rattle.amqp_driver.specs.declared.answered.EndAnswer.{EndAnswer}
use Rattle.amqp_driver.specs.declared.answered.EndAnswer.TheVariants as end
use Rattle.amqp_driver.specs.declared.answered.RecordAnswer.{RecordAnswer}
use Rattle.amqp_driver.specs.declared.answered.RecordAnswer.TheVariants as answer
use Rattle.amqp_driver.specs.declared.asked.Asked.TheVariants as asked
use Rattle.amqp_driver.specs.declared.record.Record.{Record}
use Rattle.amqp_driver.specs.declared.wanted.Wanted.{Wanted}
use Rattle.amqp_driver.specs.declared.wanted.Wanted.TheVariants as want
use Rattle.amqp_driver.specs.Ending.{IsEnded, session_in}
use Rattle.amqp_driver.specs.Laws.{IsMadeOfCalls}
use Rattle.amqp_driver.specs.Refusals.{alloc_number, frame_number, inner_number, link_number, refusal_number, session_number, session_state_number, state_number}
use Rattle.amqp_driver.specs.Stream.{StreamView}
use Rattle.amqp_driver.specs.StreamLife.{asks, begins, ends}
use Rattle.amqp_driver.specs.StreamTicking.{AsksStream}
use Rattle.amqp_driver.specs.Wanted.{AnswersIfDue, AnswersWanted, EndsOrLetsGo, ForgetsStream, LetsGoStream, answer_by_number, answer_due, frame_in, input_for, session_no}

-- ---- a session is let go

pub stream_lets_go : {R : Type 0} (g : Relays R) (v k w : StreamView R) (n : SessionNo) (a : EndAnswer) → IsEnded (session_in v.driver n)
    → AsksStream g v (input.Release n) asked.Done k → ForgetsStream g k n a w → LetsGoStream g v n a w
stream_lets_go g v k w n end.Done is r x = (k, is, r, x)
stream_lets_go g v k w n (end.NotForgotten a) is r x = (k, is, r, x)
stream_lets_go g v k w n end.NotEnded is r x = absurd x
stream_lets_go g v k w n (end.Unsent a) is r x = absurd x
stream_lets_go g v k w n (end.NotReleased a) is r x = absurd x

-- ---- of which calls

pub lets_go_by_calls : {R : Type 0} (g : Relays R) (v w : StreamView R) (n : SessionNo) (a : EndAnswer) → LetsGoStream g v n a w → IsMadeOfCalls g v w
lets_go_by_calls g v w n end.NotEnded x = ([], x.1)
lets_go_by_calls g v w n (end.NotReleased a) x = (asks (input.Release n) a ∷ [], (w, x.1.0, refl))
lets_go_by_calls g v w n end.Done x =
    (asks (input.Release n) asked.Done ∷ asks (input.Forget n) asked.Done ∷ [], (x.0, x.2, (w, x.3, refl)))
lets_go_by_calls g v w n (end.NotForgotten a) x =
    (asks (input.Release n) asked.Done ∷ asks (input.Forget n) a ∷ [], (x.0, x.2, (w, x.3.0, refl)))
lets_go_by_calls g v w n (end.Unsent a) x = absurd x.3

ends_by_calls : {R : Type 0} (g : Relays R) (v w : StreamView R) (n : SessionNo) (a : EndAnswer) → EndsOrLetsGo g v n a w → IsMadeOfCalls g v w
ends_by_calls g v w n a (inl x) = (ends n None a ∷ [], (w, x.1, refl))
ends_by_calls g v w n a (inr x) = lets_go_by_calls g v w n a x.1

due_by_calls : {R : Type 0} (p : Option PeerAnswer) (g : Relays R) (v w : StreamView R) (n : SessionNo) (a : RecordAnswer) → AnswersIfDue p g v n a w
    → IsMadeOfCalls g v w
due_by_calls None g v w n a x = ([], x.1)
due_by_calls (Some p) g v w n (answer.Asked a) x = (asks (input_for n p) a ∷ [], (w, x, refl))
due_by_calls (Some p) g v w n answer.NoMemory x = ([], x.0)
due_by_calls (Some p) g v w n answer.Nothing x = absurd x
due_by_calls (Some p) g v w n (answer.Begin a) x = absurd x
due_by_calls (Some p) g v w n (answer.End a) x = absurd x

pub wanted_by_calls : {R : Type 0} (wanted : Wanted) (g : Relays R) (v w : StreamView R) (n : SessionNo) (r : Record) (bytes : List ℕ) (a : RecordAnswer)
    → AnswersWanted wanted g v n r bytes a w → IsMadeOfCalls g v w
wanted_by_calls want.Begin g v w n r bytes (answer.Begin a) x =
    (begins (frame_in r bytes) n default_settings a ∷ [], (w, x, refl))
wanted_by_calls want.End g v w n r bytes (answer.End a) x = ends_by_calls g v w (session_no r.session) a x
wanted_by_calls want.Close g v w n r bytes (answer.Asked a) x = (asks (input.Close None) a ∷ [], (w, x, refl))
wanted_by_calls want.Refusal g v w n r bytes a x = due_by_calls (answer_due v r) g v w (session_no r.session) a x
wanted_by_calls want.Nothing g v w n r bytes answer.Nothing x = ([], x)
wanted_by_calls want.Begin g v w n r bytes answer.Nothing x = absurd x
wanted_by_calls want.Begin g v w n r bytes (answer.End a) x = absurd x
wanted_by_calls want.Begin g v w n r bytes (answer.Asked a) x = absurd x
wanted_by_calls want.Begin g v w n r bytes answer.NoMemory x = absurd x
wanted_by_calls want.End g v w n r bytes answer.Nothing x = absurd x
wanted_by_calls want.End g v w n r bytes (answer.Begin a) x = absurd x
wanted_by_calls want.End g v w n r bytes (answer.Asked a) x = absurd x
wanted_by_calls want.End g v w n r bytes answer.NoMemory x = absurd x
wanted_by_calls want.Close g v w n r bytes answer.Nothing x = absurd x
wanted_by_calls want.Close g v w n r bytes (answer.Begin a) x = absurd x
wanted_by_calls want.Close g v w n r bytes (answer.End a) x = absurd x
wanted_by_calls want.Close g v w n r bytes answer.NoMemory x = absurd x
wanted_by_calls want.Nothing g v w n r bytes (answer.Begin a) x = absurd x
wanted_by_calls want.Nothing g v w n r bytes (answer.End a) x = absurd x
wanted_by_calls want.Nothing g v w n r bytes (answer.Asked a) x = absurd x
wanted_by_calls want.Nothing g v w n r bytes answer.NoMemory x = absurd x

-- ---- by which numbers

frame_by_number : (e : Error) → answer_by_number (frame_number e) ≡ frame_answer e
frame_by_number (frame.Io text) = refl
frame_by_number frame.DecodeError = refl
frame_by_number frame.NotImplemented = refl
frame_by_number frame.TooLarge = refl
frame_by_number frame.OutOfMemory = refl

state_by_number : (e : ConnectionStateError) → answer_by_number (state_number e) ≡ state_answer e
state_by_number state.IllegalState = refl
state_by_number state.RemoteClosed = refl
state_by_number (state.RemoteClosedWithError e) = refl
state_by_number (state.TransportError text) = refl
state_by_number state.OutOfMemory = refl

inner_by_number : (e : ConnectionInnerError) → answer_by_number (inner_number e) ≡ connection_answer e
inner_by_number (inner.TransportError text) = refl
inner_by_number inner.IllegalState = refl
inner_by_number (inner.NotImplemented text) = refl
inner_by_number (inner.NotFound text) = refl
inner_by_number inner.RemoteClosed = refl
inner_by_number (inner.RemoteClosedWithError e) = refl
inner_by_number inner.OutOfMemory = refl

alloc_by_number : (e : AllocSessionError) → answer_by_number (alloc_number e) ≡ None
alloc_by_number full.ConnectionNotOpened = refl
alloc_by_number (full.ConnectionStopped reason) = refl
alloc_by_number full.ChannelMaxReached = refl
alloc_by_number full.OutOfMemory = refl

begun_by_number : (e : SessionStateError) → answer_by_number (session_state_number e) ≡ session_state_answer e
begun_by_number begun.IllegalState = refl
begun_by_number (begun.ConnectionStopped reason) = refl
begun_by_number begun.RemoteEnded = refl
begun_by_number (begun.RemoteEndedWithError e) = refl
begun_by_number begun.OutOfMemory = refl

session_by_number : (e : SessionInnerError) → answer_by_number (session_number e) ≡ session_answer e
session_by_number session.UnattachedHandle = refl
session_by_number session.RemoteAttachingLinkNameNotFound = refl
session_by_number session.HandleInUse = refl
session_by_number session.IllegalState = refl
session_by_number (session.ConnectionStopped reason) = refl
session_by_number session.TransferFrameToSender = refl
session_by_number session.RemoteEnded = refl
session_by_number (session.RemoteEndedWithError e) = refl
session_by_number session.UnknownTxnId = refl
session_by_number session.OutOfMemory = refl

link_by_number : (e : AllocLinkError) → answer_by_number (link_number e) ≡ None
link_by_number link.SessionNotMapped = refl
link_by_number (link.SessionStopped reason) = refl
link_by_number link.DuplicatedLinkName = refl
link_by_number link.HandlesExhausted = refl
link_by_number link.OutOfMemory = refl

pub by_number : (e : StepError) → answer_by_number (refusal_number e) ≡ step_answer e
by_number no.OutputWaiting = refl
by_number no.NoSession = refl
by_number no.SessionInUse = refl
by_number no.OutOfMemory = refl
by_number (no.Frame e) = frame_by_number e
by_number (no.ConnectionState e) = state_by_number e
by_number (no.Connection e) = inner_by_number e
by_number (no.AllocSession e) = alloc_by_number e
by_number (no.SessionState e) = begun_by_number e
by_number (no.Session e) = session_by_number e
by_number (no.AllocLink e) = link_by_number e
