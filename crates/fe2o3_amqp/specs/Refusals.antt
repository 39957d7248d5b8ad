-- Part: other calls.
-- What the peer is told of a refused frame: the condition, and the frame that carries it, an End (part 2, section 2.7.8) or a Close
-- (section 2.7.9). What each condition means stands in sections 2.8.15 and 2.8.17.
use Rattle.std.specs.Prelude.{Bool, true, false, Option, Some, None, if◌then◌else◌}
use Rattle.amqp_types.specs.declared.states.ConnectionState.{ConnectionState}
use Rattle.amqp_types.specs.declared.states.ConnectionState.TheVariants as its
use Rattle.amqp_frames.specs.declared.error.Error.{Error}
use Rattle.amqp_frames.specs.declared.error.Error.TheVariants as frame
use Rattle.amqp_connection.specs.declared.error.ConnectionStateError.{ConnectionStateError}
use Rattle.amqp_connection.specs.declared.error.ConnectionStateError.TheVariants as state
use Rattle.amqp_connection.specs.declared.error.ConnectionInnerError.{ConnectionInnerError}
use Rattle.amqp_connection.specs.declared.error.ConnectionInnerError.TheVariants as inner
use Rattle.amqp_session.specs.declared.error.SessionStateError.{SessionStateError}
use Rattle.amqp_session.specs.declared.error.SessionStateError.TheVariants as begun
use Rattle.amqp_session.specs.declared.error.SessionInnerError.{SessionInnerError}
use Rattle.amqp_session.specs.declared.error.SessionInnerError.TheVariants as session
use Rattle.amqp_engine.specs.declared.engine.step_error.StepError.{StepError}
use Rattle.amqp_engine.specs.declared.engine.step_error.StepError.TheVariants as no
use Rattle.fe2o3_amqp.specs.declared.conditions.ErrorCondition.TheVariants as is
use Rattle.fe2o3_amqp.specs.declared.refusals.PeerAnswer.{PeerAnswer}
use Rattle.fe2o3_amqp.specs.declared.refusals.PeerAnswer.TheVariants as by

-- the bytes: of a frame of this side's that is too large, and of a failed transport, the peer is told nothing
abbrev pub frame_answer : Error → Option PeerAnswer
frame_answer (frame.Io text) = None
frame_answer frame.DecodeError = Some (by.Close is.DecodeError)
frame_answer frame.NotImplemented = Some (by.Close is.NotImplemented)
frame_answer frame.TooLarge = None
frame_answer frame.OutOfMemory = Some (by.Close is.ResourceLimitExceeded)

-- an Open or a Close: memory is asked for by this side's own Open alone
abbrev pub state_answer : ConnectionStateError → Option PeerAnswer
state_answer state.IllegalState = Some (by.Close is.IllegalState)
state_answer state.RemoteClosed = None
state_answer (state.RemoteClosedWithError e) = None
state_answer (state.TransportError text) = None
state_answer state.OutOfMemory = None

-- a frame of a session, on the way to it
abbrev pub connection_answer : ConnectionInnerError → Option PeerAnswer
connection_answer (inner.TransportError text) = None
connection_answer inner.IllegalState = Some (by.Close is.IllegalState)
connection_answer (inner.NotImplemented text) = Some (by.Close is.NotImplemented)
connection_answer (inner.NotFound text) = Some (by.Close is.NotFound)
connection_answer inner.RemoteClosed = None
connection_answer (inner.RemoteClosedWithError e) = None
connection_answer inner.OutOfMemory = Some (by.Close is.ResourceLimitExceeded)

-- a Begin or an End, at its session: memory is asked for by this side's own Begin alone
abbrev pub session_state_answer : SessionStateError → Option PeerAnswer
session_state_answer begun.IllegalState = Some (by.End is.IllegalState)
session_state_answer (begun.ConnectionStopped reason) = None
session_state_answer begun.RemoteEnded = None
session_state_answer (begun.RemoteEndedWithError e) = None
session_state_answer begun.OutOfMemory = None

-- any other frame of a session: a transfer of this side's alone is in an illegal state
abbrev pub session_answer : SessionInnerError → Option PeerAnswer
session_answer session.UnattachedHandle = Some (by.End is.UnattachedHandle)
session_answer session.RemoteAttachingLinkNameNotFound = Some (by.End is.NotFound)
session_answer session.HandleInUse = Some (by.End is.HandleInUse)
session_answer session.IllegalState = None
session_answer (session.ConnectionStopped reason) = None
session_answer session.TransferFrameToSender = Some (by.End is.NotAllowed)
session_answer session.RemoteEnded = None
session_answer (session.RemoteEndedWithError e) = None
session_answer session.UnknownTxnId = Some (by.End is.UnknownTransaction)
session_answer session.OutOfMemory = Some (by.End is.ResourceLimitExceeded)

-- all refusals: those without a row of their own above are of this side's requests
abbrev pub step_answer : StepError → Option PeerAnswer
step_answer no.OutputWaiting = None
step_answer (no.Frame e) = frame_answer e
step_answer (no.ConnectionState e) = state_answer e
step_answer (no.Connection e) = connection_answer e
step_answer (no.AllocSession e) = None
step_answer (no.SessionState e) = session_state_answer e
step_answer (no.Session e) = session_answer e
step_answer (no.AllocLink e) = None
step_answer no.SessionInUse = None
step_answer no.NoSession = None
step_answer no.OutOfMemory = Some (by.Close is.ResourceLimitExceeded)

-- The states in which this side's Close went out: nothing may follow it (sections 2.4.3 and 2.4.6).
abbrev pub has_closed : ConnectionState → Bool
has_closed its.ClosePipe = true
has_closed its.OpenClosePipe = true
has_closed its.CloseSent = true
has_closed its.Discarding = true
has_closed its.End = true
has_closed s = false

abbrev pub answer_of : StepError → ConnectionState → Option PeerAnswer
answer_of e s = if has_closed s then None else step_answer e
