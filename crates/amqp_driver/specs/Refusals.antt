-- Part: other calls.
-- The numbers of refusals: of each of StepError's variants, and of each of the errors in them.
use Rattle.std.specs.Prelude.{ℕ}
use Rattle.amqp_frames.specs.declared.error.Error.{Error}
use Rattle.amqp_frames.specs.declared.error.Error.TheVariants as frame
use Rattle.amqp_connection.specs.declared.error.ConnectionStateError.{ConnectionStateError}
use Rattle.amqp_connection.specs.declared.error.ConnectionStateError.TheVariants as state
use Rattle.amqp_connection.specs.declared.error.ConnectionInnerError.{ConnectionInnerError}
use Rattle.amqp_connection.specs.declared.error.ConnectionInnerError.TheVariants as inner
use Rattle.amqp_connection.specs.declared.error.AllocSessionError.{AllocSessionError}
use Rattle.amqp_connection.specs.declared.error.AllocSessionError.TheVariants as full
use Rattle.amqp_session.specs.declared.error.SessionStateError.{SessionStateError}
use Rattle.amqp_session.specs.declared.error.SessionStateError.TheVariants as begun
use Rattle.amqp_session.specs.declared.error.SessionInnerError.{SessionInnerError}
use Rattle.amqp_session.specs.declared.error.SessionInnerError.TheVariants as session
use Rattle.amqp_session.specs.declared.error.AllocLinkError.{AllocLinkError}
use Rattle.amqp_session.specs.declared.error.AllocLinkError.TheVariants as link
use Rattle.amqp_engine.specs.declared.engine.step_error.StepError.{StepError}
use Rattle.amqp_engine.specs.declared.engine.step_error.StepError.TheVariants as no

abbrev pub frame_number : Error → ℕ
frame_number (frame.Io text) = 11
frame_number frame.DecodeError = 12
frame_number frame.NotImplemented = 13
frame_number frame.TooLarge = 14
frame_number frame.OutOfMemory = 15

abbrev pub state_number : ConnectionStateError → ℕ
state_number state.IllegalState = 21
state_number state.RemoteClosed = 22
state_number (state.RemoteClosedWithError e) = 23
state_number (state.TransportError text) = 24
state_number state.OutOfMemory = 25

abbrev pub inner_number : ConnectionInnerError → ℕ
inner_number (inner.TransportError text) = 31
inner_number inner.IllegalState = 32
inner_number (inner.NotImplemented text) = 33
inner_number (inner.NotFound text) = 34
inner_number inner.RemoteClosed = 35
inner_number (inner.RemoteClosedWithError e) = 36
inner_number inner.OutOfMemory = 37

abbrev pub alloc_number : AllocSessionError → ℕ
alloc_number full.ConnectionNotOpened = 41
alloc_number (full.ConnectionStopped reason) = 42
alloc_number full.ChannelMaxReached = 43
alloc_number full.OutOfMemory = 44

abbrev pub session_state_number : SessionStateError → ℕ
session_state_number begun.IllegalState = 51
session_state_number (begun.ConnectionStopped reason) = 52
session_state_number begun.RemoteEnded = 53
session_state_number (begun.RemoteEndedWithError e) = 54
session_state_number begun.OutOfMemory = 55

abbrev pub session_number : SessionInnerError → ℕ
session_number session.UnattachedHandle = 61
session_number session.RemoteAttachingLinkNameNotFound = 62
session_number session.HandleInUse = 63
session_number session.IllegalState = 64
session_number (session.ConnectionStopped reason) = 65
session_number session.TransferFrameToSender = 66
session_number session.RemoteEnded = 67
session_number (session.RemoteEndedWithError e) = 68
session_number session.UnknownTxnId = 69
session_number session.OutOfMemory = 70

abbrev pub link_number : AllocLinkError → ℕ
link_number link.SessionNotMapped = 81
link_number (link.SessionStopped reason) = 82
link_number link.DuplicatedLinkName = 83
link_number link.HandlesExhausted = 84
link_number link.OutOfMemory = 85

abbrev pub refusal_number : StepError → ℕ
refusal_number no.OutputWaiting = 1
refusal_number no.NoSession = 2
refusal_number no.SessionInUse = 3
refusal_number no.OutOfMemory = 4
refusal_number (no.Frame e) = frame_number e
refusal_number (no.ConnectionState e) = state_number e
refusal_number (no.Connection e) = inner_number e
refusal_number (no.AllocSession e) = alloc_number e
refusal_number (no.SessionState e) = session_state_number e
refusal_number (no.Session e) = session_number e
refusal_number (no.AllocLink e) = link_number e
