-- Part: other calls.
-- What the lines of a transcript say.
use Rattle.std.specs.Prelude.{ℕ, List, Option, Some, None, Result, Ok, Err, codes}
use Rattle.amqp_frames.specs.declared.error.Error.{Error}
use Rattle.amqp_frames.specs.declared.error.Error.TheVariants as frame
use Rattle.hex.specs.Hex.{decode_of}
use Rattle.hex.specs.declared.error.FromHexError.{FromHexError}
use Rattle.amqp_connection.specs.declared.error.ConnectionStateError.{ConnectionStateError}
use Rattle.amqp_connection.specs.declared.error.ConnectionStateError.TheVariants as state
use Rattle.amqp_connection.specs.declared.error.ConnectionInnerError.{ConnectionInnerError}
use Rattle.amqp_connection.specs.declared.error.ConnectionInnerError.TheVariants as inner
use Rattle.amqp_connection.specs.declared.error.AllocSessionError.{AllocSessionError}
use Rattle.amqp_connection.specs.declared.error.AllocSessionError.TheVariants as full
use Rattle.amqp_session.specs.declared.error.AllocLinkError.{AllocLinkError}
use Rattle.amqp_session.specs.declared.error.AllocLinkError.TheVariants as unallotted
use Rattle.amqp_session.specs.declared.error.SessionStateError.{SessionStateError}
use Rattle.amqp_session.specs.declared.error.SessionStateError.TheVariants as begun
use Rattle.amqp_session.specs.declared.error.SessionInnerError.{SessionInnerError}
use Rattle.amqp_session.specs.declared.error.SessionInnerError.TheVariants as session
use Rattle.amqp_engine.specs.declared.engine.step_error.StepError.{StepError}
use Rattle.amqp_engine.specs.declared.engine.step_error.StepError.TheVariants as no

abbrev pub read_value : Result (List ℕ) FromHexError → Option (List ℕ)
read_value (Ok bytes) = Some bytes
read_value (Err e) = None

-- the bytes that hexadecimal digits say, if all are digits and their number is even
abbrev pub bytes_of : List ℕ → Option (List ℕ)
bytes_of text = read_value (decode_of text)

-- ---- the name of a refusal is that of its innermost variant

abbrev pub frame_name : Error → List ℕ
frame_name (frame.Io text) = codes "Io"
frame_name frame.DecodeError = codes "DecodeError"
frame_name frame.NotImplemented = codes "NotImplemented"
frame_name frame.TooLarge = codes "TooLarge"
frame_name frame.OutOfMemory = codes "OutOfMemory"

abbrev pub state_name : ConnectionStateError → List ℕ
state_name state.IllegalState = codes "IllegalState"
state_name state.RemoteClosed = codes "RemoteClosed"
state_name (state.RemoteClosedWithError e) = codes "RemoteClosedWithError"
state_name (state.TransportError text) = codes "TransportError"
state_name state.OutOfMemory = codes "OutOfMemory"

abbrev pub inner_name : ConnectionInnerError → List ℕ
inner_name (inner.TransportError text) = codes "TransportError"
inner_name inner.IllegalState = codes "IllegalState"
inner_name (inner.NotImplemented text) = codes "NotImplemented"
inner_name (inner.NotFound text) = codes "NotFound"
inner_name inner.RemoteClosed = codes "RemoteClosed"
inner_name (inner.RemoteClosedWithError e) = codes "RemoteClosedWithError"
inner_name inner.OutOfMemory = codes "OutOfMemory"

abbrev pub alloc_name : AllocSessionError → List ℕ
alloc_name full.ConnectionNotOpened = codes "ConnectionNotOpened"
alloc_name (full.ConnectionStopped reason) = codes "ConnectionStopped"
alloc_name full.ChannelMaxReached = codes "ChannelMaxReached"
alloc_name full.OutOfMemory = codes "OutOfMemory"

abbrev pub session_state_name : SessionStateError → List ℕ
session_state_name begun.IllegalState = codes "IllegalState"
session_state_name (begun.ConnectionStopped reason) = codes "ConnectionStopped"
session_state_name begun.RemoteEnded = codes "RemoteEnded"
session_state_name (begun.RemoteEndedWithError e) = codes "RemoteEndedWithError"
session_state_name begun.OutOfMemory = codes "OutOfMemory"

abbrev pub link_name : AllocLinkError → List ℕ
link_name unallotted.SessionNotMapped = codes "SessionNotMapped"
link_name (unallotted.SessionStopped reason) = codes "SessionStopped"
link_name unallotted.DuplicatedLinkName = codes "DuplicatedLinkName"
link_name unallotted.HandlesExhausted = codes "HandlesExhausted"
link_name unallotted.OutOfMemory = codes "OutOfMemory"

abbrev pub session_name : SessionInnerError → List ℕ
session_name session.UnattachedHandle = codes "UnattachedHandle"
session_name session.RemoteAttachingLinkNameNotFound = codes "RemoteAttachingLinkNameNotFound"
session_name session.HandleInUse = codes "HandleInUse"
session_name session.IllegalState = codes "IllegalState"
session_name (session.ConnectionStopped reason) = codes "ConnectionStopped"
session_name session.TransferFrameToSender = codes "TransferFrameToSender"
session_name session.RemoteEnded = codes "RemoteEnded"
session_name (session.RemoteEndedWithError e) = codes "RemoteEndedWithError"
session_name session.UnknownTxnId = codes "UnknownTxnId"
session_name session.OutOfMemory = codes "OutOfMemory"

abbrev pub name_of : StepError → List ℕ
name_of no.OutputWaiting = codes "OutputWaiting"
name_of (no.Frame e) = frame_name e
name_of (no.ConnectionState e) = state_name e
name_of (no.Connection e) = inner_name e
name_of (no.AllocSession e) = alloc_name e
name_of (no.SessionState e) = session_state_name e
name_of (no.Session e) = session_name e
name_of (no.AllocLink e) = link_name e
name_of no.SessionInUse = codes "SessionInUse"
name_of no.NoSession = codes "NoSession"
name_of no.OutOfMemory = codes "OutOfMemory"
