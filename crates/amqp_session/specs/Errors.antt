-- Part: every call exactly; handles; other calls.
-- Each error goes on as the variant of the same name, with what it holds.
use Rattle.amqp_session.specs.declared.error.SessionStateError.{SessionStateError}
use Rattle.amqp_session.specs.declared.error.SessionStateError.TheVariants as Begun
use Rattle.amqp_session.specs.declared.error.LinkRelayError.{LinkRelayError}
use Rattle.amqp_session.specs.declared.error.LinkRelayError.TheVariants as Relayed
use Rattle.amqp_session.specs.declared.error.SessionInnerError.{SessionInnerError}
use Rattle.amqp_session.specs.declared.error.SessionInnerError.TheVariants as Refused
use Rattle.amqp_session.specs.declared.error.Error.{Error}
use Rattle.amqp_session.specs.declared.error.Error.TheVariants as Answered
use Rattle.amqp_session.specs.declared.error.BeginError.{BeginError}
use Rattle.amqp_session.specs.declared.error.BeginError.TheVariants as Unbegun

abbrev pub inner_of_state : SessionStateError → SessionInnerError
inner_of_state Begun.IllegalState = Refused.IllegalState
inner_of_state (Begun.ConnectionStopped r) = Refused.ConnectionStopped r
inner_of_state Begun.RemoteEnded = Refused.RemoteEnded
inner_of_state (Begun.RemoteEndedWithError e) = Refused.RemoteEndedWithError e
inner_of_state Begun.OutOfMemory = Refused.OutOfMemory

abbrev pub inner_of_relay : LinkRelayError → SessionInnerError
inner_of_relay Relayed.UnattachedHandle = Refused.UnattachedHandle
inner_of_relay Relayed.TransferFrameToSender = Refused.TransferFrameToSender
inner_of_relay Relayed.OutOfMemory = Refused.OutOfMemory

abbrev pub error_of_inner : SessionInnerError → Error
error_of_inner Refused.UnattachedHandle = Answered.UnattachedHandle
error_of_inner Refused.RemoteAttachingLinkNameNotFound = Answered.RemoteAttachingLinkNameNotFound
error_of_inner Refused.HandleInUse = Answered.HandleInUse
error_of_inner Refused.IllegalState = Answered.IllegalState
error_of_inner (Refused.ConnectionStopped r) = Answered.ConnectionStopped r
error_of_inner Refused.TransferFrameToSender = Answered.TransferFrameToSender
error_of_inner Refused.RemoteEnded = Answered.RemoteEnded
error_of_inner (Refused.RemoteEndedWithError e) = Answered.RemoteEndedWithError e
error_of_inner Refused.UnknownTxnId = Answered.UnknownTxnId
error_of_inner Refused.OutOfMemory = Answered.OutOfMemory

abbrev pub error_of_relay : LinkRelayError → Error
error_of_relay e = error_of_inner (inner_of_relay e)

abbrev pub error_of_state : SessionStateError → Error
error_of_state e = error_of_inner (inner_of_state e)

abbrev pub begin_of_state : SessionStateError → BeginError
begin_of_state Begun.IllegalState = Unbegun.IllegalState
begin_of_state (Begun.ConnectionStopped r) = Unbegun.ConnectionStopped r
begin_of_state Begun.RemoteEnded = Unbegun.RemoteEnded
begin_of_state (Begun.RemoteEndedWithError e) = Unbegun.RemoteEndedWithError e
begin_of_state Begun.OutOfMemory = Unbegun.OutOfMemory
