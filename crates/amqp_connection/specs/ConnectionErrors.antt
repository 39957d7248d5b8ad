-- Part: handles; other calls.
-- The conversions between errors of the connection.
use Rattle.amqp_connection.specs.declared.error.ConnectionStateError.{ConnectionStateError}
use Rattle.amqp_connection.specs.declared.error.ConnectionStateError.TheVariants as state
use Rattle.amqp_connection.specs.declared.error.ConnectionInnerError.{ConnectionInnerError}
use Rattle.amqp_connection.specs.declared.error.ConnectionInnerError.TheVariants as inner
use Rattle.amqp_connection.specs.declared.error.Error.{Error}
use Rattle.amqp_connection.specs.declared.error.Error.TheVariants as close_error
use Rattle.amqp_connection.specs.declared.error.AllocSessionError.{AllocSessionError}
use Rattle.amqp_connection.specs.declared.error.AllocSessionError.TheVariants as full
use Rattle.amqp_connection.specs.declared.open_error.OpenError.{OpenError}
use Rattle.amqp_connection.specs.declared.open_error.OpenError.TheVariants as opens
use Rattle.amqp_connection.specs.declared.open_error.NegotiationError.{NegotiationError}
use Rattle.amqp_connection.specs.declared.open_error.NegotiationError.TheVariants as unsettled
use Rattle.amqp_session.specs.declared.error.BeginError.{BeginError}
use Rattle.amqp_session.specs.declared.error.BeginError.TheVariants as begins

abbrev pub inner_of : ConnectionStateError → ConnectionInnerError
inner_of state.IllegalState = inner.IllegalState
inner_of state.RemoteClosed = inner.RemoteClosed
inner_of (state.RemoteClosedWithError e) = inner.RemoteClosedWithError e
inner_of (state.TransportError t) = inner.TransportError t
inner_of state.OutOfMemory = inner.OutOfMemory

abbrev pub error_of_state : ConnectionStateError → Error
error_of_state state.IllegalState = close_error.IllegalState
error_of_state state.RemoteClosed = close_error.RemoteClosed
error_of_state (state.RemoteClosedWithError e) = close_error.RemoteClosedWithError e
error_of_state (state.TransportError t) = close_error.TransportError t
error_of_state state.OutOfMemory = close_error.OutOfMemory

abbrev pub error_of_inner : ConnectionInnerError → Error
error_of_inner (inner.TransportError t) = close_error.TransportError t
error_of_inner inner.IllegalState = close_error.IllegalState
error_of_inner (inner.NotImplemented t) = close_error.NotImplemented t
error_of_inner (inner.NotFound t) = close_error.NotFound t
error_of_inner inner.RemoteClosed = close_error.RemoteClosed
error_of_inner (inner.RemoteClosedWithError e) = close_error.RemoteClosedWithError e
error_of_inner inner.OutOfMemory = close_error.OutOfMemory

abbrev pub open_of_state : ConnectionStateError → OpenError
open_of_state state.IllegalState = opens.IllegalState
open_of_state state.RemoteClosed = opens.RemoteClosed
open_of_state (state.RemoteClosedWithError e) = opens.RemoteClosedWithError e
open_of_state (state.TransportError t) = opens.TransportError t
open_of_state state.OutOfMemory = opens.OutOfMemory

abbrev pub open_of_negotiation : NegotiationError → OpenError
open_of_negotiation (unsettled.Io t) = opens.Io t
open_of_negotiation (unsettled.DecodeError t) = opens.DecodeError t
open_of_negotiation (unsettled.ProtocolHeaderMismatch b) = opens.ProtocolHeaderMismatch b
open_of_negotiation unsettled.InvalidDomain = opens.InvalidDomain
open_of_negotiation (unsettled.SaslError code more) = opens.SaslError code more
open_of_negotiation (unsettled.NotImplemented t) = opens.NotImplemented t
open_of_negotiation unsettled.IllegalState = opens.IllegalState

-- a channel-max that is reached is this side's
abbrev pub begin_of : AllocSessionError → BeginError
begin_of full.ConnectionNotOpened = begins.ConnectionNotOpened
begin_of (full.ConnectionStopped r) = begins.ConnectionStopped r
begin_of full.ChannelMaxReached = begins.LocalChannelMaxReached
begin_of full.OutOfMemory = begins.OutOfMemory
