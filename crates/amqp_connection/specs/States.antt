-- Part: the promise.
-- The states of a connection, as tables: from which state a call moves to which (AMQP 1.0 part 2, section 2.4.6).
use Rattle.std.specs.Prelude.{Option, Some, None, Bool, true, false}
use Rattle.amqp_types.specs.declared.states.ConnectionState.{ConnectionState}
use Rattle.amqp_types.specs.declared.states.ConnectionState.TheVariants.{HeaderExchange, HeaderSent, OpenPipe, OpenClosePipe, OpenReceived}
use Rattle.amqp_types.specs.declared.states.ConnectionState.TheVariants.{OpenSent, ClosePipe, Opened, CloseReceived, CloseSent, Discarding}
use Rattle.amqp_types.specs.declared.states.ConnectionState.TheVariants.{End}

-- this side sends its Open
abbrev pub sends_open : ConnectionState → Option ConnectionState
sends_open HeaderExchange = Some OpenSent
sends_open OpenReceived = Some Opened
sends_open HeaderSent = Some OpenPipe
sends_open s = None

-- the peer's Open comes
abbrev pub takes_open : ConnectionState → Option ConnectionState
takes_open HeaderExchange = Some OpenReceived
takes_open OpenSent = Some Opened
takes_open ClosePipe = Some CloseSent
takes_open s = None

-- this side sends its Close, with an error or without
abbrev pub sends_close : Bool → ConnectionState → Option ConnectionState
sends_close with_error CloseReceived = Some End
sends_close true Opened = Some Discarding
sends_close true OpenSent = Some Discarding
sends_close true OpenPipe = Some Discarding
sends_close false Opened = Some CloseSent
sends_close false OpenSent = Some ClosePipe
sends_close false OpenPipe = Some OpenClosePipe
sends_close with_error s = None

-- the peer's Close comes
abbrev pub takes_close : ConnectionState → Option ConnectionState
takes_close Opened = Some CloseReceived
takes_close OpenPipe = Some CloseReceived
takes_close OpenClosePipe = Some CloseReceived
takes_close OpenReceived = Some CloseReceived
takes_close OpenSent = Some CloseReceived
takes_close CloseSent = Some End
takes_close Discarding = Some End
takes_close s = None
