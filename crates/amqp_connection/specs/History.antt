-- Part: other calls.
-- Histories of a connection: chains of its calls, of whoever makes them.
use Rattle.std.specs.Prelude.{◌≡◌, ℕ, List, [], ◌∷◌, Bool, Option, Result}
use Rattle.amqp_types.specs.declared.states.ConnectionState.{ConnectionState}
use Rattle.amqp_types.specs.Error.{ErrorModel}
use Rattle.amqp_types.specs.Open.{OpenModel}
use Rattle.amqp_types.specs.Begin.{BeginModel}
use Rattle.amqp_types.specs.End.{EndModel}
use Rattle.amqp_types.specs.Close.{CloseModel}
use Rattle.amqp_session.specs.declared.keys.KeyHash.{KeyHash}
use Rattle.amqp_session.specs.declared.stop.ConnectionStopReason.{ConnectionStopReason}
use Rattle.amqp_frames.specs.declared.frame.Frame.{Frame}
use Rattle.amqp_connection.specs.declared.error.ConnectionStateError.{ConnectionStateError}
use Rattle.amqp_connection.specs.declared.error.ConnectionInnerError.{ConnectionInnerError}
use Rattle.amqp_connection.specs.declared.error.AllocSessionError.{AllocSessionError}
use Rattle.amqp_connection.specs.Connection.{ConnectionView, new_connection, stopped, SendOpenStep, IncomingOpenStep, SendCloseStep, IncomingCloseStep}
use Rattle.amqp_connection.specs.Connection.{AllocateStep, DeallocateStep, BeginRouteStep, EndRouteStep}

-- A call with its answer. The calls that only look at a connection are left out: they change nothing, and hand nothing out.
pub data Entry : Type 0 where
  -- an Open and a Close of this side: the frame, or why there is none
  SendOpen : Result Frame ConnectionStateError → Entry
  SendClose : Option ErrorModel → Result Frame ConnectionStateError → Entry
  -- an Open and a Close of the peer's, and how it was refused, if it was
  IncomingOpen : OpenModel → Option ConnectionStateError → Entry
  IncomingClose : CloseModel → Option ConnectionStateError → Entry
  -- why it stops
  Stop : ConnectionStopReason → Entry
  -- a channel for the session of this number, and a channel that is given back
  Allocate : ℕ → Result ℕ AllocSessionError → Entry
  Deallocate : ℕ → Bool → Entry
  -- on a channel of the peer's a Begin that answers a channel of this side's, and an End: the session that is found
  IncomingBegin : ℕ → Option ℕ → Result ℕ ConnectionInnerError → Entry
  IncomingEnd : ℕ → Result ℕ ConnectionInnerError → Entry
  -- the frames of a session's Begin and End, on a channel of this side's
  OutgoingBegin : ℕ → BeginModel → Entry
  OutgoingEnd : ℕ → EndModel → Entry

abbrev pub Step : ConnectionView → Entry → ConnectionView → Type 0
Step v (SendOpen result) w = SendOpenStep v result w
Step v (SendClose error result) w = SendCloseStep v error result w
Step v (IncomingOpen o refusal) w = IncomingOpenStep v o refusal w
Step v (IncomingClose c refusal) w = IncomingCloseStep v c refusal w
Step v (Stop reason) w = w ≡ stopped v reason
Step v (Allocate number result) w = AllocateStep v number result w
Step v (Deallocate channel held) w = DeallocateStep v channel held w
Step v (IncomingBegin channel remote found) w = BeginRouteStep v channel remote found w
Step v (IncomingEnd channel found) w = EndRouteStep v channel found w
Step v (OutgoingBegin channel b) w = w ≡ v
Step v (OutgoingEnd channel e) w = w ≡ v

abbrev pub Chain : ConnectionView → List Entry → ConnectionView → Type 0
Chain v [] w = w ≡ v
Chain v (e ∷ es) w = (m : ConnectionView) × Step v e m × Chain m es w

-- a history of a connection that was new in this state and with this Open, by whatever hash it finds the peer's channels
abbrev pub LeadsTo : ConnectionState → OpenModel → List Entry → ConnectionView → Type 0
LeadsTo s o H w = (hash : KeyHash) × Chain (new_connection hash s o) H w
