-- Part: the promise; every call exactly; other calls; inner.
-- What contracts see of a connection, and what each of its calls does.
use Rattle.std.specs.Prelude.{◌≡◌, ◌≤◌, ℕ, Bool, true, false, Option, Some, None, IsSome, is_some, unwrap_or, Result, Ok, Err, min}
use Rattle.std.specs.FinMap as map
use Rattle.amqp_memory.specs.Refusal.{SomeRefused}
use Rattle.amqp_types.specs.declared.states.ConnectionState.{ConnectionState}
use Rattle.amqp_types.specs.declared.states.ConnectionState.TheVariants.{Opened, CloseReceived}
use Rattle.amqp_types.specs.declared.states.ConnectionState.TheVariants as at
use Rattle.amqp_types.specs.Error.{ErrorModel}
use Rattle.amqp_types.specs.Open.{OpenModel}
use Rattle.amqp_types.specs.Close.{CloseModel}
use Rattle.amqp_session.specs.declared.keys.KeyHash.{KeyHash}
use Rattle.amqp_session.specs.declared.stop.ConnectionStopReason.{ConnectionStopReason}
use Rattle.amqp_session.specs.declared.stop.ConnectionStopReason.TheVariants.{Closed}
use Rattle.amqp_session.specs.declared.frame.SessionFrame.{SessionFrame}
use Rattle.amqp_frames.specs.declared.frame.Frame.{Frame}
use Rattle.amqp_frames.specs.declared.frame.FrameBody.TheVariants as body
use Rattle.amqp_connection.specs.declared.error.ConnectionStateError.{ConnectionStateError}
use Rattle.amqp_connection.specs.declared.error.ConnectionStateError.TheVariants as state
use Rattle.amqp_connection.specs.declared.error.ConnectionInnerError.{ConnectionInnerError}
use Rattle.amqp_connection.specs.declared.error.ConnectionInnerError.TheVariants as inner
use Rattle.amqp_connection.specs.declared.error.AllocSessionError.{AllocSessionError}
use Rattle.amqp_connection.specs.declared.error.AllocSessionError.TheVariants as full
use Rattle.amqp_connection.specs.declared.numbers.SessionNo.{SessionNo}
use Rattle.amqp_connection.specs.Channels.{ChannelTable, IsLowestFree}
use Rattle.amqp_connection.specs.RouteCounts.{IsLedTo}
use Rattle.amqp_connection.specs.States.{sends_open, takes_open, sends_close, takes_close}

pub record ConnectionView : Type 0 where
  pub state : ConnectionState
  -- why it stopped: the first reason that was recorded
  pub stop_reason : Option ConnectionStopReason
  -- the Open of this side
  pub local_open : OpenModel
  -- the peer's Open that was accepted last
  pub remote_open : Option OpenModel
  -- the highest channel that both sides allow; that of this side until the peer's Open is accepted
  pub agreed_channel_max : ℕ
  -- by which the channels of the peer's are found
  pub hash : KeyHash
  -- the session of each channel that is held
  pub session_by_outgoing_channel : ChannelTable
  -- the session of each channel on which the peer began one
  pub session_by_incoming_channel : ChannelTable

abbrev pub new_connection : KeyHash → ConnectionState → OpenModel → ConnectionView
new_connection hash s o = record {
  state = s;
  stop_reason = None;
  local_open = o;
  remote_open = None;
  agreed_channel_max = o.channel_max;
  hash = hash;
  session_by_outgoing_channel = map.empty;
  session_by_incoming_channel = map.empty;
}

-- ---- stop reasons: the first one stays

abbrev pub first_reason : Option ConnectionStopReason → ConnectionStopReason → Option ConnectionStopReason
first_reason None r = Some r
first_reason (Some old) r = Some old

abbrev pub stopped : ConnectionView → ConnectionStopReason → ConnectionView
stopped v r = record v { stop_reason = first_reason v.stop_reason r }

-- ---- Open

abbrev pub open_frame : OpenModel → Frame
open_frame o = record { channel = 0; body = body.Open o }

abbrev pub SendOpenStep : ConnectionView → Result Frame ConnectionStateError → ConnectionView → Type 0
SendOpenStep v (Ok f) w =
    (s : ConnectionState) × (sends_open v.state ≡ Some s) × (f ≡ open_frame v.local_open) × (w ≡ record v { state = s })
SendOpenStep v (Err state.IllegalState) w = (sends_open v.state ≡ None) × (w ≡ v)
SendOpenStep v (Err state.OutOfMemory) w = IsSome (sends_open v.state) × (w ≡ v) × SomeRefused
SendOpenStep v (Err e) w = ⊥

abbrev pub IncomingOpenStep : ConnectionView → OpenModel → Option ConnectionStateError → ConnectionView → Type 0
IncomingOpenStep v o None w =
    (s : ConnectionState) × (takes_open v.state ≡ Some s)
    × (w ≡ record v { state = s; remote_open = Some o; agreed_channel_max = min v.local_open.channel_max o.channel_max })
IncomingOpenStep v o (Some state.IllegalState) w = (takes_open v.state ≡ None) × (w ≡ v)
IncomingOpenStep v o (Some e) w = ⊥

-- ---- Close

abbrev pub close_frame : Option ErrorModel → Frame
close_frame error = record { channel = 0; body = body.Close (record { error = error }) }

abbrev pub SendCloseStep : ConnectionView → Option ErrorModel → Result Frame ConnectionStateError → ConnectionView → Type 0
SendCloseStep v error (Ok f) w =
    (s : ConnectionState) × (sends_close (is_some error) v.state ≡ Some s) × (f ≡ close_frame error) × (w ≡ record v { state = s })
SendCloseStep v error (Err state.IllegalState) w = (sends_close (is_some error) v.state ≡ None) × (w ≡ v)
SendCloseStep v error (Err e) w = ⊥

-- the error that the peer's Close gives: its own; or RemoteClosed, unless it answers a Close of this side
abbrev pub close_error : ConnectionState → Option ErrorModel → Option ConnectionStateError
close_error s (Some e) = Some (state.RemoteClosedWithError e)
close_error CloseReceived None = Some state.RemoteClosed
close_error s None = None

abbrev pub IncomingCloseStep : ConnectionView → CloseModel → Option ConnectionStateError → ConnectionView → Type 0
IncomingCloseStep v c (Some state.IllegalState) w = (takes_close v.state ≡ None) × (w ≡ v)
IncomingCloseStep v c refusal w =
    (s : ConnectionState) × (takes_close v.state ≡ Some s) × (refusal ≡ close_error s c.error) × (w ≡ record v { state = s })

-- ---- channels: the lowest one that is not held goes to a session

-- the states before an Open may go out or come
abbrev pub is_unopened : ConnectionState → Bool
is_unopened at.Start = true
is_unopened at.HeaderSent = true
is_unopened at.HeaderReceived = true
is_unopened at.HeaderExchange = true
is_unopened s = false

-- the states after a Close went out
abbrev pub has_stopped : ConnectionState → Bool
has_stopped at.CloseSent = true
has_stopped at.Discarding = true
has_stopped at.End = true
has_stopped s = false

abbrev pub Allots : ConnectionState → Type 0
Allots s = (is_unopened s ≡ false) × (has_stopped s ≡ false)

abbrev pub AllocateStep : ConnectionView → ℕ → Result ℕ AllocSessionError → ConnectionView → Type 0
AllocateStep v number (Ok channel) w =
    Allots v.state × IsLowestFree v.session_by_outgoing_channel channel × (channel ≤ v.agreed_channel_max)
    × (w ≡ record v { session_by_outgoing_channel = map.insert v.session_by_outgoing_channel channel number })
AllocateStep v number (Err full.ConnectionNotOpened) w = (is_unopened v.state ≡ true) × (w ≡ v)
AllocateStep v number (Err (full.ConnectionStopped reason)) w =
    (has_stopped v.state ≡ true) × (reason ≡ unwrap_or v.stop_reason Closed) × (w ≡ v)
AllocateStep v number (Err full.ChannelMaxReached) w =
    Allots v.state × ((d : ℕ) → d ≤ v.agreed_channel_max → IsSome (map.get v.session_by_outgoing_channel d)) × (w ≡ v)
AllocateStep v number (Err full.OutOfMemory) w =
    Allots v.state × ((d : ℕ) × IsLowestFree v.session_by_outgoing_channel d × (d ≤ v.agreed_channel_max)) × (w ≡ v) × SomeRefused

-- the session holds the channel
abbrev pub Holds : ConnectionView → ℕ → ℕ → Type 0
Holds v channel number = map.get v.session_by_outgoing_channel channel ≡ Some number

abbrev pub given_back : ConnectionView → ℕ → ConnectionView
given_back v channel = record v { session_by_outgoing_channel = map.remove v.session_by_outgoing_channel channel }

abbrev pub DeallocateStep : ConnectionView → ℕ → Bool → ConnectionView → Type 0
DeallocateStep v channel true w = IsSome (map.get v.session_by_outgoing_channel channel) × (w ≡ given_back v channel)
DeallocateStep v channel false w = (map.get v.session_by_outgoing_channel channel ≡ None) × (w ≡ v)

abbrev pub not_found : ConnectionInnerError
not_found = inner.NotFound None

abbrev pub not_implemented : ConnectionInnerError
not_implemented = inner.NotImplemented None

-- ---- routes: the session to which a frame on a channel of the peer's goes

-- The connection accepts a Begin, and makes the route. Where the channel leads to that session already, no memory is asked for.
abbrev pub BeginRouteStep : ConnectionView → ℕ → Option ℕ → Result ℕ ConnectionInnerError → ConnectionView → Type 0
BeginRouteStep v channel remote (Ok number) w =
    (v.state ≡ Opened) × ((c : ℕ) × (remote ≡ Some c) × (map.get v.session_by_outgoing_channel c ≡ Some number))
    × (w ≡ record v { session_by_incoming_channel = map.insert v.session_by_incoming_channel channel number })
BeginRouteStep v channel remote (Err inner.IllegalState) w = ¬ (v.state ≡ Opened) × (w ≡ v)
BeginRouteStep v channel remote (Err (inner.NotImplemented text)) w = (v.state ≡ Opened) × (remote ≡ None) × (text ≡ None) × (w ≡ v)
BeginRouteStep v channel remote (Err (inner.NotFound text)) w =
    (v.state ≡ Opened) × ((c : ℕ) × (remote ≡ Some c) × (map.get v.session_by_outgoing_channel c ≡ None)) × (text ≡ None)
    × (w ≡ v)
BeginRouteStep v channel remote (Err inner.OutOfMemory) w =
    (v.state ≡ Opened)
    × ((c : ℕ) × (number : ℕ) × (remote ≡ Some c) × (map.get v.session_by_outgoing_channel c ≡ Some number)
    × ¬ (map.get v.session_by_incoming_channel channel ≡ Some number))
    × (w ≡ v) × SomeRefused
BeginRouteStep v channel remote (Err e) w = ⊥

-- the connection accepts an End, and takes the route away
abbrev pub EndRouteStep : ConnectionView → ℕ → Result ℕ ConnectionInnerError → ConnectionView → Type 0
EndRouteStep v channel (Ok number) w =
    (v.state ≡ Opened) × (map.get v.session_by_incoming_channel channel ≡ Some number)
    × (w ≡ record v { session_by_incoming_channel = map.remove v.session_by_incoming_channel channel })
EndRouteStep v channel (Err inner.IllegalState) w = ¬ (v.state ≡ Opened) × (w ≡ v)
EndRouteStep v channel (Err (inner.NotFound text)) w =
    (v.state ≡ Opened) × (map.get v.session_by_incoming_channel channel ≡ None) × (text ≡ None) × (w ≡ v)
EndRouteStep v channel (Err e) w = ⊥

-- other frames go along the route, in every state
abbrev pub RouteStep : ConnectionView → ℕ → Result ℕ ConnectionInnerError → ConnectionView → Type 0
RouteStep v channel (Ok number) w = (map.get v.session_by_incoming_channel channel ≡ Some number) × (w ≡ v)
RouteStep v channel (Err (inner.NotFound text)) w = (map.get v.session_by_incoming_channel channel ≡ None) × (text ≡ None) × (w ≡ v)
RouteStep v channel (Err e) w = ⊥

-- whether some channel of the peer's leads to the session
abbrev pub IsRouted : ConnectionView → ℕ → Bool → Type 0
IsRouted v number routed = IsLedTo v.session_by_incoming_channel number routed

-- ---- what a call answered

abbrev pub refusal_of : {X E : Type 0} → Result X E → Option E
refusal_of (Ok x) = None
refusal_of (Err e) = Some e

-- what a call that makes or takes a route answers: the number of the session, with the frame for it
abbrev pub passed_on : SessionFrame → Result ℕ ConnectionInnerError → Result (SessionNo × SessionFrame) ConnectionInnerError
passed_on frame (Ok number) = Ok (record { 0 = number }, frame)
passed_on frame (Err e) = Err e

abbrev pub result_map : {X Y E : Type 0} → (X → Y) → Result X E → Result Y E
result_map f (Ok x) = Ok (f x)
result_map f (Err e) = Err e
