-- Part: the promise; other calls.
-- What a history gives of a connection: by its calls alone, the oldest first.
use Rattle.std.specs.Prelude.{◌≡◌, ◌≤◌, ◌+◌, ℕ, List, [], ◌∷◌, ◌++◌, true, Option, Some, None, is_some, Ok, cond, nat_eq, unwrap_or, min}
use Rattle.std.specs.FinMap as map
use Rattle.amqp_types.specs.declared.states.ConnectionState.{ConnectionState}
use Rattle.amqp_types.specs.declared.states.ConnectionState.TheVariants.{HeaderExchange}
use Rattle.amqp_types.specs.Open.{OpenModel}
use Rattle.amqp_session.specs.declared.stop.ConnectionStopReason.{ConnectionStopReason}
use Rattle.amqp_frames.specs.declared.frame.Frame.{Frame}
use Rattle.amqp_frames.specs.declared.frame.FrameBody.{FrameBody}
use Rattle.amqp_frames.specs.declared.frame.FrameBody.TheVariants as body
use Rattle.amqp_connection.specs.States.{sends_open, takes_open, sends_close, takes_close}
use Rattle.amqp_connection.specs.Connection.{ConnectionView, first_reason}
use Rattle.amqp_connection.specs.History.{Entry, SendOpen, SendClose, IncomingOpen, IncomingClose, Stop, Allocate, Deallocate, IncomingBegin}
use Rattle.amqp_connection.specs.History.{IncomingEnd, OutgoingBegin, OutgoingEnd}

-- ---- the state, by its tables: a Close of the peer's moves it, however it is answered

abbrev pub state_by : ConnectionState → Entry → ConnectionState
state_by s (SendOpen (Ok f)) = unwrap_or (sends_open s) s
state_by s (SendClose error (Ok f)) = unwrap_or (sends_close (is_some error) s) s
state_by s (IncomingOpen o None) = unwrap_or (takes_open s) s
state_by s (IncomingClose c refusal) = unwrap_or (takes_close s) s
state_by s e = s

abbrev pub state_from : ConnectionState → List Entry → ConnectionState
state_from s [] = s
state_from s (e ∷ es) = state_from (state_by s e) es

-- ---- why it stopped: the first reason that was recorded

abbrev pub reason_by : Entry → Option ConnectionStopReason → Option ConnectionStopReason
reason_by (Stop r) old = first_reason old r
reason_by e old = old

abbrev pub reason_from : Option ConnectionStopReason → List Entry → Option ConnectionStopReason
reason_from old [] = old
reason_from old (e ∷ es) = reason_from (reason_by e old) es

-- ---- the peer's Open that was accepted last

abbrev pub remote_open_by : Entry → Option OpenModel → Option OpenModel
remote_open_by (IncomingOpen o None) old = Some o
remote_open_by e old = old

abbrev pub remote_open_from : Option OpenModel → List Entry → Option OpenModel
remote_open_from old [] = old
remote_open_from old (e ∷ es) = remote_open_from (remote_open_by e old) es

-- ---- the highest channel that both sides allow: that of this side's Open, until one of the peer's is accepted

abbrev pub channel_max_by : OpenModel → Entry → ℕ → ℕ
channel_max_by own (IncomingOpen o None) old = min own.channel_max o.channel_max
channel_max_by own e old = old

abbrev pub channel_max_from : OpenModel → ℕ → List Entry → ℕ
channel_max_from own old [] = old
channel_max_from own old (e ∷ es) = channel_max_from own (channel_max_by own e old) es

-- ---- channels of this side: each is held by the session that it was last allotted to, until it is given back

abbrev pub held_by : ℕ → Entry → Option ℕ → Option ℕ
held_by c (Allocate number (Ok channel)) old = cond (nat_eq c channel) (Some number) old
held_by c (Deallocate channel true) old = cond (nat_eq c channel) None old
held_by c e old = old

abbrev pub held_from : ℕ → Option ℕ → List Entry → Option ℕ
held_from c old [] = old
held_from c old (e ∷ es) = held_from c (held_by c e old) es

-- ---- routes: channels of the peer's. Each leads to the session of the last Begin on it, until an End comes on it

abbrev pub route_by : ℕ → Entry → Option ℕ → Option ℕ
route_by c (IncomingBegin channel remote (Ok number)) old = cond (nat_eq c channel) (Some number) old
route_by c (IncomingEnd channel (Ok number)) old = cond (nat_eq c channel) None old
route_by c e old = old

abbrev pub route_from : ℕ → Option ℕ → List Entry → Option ℕ
route_from c old [] = old
route_from c old (e ∷ es) = route_from c (route_by c e old) es

-- ---- all of it

pub record Stands (s : ConnectionState) (o : OpenModel) (H : List Entry) (v : ConnectionView) : Type 0 where
  pub state_is : v.state ≡ state_from s H
  pub stop_reason_is : v.stop_reason ≡ reason_from None H
  pub local_open_is : v.local_open ≡ o
  pub remote_open_is : v.remote_open ≡ remote_open_from None H
  pub channel_max_is : v.agreed_channel_max ≡ channel_max_from o o.channel_max H
  pub held_is : (c : ℕ) → map.get v.session_by_outgoing_channel c ≡ held_from c None H
  pub routes_are : (c : ℕ) → map.get v.session_by_incoming_channel c ≡ route_from c None H

-- ---- what is handed out

abbrev pub frames_of : Entry → List Frame
frames_of (SendOpen (Ok f)) = f ∷ []
frames_of (SendClose error (Ok f)) = f ∷ []
frames_of (OutgoingBegin channel b) = record { channel = channel; body = body.Begin b } ∷ []
frames_of (OutgoingEnd channel e) = record { channel = channel; body = body.End e } ∷ []
frames_of e = []

abbrev pub handed : List Entry → List Frame
handed [] = []
handed (e ∷ es) = frames_of e ++ handed es

abbrev pub is_open : FrameBody → ℕ
is_open (body.Open o) = 1
is_open b = 0

abbrev pub is_close : FrameBody → ℕ
is_close (body.Close c) = 1
is_close b = 0

-- how many Opens and how many Closes are among frames
abbrev pub opens : List Frame → ℕ
opens [] = 0
opens (f ∷ fs) = is_open f.body + opens fs

abbrev pub closes : List Frame → ℕ
closes [] = 0
closes (f ∷ fs) = is_close f.body + closes fs

-- where the headers were exchanged, at most one Open and one Close go out
pub record OneEach (s : ConnectionState) (H : List Entry) : Type 0 where
  pub one_open : s ≡ HeaderExchange → opens (handed H) ≤ 1
  pub one_close : s ≡ HeaderExchange → closes (handed H) ≤ 1
