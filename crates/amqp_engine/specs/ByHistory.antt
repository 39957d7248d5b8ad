-- Part: the promise; every call exactly; inner.
-- What a history gives of the connection, its channels, its routes and its sessions: by its entries alone, the oldest first.
use Rattle.std.specs.Prelude.{ℕ, List, [], ◌∷◌, Option, Some, None, Bool, true, false, cond, nat_eq, unwrap_or, min, is_some, fold, flat_map}
use Rattle.amqp_types.specs.declared.states.ConnectionState.{ConnectionState}
use Rattle.amqp_types.specs.declared.states.ConnectionState.TheVariants.{CloseReceived}
use Rattle.amqp_types.specs.declared.states.SessionState.{SessionState}
use Rattle.amqp_types.specs.declared.states.SessionState.TheVariants.{Unmapped}
use Rattle.amqp_types.specs.Error.{ErrorModel}
use Rattle.amqp_types.specs.Open.{OpenModel}
use Rattle.amqp_session.specs.declared.stop.ConnectionStopReason.{ConnectionStopReason}
use Rattle.amqp_session.specs.declared.stop.ConnectionStopReason.TheVariants as stop
use Rattle.amqp_session.specs.History as session
use Rattle.amqp_session.specs.Headline as single
use Rattle.amqp_frames.specs.declared.frame.Frame.{Frame}
use Rattle.amqp_engine.specs.declared.engine.step_error.StepError.{StepError}
use Rattle.amqp_engine.specs.declared.engine.step_error.StepError.TheVariants as no
use Rattle.amqp_connection.specs.States.{sends_open, takes_open, sends_close, takes_close}
use Rattle.amqp_connection.specs.Connection.{first_reason}
use Rattle.amqp_numbers.specs.Ranges.{Numbers}
use Rattle.std.specs.FinMap as map
use Rattle.amqp_engine.specs.EngineView.{peer_limit}
use Rattle.amqp_engine.specs.Entry.{Entry}
use Rattle.amqp_engine.specs.Event.{Event, SentOpen, SentClose, AcceptedOpen, CameClose, Began, Released, Forgot, Routed, Unrouted, event, is_number}

-- what the events of a history make of a value, the oldest first
abbrev pub along : {R X : Type 0} → (Event → X → X) → X → List (Entry R) → X
along by old H = fold (λ x e. by (event e) x) old H

-- ---- the connection's state, by its tables

abbrev pub state_by : ConnectionState → Event → ConnectionState
state_by s SentOpen = unwrap_or (sends_open s) s
state_by s (SentClose error) = unwrap_or (sends_close (is_some error) s) s
state_by s (AcceptedOpen o) = unwrap_or (takes_open s) s
state_by s (CameClose c) = unwrap_or (takes_close s) s
state_by s ev = s

abbrev pub state_from : {R : Type 0} → ConnectionState → List (Entry R) → ConnectionState
state_from s H = along (λ ev old. state_by old ev) s H

-- ---- why it stopped: the first reason of a Close that was sent, or of one that came and moved it to CloseReceived

abbrev pub close_reason : Option ErrorModel → ConnectionStopReason
close_reason None = stop.Closed
close_reason (Some e) = stop.ClosedWithError

abbrev pub remote_reason : Option ErrorModel → ConnectionStopReason
remote_reason None = stop.RemoteClosed
remote_reason (Some e) = stop.RemoteClosedWithError

abbrev pub remote_close_reason : Option ConnectionState → Option ErrorModel → Option ConnectionStopReason → Option ConnectionStopReason
remote_close_reason (Some CloseReceived) error old = first_reason old (remote_reason error)
remote_close_reason next error old = old

abbrev pub reason_by : ConnectionState → Event → Option ConnectionStopReason → Option ConnectionStopReason
reason_by s (SentClose error) old = first_reason old (close_reason error)
reason_by s (CameClose c) old = remote_close_reason (takes_close s) c.error old
reason_by s ev old = old

abbrev pub reason_from : {R : Type 0} → ConnectionState → Option ConnectionStopReason → List (Entry R) → Option ConnectionStopReason
reason_from s old [] = old
reason_from s old (e ∷ es) = reason_from (state_by s (event e)) (reason_by s (event e) old) es

-- that of a connection that began in this state
abbrev pub stop_reason : {R : Type 0} → ConnectionState → List (Entry R) → Option ConnectionStopReason
stop_reason s H = reason_from s None H

-- ---- the highest channel that both sides allow: that of this side's Open, until the peer's is accepted

abbrev pub channel_max_by : OpenModel → Event → ℕ → ℕ
channel_max_by own (AcceptedOpen o) old = min own.channel_max o.channel_max
channel_max_by own ev old = old

abbrev pub channel_max : {R : Type 0} → OpenModel → List (Entry R) → ℕ
channel_max own H = along (channel_max_by own) own.channel_max H

-- ---- the peer's Open that was accepted last

abbrev pub remote_open_by : Event → Option OpenModel → Option OpenModel
remote_open_by (AcceptedOpen o) old = Some o
remote_open_by ev old = old

abbrev pub remote_open : {R : Type 0} → List (Entry R) → Option OpenModel
remote_open H = along remote_open_by None H

-- ---- the limit of a piece: that of the peer's Open that was accepted last

abbrev pub limit_by : ℕ → Event → ℕ
limit_by old (AcceptedOpen o) = peer_limit o
limit_by old ev = old

abbrev pub limit_after : {R : Type 0} → ℕ → List (Entry R) → ℕ
limit_after limit H = along (λ ev old. limit_by old ev) limit H

-- ---- channels of this side: that of a Begin that goes out is held by its session, until that is released

abbrev pub held_by : ℕ → Event → Option ℕ → Option ℕ
held_by c (Began n settings channel) old = cond (nat_eq c channel) (Some n) old
held_by c (Released n) old = cond (is_number n old) None old
held_by c ev old = old

-- the session that holds this side's channel c
abbrev pub held : {R : Type 0} → ℕ → List (Entry R) → Option ℕ
held c H = along (held_by c) None H

-- ---- routes: channels of the peer's

abbrev pub route_by : ℕ → Event → Option ℕ → Option ℕ
route_by c (Routed channel n) old = cond (nat_eq c channel) (Some n) old
route_by c (Unrouted channel) old = cond (nat_eq c channel) None old
route_by c ev old = old

-- the session of the last Begin on the peer's channel c that reached one, if no End on it reached one since
abbrev pub route : {R : Type 0} → ℕ → List (Entry R) → Option ℕ
route c H = along (route_by c) None H

-- ---- sessions

abbrev pub calls_at : {R : Type 0} → ℕ → Entry R → List (session.SessionCall R)
calls_at n e = cond (is_number n e.reached) e.calls []

-- the history of session n: the calls of it, in order
abbrev pub of_session : {R : Type 0} → ℕ → List (Entry R) → List (session.SessionCall R)
of_session n H = flat_map (calls_at n) H

-- how session n was made: with the settings of its Begin, on its channel, and with the reason why the connection had stopped
abbrev pub begun_by : ℕ → Option ConnectionStopReason → Event → Option session.Made → Option session.Made
begun_by n stop (Began k settings channel) later =
    cond (nat_eq n k) (Some (record { settings = settings; channel = channel; state = Unmapped; stop = stop })) later
begun_by n stop ev later = later

abbrev pub begun_from : {R : Type 0} → ℕ → ConnectionState → Option ConnectionStopReason → List (Entry R) → Option session.Made
begun_from n s stop [] = None
begun_from n s stop (e ∷ es) = begun_by n stop (event e) (begun_from n (state_by s (event e)) (reason_by s (event e) stop) es)

-- of an engine whose connection began in this state
abbrev pub begun : {R : Type 0} → ConnectionState → ℕ → List (Entry R) → Option session.Made
begun s n H = begun_from n s None H

-- whether session n was forgotten
abbrev pub forgotten_by : ℕ → Event → Bool → Bool
forgotten_by n (Forgot k) old = cond (nat_eq n k) true old
forgotten_by n ev old = old

abbrev pub is_forgotten : {R : Type 0} → ℕ → List (Entry R) → Bool
is_forgotten n H = along (forgotten_by n) false H

-- how session n was made, while it is there: one that was forgotten is there no more, and its number is not begun again
abbrev pub live : {R : Type 0} → ConnectionState → ℕ → List (Entry R) → Option session.Made
live s n H = cond (is_forgotten n H) None (begun s n H)

-- the numbers of the sessions that were forgotten, with that of the event
abbrev pub numbers_by : Event → Numbers → Numbers
numbers_by (Forgot n) old = map.insert old n true
numbers_by ev old = old

-- the state of session n
abbrev pub session_state : {R : Type 0} → ℕ → List (Entry R) → SessionState
session_state n H = single.state_from Unmapped (of_session n H)

-- ---- the frames that wait: those of the last entry, but for entries refused since they waited

abbrev pub waiting_by : {R : Type 0} → Option StepError → Entry R → List Frame → List Frame
waiting_by (Some no.OutputWaiting) e old = old
waiting_by refusal e old = e.frames

abbrev pub last_frames : {R : Type 0} → List (Entry R) → List Frame
last_frames H = fold (λ old e. waiting_by e.refusal e old) [] H
