-- Part: other calls.
-- A stream: one side of a connection from its first byte to its last: headers and SASL, then frames, and the time (AMQP 1.0 part 2, sections 2.2
-- and 2.4.5; part 5, section 5.3).
use Rattle.std.specs.Prelude.{◌≡◌, ◌++◌, ◌∷◌, [], ◌-◌, ◌||◌, ◌&&◌, not, ℕ, zero, List, Bool, true, false, Option, is_some, Result, Ok, Err, length, drop}
use Rattle.amqp_types.specs.declared.states.ConnectionState.{ConnectionState}
use Rattle.amqp_types.specs.declared.states.ConnectionState.TheVariants as at
use Rattle.amqp_types.specs.Open.{OpenModel}
use Rattle.amqp_session.specs.declared.keys.KeyHash.{KeyHash}
use Rattle.amqp_connection.specs.Connection.{ConnectionView}
use Rattle.amqp_engine.specs.EngineView.{new_engine}
use Rattle.amqp_sasl.specs.declared.told.OpeningError.{OpeningError}
use Rattle.amqp_sasl.specs.Opening.{OpeningView, Begins, is_done, is_over as is_shut}
use Rattle.amqp_idle.specs.Idle.{IdleView, new_clock, sent_at, is_over as is_late}
use Rattle.amqp_driver.specs.Driver.{DriverView}

pub record StreamView (R : Type 0) : Type 0 where
  -- headers and SASL
  pub opening : OpeningView
  -- what of these waits to be sent
  pub first : List ℕ
  pub clock : IdleView
  -- how many bytes of an empty frame wait to be sent, before what the driver has to send
  pub beat : ℕ
  -- a size came that no frame may have
  pub is_bad : Bool
  -- the frames
  pub driver : DriverView R

abbrev pub new_driver : {R : Type 0} → KeyHash → OpenModel → DriverView R
new_driver hash o = record { engine = new_engine hash at.HeaderExchange o; to_send = []; unfit = 0 }

-- a new stream, whose first header waits to be sent
abbrev pub new_stream : {R : Type 0} → OpeningView → List ℕ → ℕ → Option ℕ → KeyHash → OpenModel → StreamView R
new_stream opening first now limit hash o = record {
  opening = opening;
  first = first;
  clock = new_clock now limit;
  beat = 0;
  is_bad = false;
  driver = new_driver hash o;
}

-- its opening has begun; or why that was refused
abbrev pub Begun : {R : Type 0} → OpeningView → ℕ → Option ℕ → KeyHash → OpenModel → Result (StreamView R) OpeningError → Type 0
Begun opening now limit hash o (Ok v) =
    Begins opening [] (Ok tt) v.first v.opening × (v ≡ new_stream v.opening v.first now limit hash o)
Begun opening now limit hash o (Err e) = (out : List ℕ) × (left : OpeningView) × Begins opening [] (Err e) out left

-- ---- what is to be sent

-- a frame without a body, with its size (section 2.4.5)
abbrev pub empty_frame : List ℕ
empty_frame = 0 ∷ 0 ∷ 0 ∷ 8 ∷ 2 ∷ 0 ∷ 0 ∷ 0 ∷ []

-- the last so many bytes of an empty frame
abbrev pub beat_bytes : ℕ → List ℕ
beat_bytes n = drop (8 - n) empty_frame

-- frames go out once both headers of AMQP have passed
abbrev pub frames_if : {R : Type 0} → Bool → StreamView R → List ℕ
frames_if false v = []
frames_if true v = beat_bytes v.beat ++ v.driver.to_send

-- what waits to be sent, in its order: headers and SASL; then frames
abbrev pub waiting : {R : Type 0} → StreamView R → List ℕ
waiting v = v.first ++ frames_if (is_done v.opening.phase) v

-- something went out, or nothing did
abbrev pub sent_some : ℕ → IdleView → IdleView
sent_some zero clock = clock
sent_some count clock = sent_at 0 clock

-- The first so many bytes of what waits went out, at the latest time that was told.
abbrev pub having_sent : {R : Type 0} → ℕ → StreamView R → StreamView R
having_sent n v = record v {
  first = drop n v.first;
  beat = v.beat - (n - length v.first);
  clock = sent_some n v.clock;
  driver = record v.driver { to_send = drop (n - length v.first - v.beat) v.driver.to_send };
}

-- ---- the end

-- both Closes have passed
abbrev pub is_closed : ConnectionState → Bool
is_closed at.End = true
is_closed s = false

-- It is over: a header or a login was refused, the opening was late or the peer silent, a size came that no frame may have, or both Closes have
-- passed.
abbrev pub is_over : {R : Type 0} → StreamView R → Bool
is_over v = is_shut v.opening.phase || (is_late v.clock.phase || (v.is_bad || is_closed v.driver.engine.connection.state))

-- ---- whether both Opens have passed

abbrev pub is_open_received : ConnectionState → Bool
is_open_received at.OpenReceived = true
is_open_received s = false

-- the peer's Open was accepted, and this side's has gone out
abbrev pub is_opened : ConnectionView → Bool
is_opened c = is_some c.remote_open && not (is_open_received c.state)

-- both sides have opened, and neither has closed
abbrev pub is_opened_state : ConnectionState → Bool
is_opened_state at.Opened = true
is_opened_state s = false

-- frames of this side's may go out at any time
abbrev pub is_running : {R : Type 0} → StreamView R → Bool
is_running v = is_done v.opening.phase && is_opened_state v.driver.engine.connection.state
