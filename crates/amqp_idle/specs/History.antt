-- Part: other calls.
-- The history of one clock: its calls with their times and answers, the oldest first, and what they say.
use Rattle.std.specs.Prelude.{ℕ, ◌^◌, ◌<◌, ◌≡◌, ◌||◌, max, Bool, true, false}
use Rattle.std.specs.Prelude.{List, [], ◌∷◌, Option, None, if◌then◌else◌}
use Rattle.amqp_idle.specs.declared.due.Due.{Due}
use Rattle.amqp_idle.specs.declared.due.Due.TheVariants.{Nothing, Beat, OpeningLate, PeerSilent}
use Rattle.amqp_idle.specs.declared.due.Tick.{Tick}
use Rattle.amqp_idle.specs.Idle.{IdleView, lasting, new_clock, next_of, OpenedStep, SentStep, ReceivedStep, TickStep}

-- One call: its time, what it was told, and its answer. A question when the next tick is wanted has no time.
pub data IdleCall : Type 0 where
  Opens : ℕ → Option ℕ → Option ℕ → Bool → IdleCall
  Sends : ℕ → IdleCall
  Receives : ℕ → IdleCall
  Ticks : ℕ → Tick → IdleCall
  AsksNext : Option ℕ → IdleCall

-- the clock goes from one view to the other by this call
abbrev pub IdleStep : IdleView → IdleCall → IdleView → Type 0
IdleStep v (Opens now ours peers taken) w = (now < 2 ^ 64) × OpenedStep v now ours peers taken w
IdleStep v (Sends now) w = (now < 2 ^ 64) × SentStep v now w
IdleStep v (Receives now) w = (now < 2 ^ 64) × ReceivedStep v now w
IdleStep v (Ticks now answer) w = (now < 2 ^ 64) × TickStep v now answer w
IdleStep v (AsksNext next) w = (next ≡ next_of v) × (w ≡ v)

abbrev pub IdleChain : IdleView → List IdleCall → IdleView → Type 0
IdleChain v [] w = w ≡ v
IdleChain v (c ∷ cs) w = (m : IdleView) × IdleStep v c m × IdleChain m cs w

-- a legal history of a clock that was made at this time and with this limit, and the view that it leads to
abbrev pub LeadsTo : ℕ → Option ℕ → List IdleCall → IdleView → Type 0
LeadsTo start limit H w = (start < 2 ^ 64) × IdleChain (new_clock start limit) H w

-- what holds of every history of every clock
abbrev pub Always : (ℕ → Option ℕ → List IdleCall → Type 0) → Type 0
Always P =
    (start : ℕ) (limit : Option ℕ) (H : List IdleCall) (v : IdleView) → LeadsTo start limit H v → P start limit H

-- the time after a call: the latest that was told. An opening that was refused tells none.
abbrev pub time_after : ℕ → IdleCall → ℕ
time_after now (Opens t ours peers taken) = if taken then max now t else now
time_after now (Sends t) = max now t
time_after now (Receives t) = max now t
time_after now (Ticks t answer) = max now t
time_after now (AsksNext next) = now

-- the time after these calls
abbrev pub time_of : ℕ → List IdleCall → ℕ
time_of now [] = now
time_of now (c ∷ cs) = time_of (time_after now c) cs

-- when the last of these calls was that a test finds, or else an earlier time
abbrev pub last_by : (IdleCall → Bool) → ℕ → ℕ → List IdleCall → ℕ
last_by test now last [] = last
last_by test now last (c ∷ cs) = last_by test (time_after now c) (if test c then time_after now c else last) cs

abbrev pub is_beat : Due → Bool
is_beat Beat = true
is_beat due = false

-- something is sent by this call: a frame, or the empty frame of a beat. From the opening on this side is to send.
abbrev pub sends : IdleCall → Bool
sends (Opens t ours peers taken) = taken
sends (Sends t) = true
sends (Ticks t answer) = is_beat answer.due
sends c = false

-- something is received by this call. From the opening on the peer is to send.
abbrev pub receives : IdleCall → Bool
receives (Opens t ours peers taken) = taken
receives (Receives t) = true
receives c = false

abbrev pub last_sent : ℕ → List IdleCall → ℕ
last_sent start H = last_by sends start start H

abbrev pub last_received : ℕ → List IdleCall → ℕ
last_received start H = last_by receives start start H

-- both Opens have passed
abbrev pub is_opened : List IdleCall → Bool
is_opened [] = false
is_opened (Opens t ours peers taken ∷ cs) = taken || is_opened cs
is_opened (c ∷ cs) = is_opened cs

-- the time-out that this side asks for in its Open, and that which the peer asks for in its own
abbrev pub ours_of : List IdleCall → Option ℕ
ours_of [] = None
ours_of (Opens t ours peers taken ∷ cs) = if taken then lasting ours else ours_of cs
ours_of (c ∷ cs) = ours_of cs

abbrev pub peers_of : List IdleCall → Option ℕ
peers_of [] = None
peers_of (Opens t ours peers taken ∷ cs) = if taken then lasting peers else peers_of cs
peers_of (c ∷ cs) = peers_of cs

-- this ends the clock
abbrev pub ends : Due → Bool
ends Nothing = false
ends Beat = false
ends OpeningLate = true
ends PeerSilent = true

-- it was told that the opening is late, or that the peer is silent
abbrev pub is_ended : List IdleCall → Bool
is_ended [] = false
is_ended (Ticks t answer ∷ cs) = ends answer.due || is_ended cs
is_ended (c ∷ cs) = is_ended cs
