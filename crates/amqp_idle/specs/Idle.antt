-- Part: other calls.
-- A clock for the idle time-outs of one connection, and what each call makes of it (AMQP 1.0 part 2, section 2.4.5).
-- Each time, and each span of time, is in milliseconds.
use Rattle.std.specs.Prelude.{ℕ, zero, suc, ◌+◌, ◌/◌, ◌^◌, ◌≡◌, min, max, nat_le, nat_lt}
use Rattle.std.specs.Prelude.{Bool, true, false, Option, Some, None, if◌then◌else◌}
use Rattle.amqp_idle.specs.declared.due.Due.{Due}
use Rattle.amqp_idle.specs.declared.due.Due.TheVariants.{Nothing, Beat, OpeningLate, PeerSilent}
use Rattle.amqp_idle.specs.declared.due.Tick.{Tick}
use Rattle.amqp_idle.specs.declared.phase.Phase.{Phase}
use Rattle.amqp_idle.specs.declared.phase.Phase.TheVariants.{Opening, Open, Over}

-- What a clock knows: the latest time that it was told; when something was sent last, and when something was received
-- last, where the opening counts as both; and whether the connection is opening, since when and how long it may, or
-- open, with how long the peer may be silent and after how long this side beats, or over.
pub record IdleView : Type 0 where
  pub seen : ℕ
  pub sent : ℕ
  pub received : ℕ
  pub phase : Phase

-- how long a time-out lasts that an Open asks for: 0 is the same as none (section 2.7.1)
abbrev pub lasting : Option ℕ → Option ℕ
lasting None = None
lasting (Some zero) = None
lasting (Some (suc n)) = Some (suc n)

-- after how long without a frame one is sent: half of the time-out, and at least 1 ms
abbrev pub halved : Option ℕ → Option ℕ
halved None = None
halved (Some n) = Some (max 1 (n / 2))

-- whether so long has passed since a time; where no span is given it never has
abbrev pub has_passed : ℕ → Option ℕ → ℕ → Bool
has_passed since None now = false
has_passed since (Some span) now = nat_le (since + span) now

-- what is due at a time
abbrev pub due_in : Phase → ℕ → ℕ → ℕ → Due
due_in (Opening began limit) sent received now = if has_passed began limit now then OpeningLate else Nothing
due_in (Open silence beat) sent received now =
    if has_passed received silence now then PeerSilent else (if has_passed sent beat now then Beat else Nothing)
due_in Over sent received now = Nothing

abbrev pub due_at : IdleView → ℕ → Due
due_at v now = due_in v.phase v.sent v.received now

-- the time that lies so long after another one; a clock of 64 bits does not come to one past its end
abbrev pub later_by : ℕ → Option ℕ → Option ℕ
later_by since None = None
later_by since (Some span) = if nat_lt (since + span) (2 ^ 64) then Some (since + span) else None

abbrev pub earlier : Option ℕ → Option ℕ → Option ℕ
earlier None b = b
earlier (Some a) None = Some a
earlier (Some a) (Some b) = Some (min a b)

-- when something is due next
abbrev pub next_in : Phase → ℕ → ℕ → Option ℕ
next_in (Opening began limit) sent received = later_by began limit
next_in (Open silence beat) sent received = earlier (later_by received silence) (later_by sent beat)
next_in Over sent received = None

abbrev pub next_of : IdleView → Option ℕ
next_of v = next_in v.phase v.sent v.received

abbrev pub is_over : Phase → Bool
is_over Over = true
is_over p = false

-- a new clock, of a connection that may take so long to open
abbrev pub new_clock : ℕ → Option ℕ → IdleView
new_clock now limit = record { seen = now; sent = now; received = now; phase = Opening now limit }

-- Something went out, or came. A clock never goes back: a time that is earlier than the latest one counts as that.
abbrev pub sent_at : ℕ → IdleView → IdleView
sent_at now v = record v { seen = max v.seen now; sent = max v.seen now }

abbrev pub received_at : ℕ → IdleView → IdleView
received_at now v = record v { seen = max v.seen now; received = max v.seen now }

abbrev pub SentStep : IdleView → ℕ → IdleView → Type 0
SentStep v now w = w ≡ sent_at now v

abbrev pub ReceivedStep : IdleView → ℕ → IdleView → Type 0
ReceivedStep v now w = w ≡ received_at now v

-- both Opens have passed, with what they ask for
abbrev pub opened_at : ℕ → Option ℕ → Option ℕ → ℕ → IdleView
opened_at seen ours peers now = record {
  seen = max seen now;
  sent = max seen now;
  received = max seen now;
  phase = Open (lasting ours) (halved (lasting peers));
}

abbrev pub is_opening : Phase → Bool
is_opening (Opening began limit) = true
is_opening p = false

-- what is answered, and what the clock is then: where it is not opening, nothing changes
abbrev pub OpenedStep : IdleView → ℕ → Option ℕ → Option ℕ → Bool → IdleView → Type 0
OpenedStep v now ours peers taken w =
    (taken ≡ is_opening v.phase) × (w ≡ (if is_opening v.phase then opened_at v.seen ours peers now else v))

-- the clock once it has told at this time that this is due: a beat counts as sent, and after the other two it is over
abbrev pub having_told : Due → ℕ → IdleView → IdleView
having_told Nothing now v = record v { seen = now }
having_told Beat now v = record v { seen = now; sent = now }
having_told OpeningLate now v = record v { seen = now; phase = Over }
having_told PeerSilent now v = record v { seen = now; phase = Over }

abbrev pub ticked : ℕ → IdleView → IdleView
ticked now v = having_told (due_at v (max v.seen now)) (max v.seen now) v

abbrev pub TickStep : IdleView → ℕ → Tick → IdleView → Type 0
TickStep v now answer w = (answer ≡ record { due = due_at v (max v.seen now); next = next_of w }) × (w ≡ ticked now v)
