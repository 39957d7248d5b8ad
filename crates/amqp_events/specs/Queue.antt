-- Part: other calls.
-- The queue of events.
use Rattle.std.specs.Prelude.{◌≡◌, ℕ, ◌+◌, ◌-◌, ◌^◌, min, nat_lt, List, [], ◌∷◌, ◌++◌, Bool, true, false, Option, Some, None, Result, Ok, Err}
use Rattle.amqp_session.specs.declared.error.LinkRelayError.{LinkRelayError}
use Rattle.amqp_session.specs.declared.error.LinkRelayError.TheVariants.{OutOfMemory}
use Rattle.amqp_events.specs.declared.room.Room.{Room}
use Rattle.amqp_events.specs.declared.event.Event.{Event}
use Rattle.amqp_events.specs.declared.event.EventKind.{EventKind}
use Rattle.amqp_events.specs.Event.{kind_of}
use Rattle.amqp_events.specs.Room.{room_of, counted}

-- the room, the events that wait, the first to come first, and how many were missed
pub record QueueView : Type 0 where
  pub room : Room
  pub events : List Event
  pub missed : ℕ

abbrev pub new_queue : Room → QueueView
new_queue room = record { room = room; events = []; missed = 0 }

-- whether one more of the kind may wait
abbrev pub has_room : QueueView → EventKind → Bool
has_room q k = nat_lt (room_of (counted q.events) k) (room_of q.room k)

-- An event goes after all others where there is room for it; else nothing changes.
abbrev pub Pushes : QueueView → Event → Result (Unit {0}) LinkRelayError → QueueView → Type 0
Pushes old e (Ok done) new = (has_room old (kind_of e.body) ≡ true) × (new ≡ record old { events = old.events ++ e ∷ [] })
Pushes old e (Err why) new = (has_room old (kind_of e.body) ≡ false) × (why ≡ OutOfMemory) × (new ≡ old)

-- The first event goes, if any.
abbrev pub Pops : QueueView → Option Event → QueueView → Type 0
Pops old None new = (old.events ≡ []) × (new ≡ old)
Pops old (Some e) new = old ≡ record new { events = e ∷ new.events }

-- One more was missed, and the events stay.
abbrev pub Misses : QueueView → QueueView → Type 0
Misses old new = new ≡ record old { missed = min (2 ^ 64 - 1) (old.missed + 1) }
