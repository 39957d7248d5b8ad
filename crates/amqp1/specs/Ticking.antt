-- Part: other calls.
-- What a tick answers, in numbers.
use Rattle.std.specs.Prelude.{ℕ, Option, Some, None}
use Rattle.amqp_idle.specs.declared.due.Due.{Due}
use Rattle.amqp_idle.specs.declared.due.Due.TheVariants as due
use Rattle.amqp_idle.specs.declared.due.Tick.{Tick}
use Rattle.amqp1.specs.declared.exports.Ticked.{Ticked}

abbrev pub due_number : Due → ℕ
due_number due.Nothing = 0
due_number due.Beat = 1
due_number due.OpeningLate = 2
due_number due.PeerSilent = 3

-- the time, or the last one of 64 bits where none is wanted
abbrev pub next_number : Option ℕ → ℕ
next_number None = 18446744073709551615
next_number (Some time) = time

abbrev pub ticked_of : Tick → Ticked
ticked_of t = record { next = next_number t.next; due = due_number t.due; reserved = 0 }
