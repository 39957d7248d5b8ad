use Rattle.std.proofs.Common.{◌-◌, ◌≤◌, length}
use Rattle.amqp_driver.proofs.front.end_of_wholes.Given as goal

abbrev pub invariant-frames : goal.invariant-frames
invariant-frames l = record { after : l.from ≤ l.end; within : l.end ≤ length l.input }

abbrev pub decreases-frames : goal.decreases-frames
decreases-frames l = length l.input - l.end
