use Rattle.std.proofs.Common.{◌-◌, ◌≤◌, drop, length}
use Rattle.amqp_unsettled.specs.Inner.Rows.{FirstGone}
use Rattle.amqp_unsettled.proofs.spots.there_from.Given as goal

abbrev pub invariant-loop-at : goal.invariant-loop-at
invariant-loop-at g l = record {
  order : l.from ≤ l.at;
  gone : FirstGone (l.at - l.from) (drop l.from l.cells);
}

abbrev pub decreases-loop-at : goal.decreases-loop-at
decreases-loop-at g l = length l.cells - l.at
