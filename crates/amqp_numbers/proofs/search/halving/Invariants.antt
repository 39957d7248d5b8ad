use Rattle.std.proofs.Common.{◌≡◌, ◌-◌, ◌<◌, ◌≤◌, true, false, length}
use Rattle.amqp_numbers.specs.Ranges.{begins_by}
use Rattle.amqp_numbers.proofs.search.halving.Given as goal

abbrev pub invariant-loop-low : goal.invariant-loop-low
invariant-loop-low l = record {
  order : l.low ≤ l.high;
  within : l.high ≤ length l.ranges.items;
  before : 0 < l.low → begins_by l.ranges.items (l.low - 1) l.number ≡ true;
  after : l.high < length l.ranges.items → begins_by l.ranges.items l.high l.number ≡ false;
}

abbrev pub decreases-loop-low : goal.decreases-loop-low
decreases-loop-low l = l.high - l.low
