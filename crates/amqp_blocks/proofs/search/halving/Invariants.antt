use Rattle.std.proofs.Common.{◌-◌, ◌<◌, ◌≤◌, length, slice_index}
use Rattle.amqp_blocks.proofs.search.halving.Given as goal

abbrev pub invariant-loop-low : goal.invariant-loop-low
invariant-loop-low l = record {
  order : l.low ≤ l.high;
  within : l.high < length l.ends.items;
  before : 0 < l.low → slice_index l.ends.items (l.low - 1) ≤ l.target;
  after : l.target < slice_index l.ends.items l.high;
}

abbrev pub decreases-loop-low : goal.decreases-loop-low
decreases-loop-low l = l.high - l.low
