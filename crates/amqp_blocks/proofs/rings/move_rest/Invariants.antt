use Rattle.std.proofs.Common.{◌≡◌, ◌-◌, ◌≤◌, ◌++◌, length}
use Rattle.std.specs.VecDeque.{deque_len, deque_capacity}
use Rattle.amqp_blocks.proofs.rings.move_rest.Given as goal

abbrev pub invariant-loop-ring : goal.invariant-loop-ring
invariant-loop-ring g l = record {
  order : l.half ≤ length l.ring.items;
  whole : l.ring.items ++ l.upper.items ≡ l.fn.ring.items;
  places : deque_capacity l.ring ≡ deque_capacity l.fn.ring;
  upper_places : deque_capacity l.upper ≡ deque_capacity l.fn.upper;
}

abbrev pub decreases-loop-ring : goal.decreases-loop-ring
decreases-loop-ring g l = deque_len l.ring - l.half
