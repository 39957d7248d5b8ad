use Rattle.std.proofs.Common.{◌≡◌, ◌*◌, ◌≤◌, length, take, vec_capacity}
use Rattle.amqp_blocks.specs.Chunked.{EachSpare, places_of}
use Rattle.amqp_blocks.proofs.room.widen.Given as goal

abbrev pub invariant-loop-at : goal.invariant-loop-at
invariant-loop-at g l = record {
  spares : EachSpare l.spare.items;
  count : length l.spare.items ≡ length l.fn.spare.items;
  places : places_of l.fn.spare.items ≤ places_of l.spare.items;
  wide : 256 * l.at ≤ places_of (take l.at l.spare.items);
  capacity : vec_capacity l.spare ≡ vec_capacity l.fn.spare;
}
