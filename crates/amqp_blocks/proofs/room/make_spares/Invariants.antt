use Rattle.std.proofs.Common.{◌≡◌, ◌+◌, ◌-◌, ◌*◌, ◌≤◌, max, length, vec_capacity, vec_len}
use Rattle.amqp_blocks.specs.Chunked.{EachSpare, places_of}
use Rattle.amqp_blocks.proofs.room.make_spares.Given as goal

abbrev pub invariant-loop-alloc : goal.invariant-loop-alloc
invariant-loop-alloc g l = record {
  spares : EachSpare l.spare.items;
  kept : length l.fn.spare.items ≤ length l.spare.items;
  most : length l.spare.items ≤ max (length l.fn.spare.items) l.count;
  places : places_of l.fn.spare.items + 256 * (length l.spare.items - length l.fn.spare.items) ≤ places_of l.spare.items;
  wide : 256 * length l.spare.items ≤ places_of l.spare.items;
  capacity : vec_capacity l.spare ≡ vec_capacity l.fn.spare;
}

abbrev pub decreases-loop-alloc : goal.decreases-loop-alloc
decreases-loop-alloc g l = l.count - vec_len l.spare
