use Rattle.std.proofs.Common.{◌≡◌, ◌+◌, vec_capacity}
use Rattle.amqp_blocks.specs.Chunked.{start_of, HasPlace}
use Rattle.amqp_blocks.specs.Inner.Changes.{IsPassed}
use Rattle.amqp_blocks.proofs.cascade.pass_back.Given as goal

abbrev pub invariant-loop-block : goal.invariant-loop-block
invariant-loop-block g l = record {
  passed : IsPassed l.fn.blocks.items (start_of l.fn.blocks.items l.fn.place.block + l.fn.place.at) l.fn.item l.blocks.items (start_of l.blocks.items l.block) l.item;
  place : HasPlace l.blocks.items l.free;
  capacity : vec_capacity l.blocks ≡ vec_capacity l.fn.blocks;
}
