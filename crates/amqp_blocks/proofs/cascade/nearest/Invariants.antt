use Rattle.std.proofs.Common.{ℕ, ◌+◌, ◌<◌, length}
use Rattle.amqp_blocks.specs.Chunked.{IsFull}
use Rattle.amqp_blocks.proofs.cascade.nearest.Given as goal

abbrev pub invariant-loop-away : goal.invariant-loop-away
invariant-loop-away g l = (k : ℕ) → k < length l.blocks.items → l.block < k + l.away → k < l.block + l.away → IsFull l.blocks.items k
