use Rattle.std.proofs.Common.{◌<◌, length}
use Rattle.amqp_blocks.proofs.search.near.Given as goal

abbrev pub invariant-loop : goal.invariant-loop
invariant-loop l = l.block < length l.ends.items
