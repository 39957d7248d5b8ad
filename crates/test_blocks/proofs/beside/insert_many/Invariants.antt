use Rattle.std.proofs.Common.{◌+◌, ◌≤◌}
use Rattle.test_blocks.proofs.beside.insert_many.Given as goal

abbrev pub invariant-loop-i : goal.invariant-loop-i
invariant-loop-i g l = l.count ≤ l.blocks.room + l.i
