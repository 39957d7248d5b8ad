use Rattle.std.proofs.Common.{◌≤◌}
use Rattle.amqp_driver.proofs.head.end_of_heads.Given as goal

abbrev pub invariant-heads : goal.invariant-heads
invariant-heads l = record { after : l.from ≤ l.end; within : l.end ≤ l.len }
