use Rattle.std.proofs.Common.{◌-◌, ◌≤◌, length}
use Rattle.amqp_driver.specs.Driver.{Mirrors}
use Rattle.amqp_driver.specs.Sending.{PostsSo}
use Rattle.amqp_driver.proofs.driver.Driver.send.Given as goal

abbrev pub invariant-heads : goal.invariant-heads
invariant-heads g l = record {
  posts : PostsSo g.R.LinkRelay.gives l.fn.self l.heads l.bytes l.fn.sent l.taken l.used l.self l.sent l.broken;
  copy : Mirrors l.copied l.bytes;
  from : l.copied.start ≤ l.used;
  within : l.taken ≤ length l.heads;
  inside : l.used ≤ length l.bytes;
  places : l.taken ≤ length l.sent;
}

abbrev pub decreases-heads : goal.decreases-heads
decreases-heads g l = length l.heads - l.taken
