use Rattle.std.proofs.Common.{◌-◌, ◌≤◌, length, false}
use Rattle.amqp_driver.specs.Driver.{Mirrors}
use Rattle.amqp_driver.specs.Taking.{Took}
use Rattle.amqp_driver.proofs.driver.Driver.take_within.Given as goal

abbrev pub invariant-frames : goal.invariant-frames
invariant-frames g l = record {
  took : Took g.R.LinkRelay.gives l.limit l.fn.self l.input l.taken l.fn.records l.written false l.self l.records;
  copy : Mirrors l.copied l.input;
  from : l.copied.start ≤ l.taken;
}

abbrev pub decreases-frames : goal.decreases-frames
decreases-frames g l = length l.input - l.taken
