use Rattle.std.proofs.Common.{◌≡◌, length}
use Rattle.amqp_driver.specs.Stream.{having_sent, waiting}
use Rattle.amqp1.proofs.TakingLemmas.{Taken}
use Rattle.amqp1.proofs.taking.take.Given as goal

abbrev pub invariant-loop-at : goal.invariant-loop-at
invariant-loop-at g l = Taken (waiting l.fn.stream) l.fn.output l.at (waiting l.stream) l.output × (l.stream ≡ having_sent l.at l.fn.stream)

abbrev pub decreases-loop-at : goal.decreases-loop-at
decreases-loop-at g l = length (waiting l.stream)
