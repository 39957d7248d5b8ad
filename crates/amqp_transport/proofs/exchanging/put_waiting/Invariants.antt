use Rattle.std.proofs.Common.{length}
use Rattle.amqp_driver.specs.Stream.{waiting}
use Rattle.amqp_transport.proofs.ExchangeLemmas.{Sent}
use Rattle.amqp_transport.proofs.exchanging.put_waiting.Given as goal

abbrev pub invariant-loop-stream : goal.invariant-loop-stream
invariant-loop-stream g l = Sent (g.O.Write.contents l.fn.output) (g.O.Write.contents l.output) l.fn.stream l.stream

abbrev pub decreases-loop-stream : goal.decreases-loop-stream
decreases-loop-stream g l = length (waiting l.stream)
