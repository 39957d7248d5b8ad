use Rattle.std.proofs.Common.{length}
use Rattle.amqp_engine.proofs.OutputLemmas.{PutSoFar}
use Rattle.amqp_engine.proofs.engine.Engine.put_out.Given as goal

abbrev pub invariant-loop-self : goal.invariant-loop-self
invariant-loop-self g l = PutSoFar l.fn.self l.fn.answers.items l.self l.answers.items

abbrev pub decreases-loop-self : goal.decreases-loop-self
decreases-loop-self g l = length l.self.waiting
