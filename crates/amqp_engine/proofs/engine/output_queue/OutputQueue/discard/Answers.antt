use Rattle.std.proofs.Common.{ap}
use Rattle.amqp_engine.specs.Waits.{waits, after_frames}
use Rattle.amqp_engine.proofs.FirstFrameLemmas.{dropped}
use Rattle.amqp_engine.proofs.engine.output_queue.OutputQueue.discard.Goals as goal

pub returns-in-Nothing : goal.returns-in-Nothing
returns-in-Nothing c = rw (← c.self.view_is) (dropped c.self.inside.front c.set.new.place _ _ c.self.invariant (ap (λ x. waits x (after_frames c.self.inside.after)) c.set.ensures))
