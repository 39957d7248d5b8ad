use Rattle.std.proofs.Common.{ap, ◌∙◌}
use Rattle.amqp_engine.specs.Waits.{waits, after_frames}
use Rattle.amqp_engine.proofs.FirstFrameLemmas.{dropped}
use Rattle.amqp_engine.proofs.engine.output_queue.OutputQueue.advance.Goals as goal

pub returns : goal.returns
returns c = rw (← c.self.view_is) (dropped c.self.inside.front c.set.new.place _ _ c.self.invariant (ap (λ x. waits x (after_frames c.next_of.new.after)) c.set.ensures ∙ c.next_of.ensures.same))
