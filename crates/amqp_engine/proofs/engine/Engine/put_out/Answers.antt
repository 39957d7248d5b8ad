use Rattle.amqp_engine.proofs.OutputLemmas.{put_more}
use Rattle.amqp_engine.proofs.engine.Engine.put_out.Goals as goal

-- an answer more
pub loop-self-preserved : goal.loop-self-preserved
loop-self-preserved g c =
    let put = c.in-Ok.ensures.ok in put_more _ _ _ _ _ _ put.0 c.loop-self.invariant put.1 put.2
