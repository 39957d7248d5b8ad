use Rattle.amqp_connection.specs.Connection.{refusal_of}
use Rattle.amqp_frames.specs.declared.frame.FrameBody.TheVariants as body
use Rattle.amqp_engine.proofs.FrameRunLemmas.{body_kept}
use Rattle.amqp_engine.proofs.engine.Engine.take_flow.Goals as goal

pub returns-then-not-try_flow-clause-taken : goal.returns-then-not-try_flow-clause-taken
returns-then-not-try_flow-clause-taken g c =
    let t = rw c.if-not-try_flow.true at c.try_flow.ensures.tried in (tt, t.0, t.1)

pub returns-clause-taken : goal.returns-clause-taken
returns-clause-taken g c =
    body_kept g.R.LinkRelay.gives c.args.self.now c.try_flow.new.self c.args.channel.0 (body.Flow c.args.flow)
    (refusal_of c.try_flow.new.outcome) tt (rw c.if-not-try_flow.false at c.try_flow.ensures.tried)
