use Rattle.amqp_connection.specs.Connection.{refusal_of}
use Rattle.amqp_frames.specs.declared.frame.FrameBody.TheVariants as body
use Rattle.amqp_engine.proofs.FrameRunLemmas.{body_kept}
use Rattle.amqp_engine.proofs.engine.Engine.take_disposition.Goals as goal

pub returns-then-not-on_disposition-clause-taken : goal.returns-then-not-on_disposition-clause-taken
returns-then-not-on_disposition-clause-taken g c = c.on_disposition.ensures.not_done c.if-not-on_disposition.true

pub returns-clause-taken : goal.returns-clause-taken
returns-clause-taken g c =
    body_kept g.R.LinkRelay.gives c.args.self.now c.on_disposition.new.self c.args.channel.0 (body.Disposition c.args.disposition)
    (refusal_of c.on_disposition.new.outcome) tt c.on_disposition.ensures.received
