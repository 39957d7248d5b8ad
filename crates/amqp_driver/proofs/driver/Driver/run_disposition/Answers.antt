use Rattle.std.proofs.Common.{subst, Ok}
use Rattle.amqp_frames.specs.declared.frame.FrameBody.TheVariants as body
use Rattle.amqp_driver.specs.Driver.{RunsRead}
use Rattle.amqp_driver.proofs.RunLemmas.{runs_read}
use Rattle.amqp_driver.proofs.driver.Driver.run_disposition.Goals as goal

pub returns : goal.returns
returns g c = subst (λ m. RunsRead g.R.LinkRelay.gives m (Ok (record { channel = c.args.channel; body = body.Disposition c.args.disposition })) c.run_received_disposition-answer.result
    (record { engine = c.run_received_disposition-answer.new.self; to_send = c.run_received_disposition-answer.new.out.bytes; unfit = c.counted-self-inside.result }))
    c.self.view_is
    (runs_read g.R.LinkRelay.gives c.self.inside.engine c.run_received_disposition-answer.new.self c.self.inside.out.bytes c.run_received_disposition-answer.new.out.bytes
    c.self.inside.returned.items c.run_received_disposition-answer.new.returned.items c.self.inside.unfit c.counted-self-inside.result
    (Ok (record { channel = c.args.channel; body = body.Disposition c.args.disposition })) c.run_received_disposition-answer.result _
    c.self.invariant c.run_received_disposition-answer.ensures.ran c.run_received_disposition-answer.ensures.answers c.run_received_disposition-answer.ensures.left c.run_received_disposition-answer.ensures.memory c.counted-self-inside.ensures)
