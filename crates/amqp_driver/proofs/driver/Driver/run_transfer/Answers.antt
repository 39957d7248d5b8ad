use Rattle.std.proofs.Common.{subst, Ok}
use Rattle.amqp_frames.specs.declared.frame.FrameBody.TheVariants as body
use Rattle.amqp_driver.specs.Driver.{RunsRead}
use Rattle.amqp_driver.proofs.RunLemmas.{runs_read}
use Rattle.amqp_driver.proofs.driver.Driver.run_transfer.Goals as goal

pub returns : goal.returns
returns g c = subst (λ m. RunsRead g.R.LinkRelay.gives m (Ok (record { channel = c.args.channel; body = body.Transfer c.args.transfer c.args.payload })) c.run_received_transfer-answer.result
    (record { engine = c.run_received_transfer-answer.new.self; to_send = c.run_received_transfer-answer.new.out.bytes; unfit = c.counted-self-inside.result }))
    c.self.view_is
    (runs_read g.R.LinkRelay.gives c.self.inside.engine c.run_received_transfer-answer.new.self c.self.inside.out.bytes c.run_received_transfer-answer.new.out.bytes
    c.self.inside.returned.items c.run_received_transfer-answer.new.returned.items c.self.inside.unfit c.counted-self-inside.result
    (Ok (record { channel = c.args.channel; body = body.Transfer c.args.transfer c.args.payload })) c.run_received_transfer-answer.result _
    c.self.invariant c.run_received_transfer-answer.ensures.ran c.run_received_transfer-answer.ensures.answers c.run_received_transfer-answer.ensures.left c.run_received_transfer-answer.ensures.memory c.counted-self-inside.ensures)
