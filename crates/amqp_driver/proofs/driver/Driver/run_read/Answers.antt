use Rattle.std.proofs.Common.{subst}
use Rattle.amqp_driver.specs.Driver.{RunsRead}
use Rattle.amqp_driver.proofs.RunLemmas.{runs_read}
use Rattle.amqp_driver.proofs.driver.Driver.run_read.Goals as goal

pub returns : goal.returns
returns g c = subst (λ m. RunsRead g.R.LinkRelay.gives m c.args.read c.run_frame-answer.result
    (record { engine = c.run_frame-answer.new.self; to_send = c.run_frame-answer.new.out.bytes; unfit = c.counted-self-inside.result }))
    c.self.view_is
    (runs_read g.R.LinkRelay.gives c.self.inside.engine c.run_frame-answer.new.self c.self.inside.out.bytes c.run_frame-answer.new.out.bytes
    c.self.inside.returned.items c.run_frame-answer.new.returned.items c.self.inside.unfit c.counted-self-inside.result c.args.read c.run_frame-answer.result _
    c.self.invariant c.run_frame-answer.ensures.ran c.run_frame-answer.ensures.answers c.run_frame-answer.ensures.left c.run_frame-answer.ensures.memory c.counted-self-inside.ensures)
