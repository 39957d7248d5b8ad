use Rattle.std.proofs.Common.{subst, ap, ◌∙◌}
use Rattle.amqp_driver.specs.Requests.{Requests, has_own}
use Rattle.amqp_driver.proofs.SendingLemmas.{requests}
use Rattle.amqp_driver.proofs.driver.Driver.request.Goals as goal

pub returns : goal.returns
returns g c = subst (λ m. Requests g.R.LinkRelay.gives m c.args.input c.asked_of.result
    (record { engine = c.run_one-answer.new.self; to_send = c.run_one-answer.new.out.bytes; unfit = c.counted-self-inside.result }))
    c.self.view_is
    (requests g.R.LinkRelay.gives c.self.inside.engine c.run_one-answer.new.self c.args.input c.self.inside.out.bytes c.run_one-answer.new.out.bytes
    c.self.inside.returned.items c.run_one-answer.new.returned.items c.self.inside.unfit c.counted-self-inside.result c.run_one-answer.result c.has_own-own.result
    c.asked_of.result c.self.invariant c.run_one-answer.ensures.ran c.counted-self-inside.ensures (c.has_own-own.ensures ∙ ap has_own c.as_slice.ensures.value) c.asked_of.ensures)
