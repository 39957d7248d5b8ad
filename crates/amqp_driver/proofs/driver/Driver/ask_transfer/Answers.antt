use Rattle.std.proofs.Common.{subst, ap, ◌∙◌, Bool}
use Rattle.amqp_engine.specs.declared.engine.input.Input.TheVariants as given
use Rattle.amqp_driver.specs.Heads.{has}
use Rattle.amqp_driver.specs.Requests.{Requests, has_own}
use Rattle.amqp_driver.proofs.SendingLemmas.{asked_well, requests_transfer}
use Rattle.amqp_driver.proofs.driver.Driver.ask_transfer.Goals as goal

pub returns-clause-asked : goal.returns-clause-asked
returns-clause-asked g c = subst (λ m. Requests g.R.LinkRelay.gives m
    (given.Transfer (record { 0 = c.args.head.now.session }) c.args.input c.args.transfer c.args.payload (has c.args.head.now.flags 1)) c.asked_of.result
    (record { engine = c.run_transfer-answer.new.self; to_send = c.run_transfer-answer.new.out.bytes; unfit = c.counted-self-inside.result }))
    c.self.view_is
    (subst (λ (b : Bool). Requests g.R.LinkRelay.gives
    (record { engine = c.self.inside.engine; to_send = c.self.inside.out.bytes; unfit = c.self.inside.unfit })
    (given.Transfer (record { 0 = c.args.head.now.session }) c.args.input c.args.transfer c.args.payload b) c.asked_of.result
    (record { engine = c.run_transfer-answer.new.self; to_send = c.run_transfer-answer.new.out.bytes; unfit = c.counted-self-inside.result }))
    c.has.ensures
    (requests_transfer g.R.LinkRelay.gives c.self.inside.engine c.run_transfer-answer.new.self
    (given.Transfer (record { 0 = c.args.head.now.session }) c.args.input c.args.transfer c.args.payload c.has.result)
    c.self.inside.out.bytes c.run_transfer-answer.new.out.bytes
    c.self.inside.returned.items c.run_transfer-answer.new.returned.items c.self.inside.unfit c.counted-self-inside.result c.run_transfer-answer.result c.has_own-own.result
    c.asked_of.result c.self.invariant c.run_transfer-answer.ensures.ran c.counted-self-inside.ensures (c.has_own-own.ensures ∙ ap has_own c.as_slice.ensures.value) c.asked_of.ensures))

pub returns-clause-memory : goal.returns-clause-memory
returns-clause-memory g c = asked_well c.run_transfer-answer.result c.has_own-own.result c.asked_of.result c.run_transfer-answer.ensures.memory c.asked_of.ensures
