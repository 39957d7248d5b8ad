use Rattle.std.proofs.Common.{subst}
use Rattle.amqp_driver.specs.Driver.{SendsOnly}
use Rattle.amqp_driver.proofs.FlushLemmas.{flushes}
use Rattle.amqp_driver.proofs.driver.Driver.flush.Goals as goal

pub returns-clause-sent : goal.returns-clause-sent
returns-clause-sent g c = subst (λ m. SendsOnly g.R.LinkRelay.gives m
    (record { engine = c.run_into-ran.new.self; to_send = c.run_into-ran.new.out.bytes; unfit = c.counted-self-inside.result }))
    c.self.view_is
    (flushes g.R.LinkRelay.gives c.self.inside.engine c.run_into-ran.new.self c.new-none.result.items c.run_into-ran.new.inputs.items c.self.inside.out.bytes
    c.run_into-ran.new.out.bytes c.self.inside.returned.items c.run_into-ran.new.refusals.items c.self.inside.unfit c.counted-self-inside.result
    c.new-none.ensures.items c.self.invariant c.run_into-ran.ensures.ran c.counted-self-inside.ensures)
