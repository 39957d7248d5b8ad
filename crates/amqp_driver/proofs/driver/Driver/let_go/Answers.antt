use Rattle.amqp_driver.proofs.EndingLemmas.{lets_go}
use Rattle.amqp_driver.proofs.driver.Driver.let_go.Goals as goal

pub returns-in-Done : goal.returns-in-Done
returns-in-Done g c = lets_go g.R.LinkRelay.gives c.args.self.now c.request.new.self c.forget.new.self c.args.session c.forget.result c.in-Done.ensures
    c.forget.ensures
