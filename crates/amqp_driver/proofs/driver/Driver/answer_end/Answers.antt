use Rattle.amqp_driver.proofs.EndingLemmas.{answers_end}
use Rattle.amqp_driver.proofs.driver.Driver.answer_end.Goals as goal

pub returns-in-Done : goal.returns-in-Done
returns-in-Done g c = answers_end g.R.LinkRelay.gives c.args.self.now c.request.new.self c.let_go.new.self c.args.session c.args.error c.let_go.result
    (c.is_ending.ensures.0 c.if-not-is_ending.false) c.in-Done.ensures c.let_go.ensures
