use Rattle.amqp_driver.proofs.AnsweringLemmas.{answers, awaits}
use Rattle.amqp_driver.proofs.driver.Driver.answer_begin.Goals as goal

pub take_theirs-requires : goal.take_theirs-requires
take_theirs-requires g c = awaits g.R.LinkRelay.gives c.args.self.now c.offer.new.self c.args.frame.now c.in-Ok.found.0 c.in-Ok.found.1 c.args.number c.args.settings
    c.in-Ok-offer.channel c.in-Ok.ensures c.in-Ok-offer.ensures

pub returns-in-Ok-offer : goal.returns-in-Ok-offer
returns-in-Ok-offer g c = answers g.R.LinkRelay.gives c.args.self.now c.offer.new.self c.take_theirs.new.self c.args.frame.now c.in-Ok.found.0 c.in-Ok.found.1
    c.args.number c.args.settings c.in-Ok-offer.channel c.take_theirs.result c.in-Ok.ensures c.in-Ok-offer.ensures c.take_theirs.ensures
