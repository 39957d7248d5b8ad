use Rattle.std.proofs.Common.{sym, subst, ◌∙◌, Ok}
use Rattle.amqp_driver.specs.declared.told.Told.{Told}
use Rattle.amqp_driver.specs.Driver.{TellsRead}
use Rattle.amqp_driver.proofs.RunLemmas.{told_same, tells_frame}
use Rattle.amqp_driver.proofs.driver.Driver.tell_frame.Goals as goal

pub returns : goal.returns
returns g c = subst (λ (t : Told). TellsRead g.R.LinkRelay.gives c.args.self.now (Ok c.args.frame) c.args.at c.args.size t c.run_read-answer.new.self)
    (sym (c.told_of.ensures ∙ told_same c.args.self.now c.args.frame c.args.at c.args.size c.run_read-answer.result _ c.link_of-link.result c.is_empty-silent.result
    c.begins_anew-anew.result c.of_frame-said.result c.route_of-route.ensures c.link_of-link.ensures c.is_empty-silent.ensures c.begins_anew-anew.ensures
    c.of_frame-said.ensures))
    (tells_frame g.R.LinkRelay.gives c.args.self.now c.run_read-answer.new.self c.args.frame c.args.at c.args.size c.run_read-answer.result c.run_read-answer.ensures)
