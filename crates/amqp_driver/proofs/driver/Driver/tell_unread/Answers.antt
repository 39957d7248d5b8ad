use Rattle.std.proofs.Common.{ap, sym, subst, ◌∙◌, Err, None, false}
use Rattle.amqp_driver.specs.declared.record.Record.{Record}
use Rattle.amqp_driver.specs.declared.told.Told.{Told}
use Rattle.amqp_driver.specs.Driver.{TellsRead, told_of}
use Rattle.amqp_driver.proofs.RunLemmas.{tells_unread}
use Rattle.amqp_driver.proofs.driver.Driver.tell_unread.Goals as goal

pub returns : goal.returns
returns g c = subst (λ (t : Told). TellsRead g.R.LinkRelay.gives c.args.self.now (Err c.args.error) c.args.at c.args.size t c.run_read-answer.new.self)
    (sym (c.told_of.ensures ∙ ap (λ (r : Record). told_of c.run_read-answer.result None None false false r) c.bare.ensures))
    (tells_unread g.R.LinkRelay.gives c.args.self.now c.run_read-answer.new.self c.args.error c.args.at c.args.size c.run_read-answer.result c.run_read-answer.ensures)
