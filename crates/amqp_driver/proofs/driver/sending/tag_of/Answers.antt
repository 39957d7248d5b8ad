use Rattle.std.proofs.Common.{◌∙◌, sym}
use Rattle.amqp_driver.proofs.SendingLemmas.{tagged, untagged}
use Rattle.amqp_driver.proofs.driver.sending.tag_of.Goals as goal

pub returns-then-not-has-clause-ok : goal.returns-then-not-has-clause-ok
returns-then-not-has-clause-ok c = untagged c.args.head.now _ (sym c.has.ensures ∙ c.if-not-has.true)

pub returns-clause-ok : goal.returns-clause-ok
returns-clause-ok c = tagged c.args.head.now c.args.bytes.now c.args.at c.in_ok-tag.tag (sym c.has.ensures ∙ c.if-not-has.false) c.in_ok-tag.ensures.ok
