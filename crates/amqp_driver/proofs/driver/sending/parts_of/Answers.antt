use Rattle.std.proofs.Common.{◌∙◌}
use Rattle.amqp_driver.proofs.SendingLemmas.{payload_part}
use Rattle.amqp_driver.proofs.driver.sending.parts_of.Goals as goal

pub returns-clause-ok : goal.returns-clause-ok
returns-clause-ok c =
    (c.in_ok-tag.ensures.ok, c.in_ok-payload.ensures.ok ∙ payload_part c.args.bytes.now c.args.at c.args.head.now.tag_size c.args.head.now.payload)
