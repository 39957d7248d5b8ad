use Rattle.amqp_engine.proofs.KindFieldsLemmas.{attach_fields}
use Rattle.amqp_engine.proofs.ReceivedFieldsLemmas.{unread, was_read}
use Rattle.amqp_engine.proofs.engine.Engine.receive_attach.Goals as goal

pub returns-in_err-attach : goal.returns-in_err-attach
returns-in_err-attach g c =
    unread g.R.LinkRelay.gives attach_fields c.args.self.now c.args.channel.0 c.args.fields c.read_list.new.bytes c.in_err-attach.field-0.0
    c.from_residual.result c.in_err-attach.ensures c.from_residual.ensures.1

pub returns : goal.returns
returns g c =
    was_read g.R.LinkRelay.gives attach_fields c.args.self.now c.on_attach.new.self c.args.channel.0 c.args.fields c.read_list.new.bytes c.in_ok-attach.attach _ c.in_ok-attach.ensures c.on_attach.ensures
