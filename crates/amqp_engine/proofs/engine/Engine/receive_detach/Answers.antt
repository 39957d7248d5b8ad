use Rattle.amqp_engine.proofs.KindFieldsLemmas.{detach_fields}
use Rattle.amqp_engine.proofs.ReceivedFieldsLemmas.{unread, was_read}
use Rattle.amqp_engine.proofs.engine.Engine.receive_detach.Goals as goal

pub returns-in_err-detach : goal.returns-in_err-detach
returns-in_err-detach g c =
    unread g.R.LinkRelay.gives detach_fields c.args.self.now c.args.channel.0 c.args.fields c.read_list.new.bytes c.in_err-detach.field-0.0
    c.from_residual.result c.in_err-detach.ensures c.from_residual.ensures.1

pub returns : goal.returns
returns g c =
    was_read g.R.LinkRelay.gives detach_fields c.args.self.now c.on_detach.new.self c.args.channel.0 c.args.fields c.read_list.new.bytes c.in_ok-detach.detach _ c.in_ok-detach.ensures c.on_detach.ensures
