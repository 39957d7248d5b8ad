use Rattle.std.proofs.Common.{refl}
use Rattle.amqp_engine.proofs.KindFieldsLemmas.{flow_fields}
use Rattle.amqp_engine.proofs.ReceivedFieldsLemmas.{unread, was_read}
use Rattle.amqp_engine.proofs.engine.Engine.receive_flow.Goals as goal

pub returns-in-Ok : goal.returns-in-Ok
returns-in-Ok g c =
    was_read g.R.LinkRelay.gives flow_fields c.args.self.now c.on_flow.new.self c.args.channel.0 c.args.fields c.read_list.new.bytes c.in-Ok.flow _ c.in-Ok.ensures c.on_flow.ensures

pub returns : goal.returns
returns g c =
    unread g.R.LinkRelay.gives flow_fields c.args.self.now c.args.channel.0 c.args.fields c.read_list.new.bytes c.in-Err.error
    c.unread.new.outcome c.in-Err.ensures (rw c.unread.ensures refl)
