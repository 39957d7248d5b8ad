use Rattle.amqp_engine.proofs.KindFieldsLemmas.{open_fields}
use Rattle.amqp_engine.proofs.ReceivedFieldsLemmas.{unread, was_read}
use Rattle.amqp_engine.proofs.engine.Engine.receive_open.Goals as goal

pub returns-in_err-open : goal.returns-in_err-open
returns-in_err-open g c =
    unread g.R.LinkRelay.gives open_fields c.args.self.now c.args.channel.0 c.args.fields c.read_list.new.bytes c.in_err-open.field-0.0
    c.from_residual.result c.in_err-open.ensures c.from_residual.ensures.1

pub returns : goal.returns
returns g c =
    was_read g.R.LinkRelay.gives open_fields c.args.self.now c.on_open.new.self c.args.channel.0 c.args.fields c.read_list.new.bytes c.in_ok-open.«open» _ c.in_ok-open.ensures c.on_open.ensures
