use Rattle.amqp_engine.proofs.KindFieldsLemmas.{begin_fields}
use Rattle.amqp_engine.proofs.ReceivedFieldsLemmas.{unread, was_read}
use Rattle.amqp_engine.proofs.engine.Engine.receive_begin.Goals as goal

pub returns-in_err-begin : goal.returns-in_err-begin
returns-in_err-begin g c =
    unread g.R.LinkRelay.gives begin_fields c.args.self.now c.args.channel.0 c.args.fields c.read_list.new.bytes c.in_err-begin.field-0.0
    c.from_residual.result c.in_err-begin.ensures c.from_residual.ensures.1

pub returns : goal.returns
returns g c =
    was_read g.R.LinkRelay.gives begin_fields c.args.self.now c.on_begin.new.self c.args.channel.0 c.args.fields c.read_list.new.bytes c.in_ok-begin.begin _ c.in_ok-begin.ensures c.on_begin.ensures
