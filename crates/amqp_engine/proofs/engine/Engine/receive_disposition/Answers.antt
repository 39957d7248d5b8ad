use Rattle.std.proofs.Common.{refl}
use Rattle.amqp_engine.proofs.KindFieldsLemmas.{disposition_fields}
use Rattle.amqp_engine.proofs.ReceivedFieldsLemmas.{unread, was_read}
use Rattle.amqp_engine.proofs.engine.Engine.receive_disposition.Goals as goal

pub returns-in-Ok : goal.returns-in-Ok
returns-in-Ok g c =
    was_read g.R.LinkRelay.gives disposition_fields c.args.self.now c.on_disposition-done.new.self c.args.channel.0 c.args.fields c.read_list.new.bytes c.in-Ok.disposition _ c.in-Ok.ensures c.on_disposition-done.ensures.received

pub returns : goal.returns
returns g c =
    unread g.R.LinkRelay.gives disposition_fields c.args.self.now c.args.channel.0 c.args.fields c.read_list.new.bytes c.in-Err.error
    c.unread.new.outcome c.in-Err.ensures (rw c.unread.ensures refl)
