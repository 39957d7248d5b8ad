use Rattle.std.proofs.Common.{ap, sym, ◌∙◌}
use Rattle.std.specs.FinMap as map
use Rattle.amqp_session.proofs.FiniteMapLemmas.{get_at}
use Rattle.amqp_connection.proofs.connection.channel_table.ChannelTable.holder.Goals as goal

pub returns : goal.returns
returns c = c.copied.ensures ∙ c.get.ensures.value ∙ sym (get_at _ c.args.channel.0) ∙ ap (λ m. map.get m c.args.channel.0) c.self.view_is
