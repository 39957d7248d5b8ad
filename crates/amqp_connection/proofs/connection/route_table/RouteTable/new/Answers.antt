use Rattle.std.proofs.Common.{sym, ◌∙◌}
use Rattle.amqp_connection.proofs.RouteCountLemmas.{counted_new}
use Rattle.amqp_connection.proofs.connection.route_table.RouteTable.new.Goals as goal

pub invariant_of-result : goal.invariant_of-result
invariant_of-result c = (counted_new _ _ c.with_hasher.ensures.empty c.with_hasher-2.ensures.empty, c.with_hasher-2.ensures.hasher ∙ sym c.with_hasher.ensures.hasher)
