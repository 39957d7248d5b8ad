use Rattle.std.proofs.Common.{sym, subst, ◌∙◌}
use Rattle.amqp_connection.specs.Channels.{RoutesView}
use Rattle.amqp_connection.specs.RouteCounts.{IsLedTo}
use Rattle.amqp_connection.proofs.RouteCountLemmas.{led}
use Rattle.amqp_connection.proofs.connection.route_table.RouteTable.leads_to.Goals as goal

pub returns : goal.returns
returns c = subst (λ (m : RoutesView). IsLedTo m.routes c.args.number c.is_some.result) c.self.view_is (led _ _ c.args.number _ c.self.invariant.0 (sym (c.is_some.ensures ∙ c.get.ensures.found)))
