use Rattle.std.proofs.Common.{nat_eq, ap, sym, ◌∙◌}
use Rattle.std.specs.Map.{lookup}
use Rattle.std.specs.FinMap as map
use Rattle.amqp_session.proofs.FiniteMapLemmas.{get_at}
use Rattle.amqp_connection.specs.Channels.{RoutesView}
use Rattle.amqp_connection.proofs.RouteCountLemmas.{found_value, none_found, none_stands}
use Rattle.amqp_connection.proofs.connection.route_table.RouteTable.of.Goals as goal

pub returns-in_err-at : goal.returns-in_err-at
returns-in_err-at c =
    c.from_residual.ensures ∙ none_found _ c.in_err-at.ensures.found
    ∙ ap (λ k. lookup (nat_eq k) c.self.inside.routes.entries) c.from.ensures ∙ sym (get_at _ c.args.channel.0) ∙ ap (λ (m : RoutesView). map.get m.routes c.args.channel.0) c.self.view_is

pub returns-in_err-number : goal.returns-in_err-number
returns-in_err-number c = absurd (none_stands _ _ c.in_err-number.ensures.entry c.in_ok-at.ensures.there.1)

pub returns : goal.returns
returns c =
    found_value c.self.inside.routes.entries _ _ _ _ (c.in_ok-number.ensures.entry ∙ c.in_ok-at.ensures.there.1) c.in_ok-number.ensures.value
    ∙ ap (λ k. lookup (nat_eq k) c.self.inside.routes.entries) c.from.ensures ∙ sym (get_at _ c.args.channel.0) ∙ ap (λ (m : RoutesView). map.get m.routes c.args.channel.0) c.self.view_is
