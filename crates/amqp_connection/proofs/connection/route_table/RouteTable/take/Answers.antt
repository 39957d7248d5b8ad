use Rattle.std.proofs.Common.{ap, sym, subst, ◌∙◌, arith}
use Rattle.std.specs.FinMap as map
use Rattle.amqp_session.specs.Hashing.{numbered}
use Rattle.amqp_connection.specs.Channels.{RoutesView}
use Rattle.amqp_connection.specs.RouteCounts.{Counted, Lowered, leads}
use Rattle.amqp_connection.proofs.RouteCountLemmas.{counted_take, has_count, same_routes}
use Rattle.amqp_connection.proofs.connection.route_table.RouteTable.take.Goals as goal

pub lower-requires : goal.lower-requires
lower-requires c n =
    let before = c.take-number.ensures.value ∙ ap (λ k. map.get (numbered c.self.inside.routes.entries) k) c.from.ensures in
    omega (arith, ap (λ o. leads o n) before, has_count _ _ c.args.channel.0 n (omega arith) c.self.invariant.0)

pub invariant_of-self : goal.invariant_of-self
invariant_of-self c =
    let before = c.take-number.ensures.value ∙ ap (λ k. map.get (numbered c.self.inside.routes.entries) k) c.from.ensures in
    let removed = c.take-number.ensures.removed ∙ ap (λ k. map.remove (numbered c.self.inside.routes.entries) k) c.from.ensures in
    let lowers = subst (λ o. Lowered o c.self.inside.counts.entries c.lower.new.counts.entries) before c.lower.ensures.lowered in (
      subst (λ m. Counted m c.lower.new.counts.entries) (sym removed) (counted_take _ _ _ c.args.channel.0 (omega arith) c.self.invariant.0 lowers),
      c.lower.ensures.hasher ∙ c.self.invariant.1 ∙ sym c.take-number.ensures.hasher,
    )

pub returns-clause-value : goal.returns-clause-value
returns-clause-value c =
    c.take-number.ensures.value ∙ ap (λ k. map.get (numbered c.self.inside.routes.entries) k) c.from.ensures
    ∙ ap (λ (m : RoutesView). map.get m.routes c.args.channel.0) c.self.view_is

pub returns-clause-removed : goal.returns-clause-removed
returns-clause-removed c =
    same_routes (c.take-number.ensures.hasher ∙ ap (λ (m : RoutesView). m.hash) c.self.view_is)
    (c.take-number.ensures.removed ∙ ap (λ k. map.remove (numbered c.self.inside.routes.entries) k) c.from.ensures
    ∙ ap (λ (m : RoutesView). map.remove m.routes c.args.channel.0) c.self.view_is)
