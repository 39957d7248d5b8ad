use Rattle.std.proofs.Common.{◌≤◌, nat_eq, refl, ap, sym, subst, ◌∙◌, arith}
use Rattle.std.specs.Map.{lookup}
use Rattle.std.specs.FinMap as map
use Rattle.amqp_session.specs.Hashing.{numbered}
use Rattle.amqp_session.proofs.FiniteMapLemmas.{get_at, inserted}
use Rattle.amqp_connection.specs.Channels.{RoutesView}
use Rattle.amqp_connection.specs.RouteCounts.{Counted, Lowered, Raised, count_at, leads}
use Rattle.amqp_connection.proofs.RouteCountLemmas.{count_small, counted_put, has_count_still, same_option, same_routes, there}
use Rattle.amqp_connection.proofs.connection.route_table.RouteTable.put.Goals as goal

pub returns-then-eq-clause-ok : goal.returns-then-eq-clause-ok
returns-then-eq-clause-ok c = same_routes refl (there c.args.self.now.routes c.args.channel.0 c.args.number (sym c.of.ensures ∙ same_option _ c.args.number (sym c.eq.ensures ∙ c.if-eq.true)))

pub raise-requires-clause-small : goal.raise-requires-clause-small
raise-requires-clause-small c = subst (λ es. count_at es c.args.number ≤ 65536) (sym c.more_in_map.ensures.entries) (count_small _ _ c.args.number c.self.invariant.0)

pub lower-requires : goal.lower-requires
lower-requires c n =
    let before = c.in_ok-index.ensures.old ∙ ap (λ k. lookup (nat_eq k) c.self.inside.routes.entries) c.from-key.ensures ∙ sym (get_at c.self.inside.routes.entries c.args.channel.0) in
    let raises = subst (λ es. Raised c.args.number es c.raise.new.counts.entries) c.more_in_map.ensures.entries c.raise.ensures.raised in
    omega (arith, ap (λ o. leads o n) before, has_count_still _ _ _ c.args.channel.0 c.args.number n (omega arith) c.self.invariant.0 raises)

pub invariant_of-self-2 : goal.invariant_of-self-2
invariant_of-self-2 c =
    let before = c.in_ok-index.ensures.old ∙ ap (λ k. lookup (nat_eq k) c.self.inside.routes.entries) c.from-key.ensures ∙ sym (get_at c.self.inside.routes.entries c.args.channel.0) in
    let raises = subst (λ es. Raised c.args.number es c.raise.new.counts.entries) c.more_in_map.ensures.entries c.raise.ensures.raised in
    let lowers = subst (λ o. Lowered o c.raise.new.counts.entries c.lower.new.counts.entries) before c.lower.ensures.lowered in
    let put = inserted _ _ c.from-key.result c.args.number c.in_ok-index.ensures.updates.0 ∙ ap (λ k. map.insert (numbered c.self.inside.routes.entries) k c.args.number) c.from-key.ensures in (
      subst (λ m. Counted m c.lower.new.counts.entries) (sym put) (counted_put _ _ _ _ c.args.channel.0 c.args.number (omega arith) c.self.invariant.0 raises lowers),
      c.lower.ensures.hasher ∙ c.raise.ensures.hasher ∙ c.more_in_map.ensures.room.1 ∙ c.self.invariant.1 ∙ sym c.in_ok-index.ensures.hasher,
    )

pub returns-clause-ok : goal.returns-clause-ok
returns-clause-ok c =
    same_routes (c.in_ok-index.ensures.hasher ∙ ap (λ (m : RoutesView). m.hash) c.self.view_is)
    (inserted _ _ c.from-key.result c.args.number c.in_ok-index.ensures.updates.0
    ∙ ap (λ k. map.insert (numbered c.self.inside.routes.entries) k c.args.number) c.from-key.ensures
    ∙ ap (λ (m : RoutesView). map.insert m.routes c.args.channel.0 c.args.number) c.self.view_is)
