use Rattle.std.proofs.Common.{sym, subst, ◌∙◌}
use Rattle.amqp_connection.specs.RouteCounts.{Lowered}
use Rattle.amqp_connection.proofs.RouteCountLemmas.{take_writes, gone}
use Rattle.amqp_connection.proofs.connection.route_counts.lower.Goals as goal

pub returns-then-count-eq1-clause-lowered : goal.returns-then-count-eq1-clause-lowered
returns-then-count-eq1-clause-lowered c =
    subst (λ o. Lowered o c.args.counts.now.entries c.take.new.map.entries) (sym c.in-Some.is)
    (gone _ _ c.in-Some.left (take_writes _ _ c.in-Some.left c.take.ensures.removed) (sym c.count_of-count.ensures ∙ c.if-count-eq1.true))
