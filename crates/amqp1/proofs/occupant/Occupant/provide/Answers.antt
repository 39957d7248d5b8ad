use Rattle.std.proofs.Common.{ap, sym, ◌∙◌}
use Rattle.std.specs.FinMap.{from_entries, insert}
use Rattle.amqp1.proofs.OccupantLemmas.{provided, provided_anew}
use Rattle.amqp1.proofs.occupant.Occupant.provide.Goals as goal

pub returns-then-is_some-clause-ok : goal.returns-then-is_some-clause-ok
returns-then-is_some-clause-ok c = provided _ c.self.inside.links.entries _ (ap (λ o. o.links) (sym c.self.view_is)) (sym c.get.ensures.found ∙ sym c.is_some.ensures ∙ c.if-is_some.true)

pub returns-clause-ok : goal.returns-clause-ok
returns-clause-ok c = provided_anew _ c.self.inside.links.entries _ _ _ _ (sym c.self.view_is) (sym c.get.ensures.found ∙ sym c.is_some.ensures ∙ c.if-is_some.false) c.new-links.ensures
    (c.put.ensures.put ∙ ap (λ es. insert (from_entries es) c.args.session c.new-links.result) c.more_in_map.ensures.entries)
