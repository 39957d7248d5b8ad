use Rattle.std.proofs.Common.{ap, sym, refl, ◌∙◌}
use Rattle.amqp_links.specs.Ends.{end_at}
use Rattle.amqp1.specs.Occupant.{credit_of}
use Rattle.amqp1.proofs.OccupantLemmas.{credit_is}
use Rattle.amqp1.proofs.occupant.Occupant.credit.Goals as goal

pub returns-in-Some : goal.returns-in-Some
returns-in-Some c = credit_is c.args.self.now c.self.inside.links.entries _ _ _ _ (ap (λ o. o.links) (sym c.self.view_is)) (sym c.in-Some.ensures.value)
    (c.credit_of.ensures ∙ ap credit_of (c.end.ensures ∙ ap (λ l. end_at l.ends c.args.link) c.links.ensures))

pub returns-in-None : goal.returns-in-None
returns-in-None c = credit_is c.args.self.now c.self.inside.links.entries _ _ _ _ (ap (λ o. o.links) (sym c.self.view_is)) (sym c.in-None.ensures.value) refl
