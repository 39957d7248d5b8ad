-- `amqp1_link_credit` where something lies: it is what was taken out, and what is put back.
use Rattle.std.proofs.Common.{sym, subst, ap, refl, ◌∙◌, ℕ, ◌<◌, lit<}
use Rattle.amqp1.specs.Occupant.{credit_at, links_of}
use Rattle.amqp1.specs.OccupantView.{OccupantView}
use Rattle.amqp1.specs.declared.status.Status.TheVariants as status
use Rattle.amqp1.proofs.PlaceLemmas.{does_there, of_some}
use Rattle.amqp1.proofs.link_exports.amqp1_link_credit.Goals as goal

pub returns-in-Some-clause-seen : goal.returns-in-Some-clause-seen
returns-in-Some-clause-seen c = λ h.
    let same = c.replace-old.ensures.value in
    let lay = of_some _ _ _ c.in-Some.is (c.into_occupant.ensures.some (subst (λ p. 0 < p.full) (sym same) h)) in (
      subst (λ (n : ℕ). 0 < n) (sym c.of.ensures.full) (lit< tt),
      does_there _ _ _ _ status.Done _ _ (ap (λ p. p.slot.held) (sym same) ∙ lay) c.of.ensures.held c.number-in-Some.ensures
          (refl, refl, c.credit.ensures ∙ ap (λ (m : OccupantView). credit_at (links_of m c.args.session) c.args.link) c.deref.ensures),
    )
