-- `amqp1_cut` where something lies: it is what was taken out, and what is put back.
use Rattle.std.proofs.Common.{sym, subst, ap, refl, ◌∙◌, ℕ, ◌<◌, lit<}
use Rattle.amqp_driver.specs.Cutting.{cut_of}
use Rattle.amqp1.specs.OccupantView.{OccupantView}
use Rattle.amqp1.proofs.PlaceLemmas.{cuts_none, cuts_one, lies_again, of_some}
use Rattle.amqp1.proofs.exports.amqp1_cut.Goals as goal

pub returns-in-Ok-clause-cut : goal.returns-in-Ok-clause-cut
returns-in-Ok-clause-cut c = λ h.
    let same = c.replace-old.ensures.value in
    let lay = of_some _ _ _ c.in-Some.is (c.into_occupant.ensures.some (subst (λ p. 0 < p.full) (sym same) h)) in (
      subst (λ (n : ℕ). 0 < n) (sym c.of.ensures.full) (lit< tt),
      lies_again _ _ _ _ _ (ap (λ p. p.slot.held) (sym same) ∙ lay) c.of.ensures.held (
        cuts_one _ _ _ _ _ _ c.number-in-Some.ensures
            (c.in-Ok.ensures.ok ∙ ap (λ (m : OccupantView). cut_of m.client.stream.driver.engine.limit c.args.head.now c.args.bytes.now) c.deref.ensures),
        refl,
      ),
    )

pub returns-in_default-clause-cut : goal.returns-in_default-clause-cut
returns-in_default-clause-cut c = λ h.
    let same = c.replace-old.ensures.value in
    let lay = of_some _ _ _ c.in-Some.is (c.into_occupant.ensures.some (subst (λ p. 0 < p.full) (sym same) h)) in (
      subst (λ (n : ℕ). 0 < n) (sym c.of.ensures.full) (lit< tt),
      lies_again _ _ _ _ _ (ap (λ p. p.slot.held) (sym same) ∙ lay) c.of.ensures.held
          (cuts_none _ _ _ _ _ _ c.number-in_default.ensures refl c.in_default.ensures.refused, refl),
    )
