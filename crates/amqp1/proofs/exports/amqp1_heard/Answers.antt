-- `amqp1_heard` where something lies: it is what was taken out, and what is put back.
use Rattle.std.proofs.Common.{sym, subst, ap, ◌∙◌, ℕ, ◌<◌, Some, lit<}
use Rattle.amqp1.proofs.PlaceLemmas.{hears_one, lies_again, of_some}
use Rattle.amqp1.proofs.exports.amqp1_heard.Goals as goal

pub returns-in-Some-clause-heard : goal.returns-in-Some-clause-heard
returns-in-Some-clause-heard c = λ h.
    let same = c.replace-old.ensures.value in
    let lay = of_some _ _ _ c.in-Some.is (c.into_occupant.ensures.some (subst (λ p. 0 < p.full) (sym same) h)) in (
      subst (λ (n : ℕ). 0 < n) (sym c.of.ensures.full) (lit< tt),
      lies_again _ _ _ _ _ (ap (λ p. p.slot.held) (sym same) ∙ lay ∙ ap Some (sym c.deref_mut.ensures.value)) c.of.ensures.held
          (hears_one c.args.now _ c.deref_mut.result.now.client c.heard.new.self.client c.number-in-Some.ensures c.heard.ensures.0.0 c.heard.ensures.0.1, c.heard.ensures.1),
    )
