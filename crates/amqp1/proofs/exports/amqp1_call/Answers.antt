-- `amqp1_call` where something lies: it is what was taken out, and what is put back.
use Rattle.std.proofs.Common.{sym, subst, ap, ◌∙◌, ℕ, ◌<◌, Some, lit<}
use Rattle.amqp1.proofs.PlaceLemmas.{calls_one, lies_again, of_some}
use Rattle.amqp1.proofs.exports.amqp1_call.Goals as goal

pub returns-in-Some-clause-called : goal.returns-in-Some-clause-called
returns-in-Some-clause-called c = λ h.
    let same = c.replace-old.ensures.value in
    let lay = of_some _ _ _ c.in-Some.is (c.into_occupant.ensures.some (subst (λ p. 0 < p.full) (sym same) h)) in (
      subst (λ (n : ℕ). 0 < n) (sym c.of.ensures.full) (lit< tt),
      lies_again _ _ _ _ _ (ap (λ p. p.slot.held) (sym same) ∙ lay ∙ ap Some (sym c.deref_mut.ensures.value)) c.of.ensures.held
          (calls_one _ _ _ _ _ _ _ c.deref_mut.result.now.client c.call-status.new.self.client c.call-status.ensures.0, c.call-status.ensures.1),
    )
