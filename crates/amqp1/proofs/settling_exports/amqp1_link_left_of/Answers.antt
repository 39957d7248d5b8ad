-- `amqp1_link_left_of` where something lies: it is what was taken out, and what is put back.
use Rattle.std.proofs.Common.{sym, subst, ap, ◌∙◌, ℕ, ◌<◌, Some, lit<}
use Rattle.amqp1.proofs.PlaceLemmas.{does_there, of_some}
use Rattle.amqp1.proofs.settling_exports.amqp1_link_left_of.Goals as goal

pub returns-in-Some-clause-given : goal.returns-in-Some-clause-given
returns-in-Some-clause-given c = λ h.
    let same = c.replace-old.ensures.value in
    let lay = of_some _ _ _ c.in-Some.is (c.into_occupant.ensures.some (subst (λ p. 0 < p.full) (sym same) h)) in (
      subst (λ (n : ℕ). 0 < n) (sym c.of.ensures.full) (lit< tt),
      does_there _ _ _ _ _ _ _ (ap (λ p. p.slot.held) (sym same) ∙ lay ∙ ap Some (sym c.deref_mut.ensures.value)) c.of.ensures.held
          c.number-in-Some.ensures c.left_of_for-status.ensures,
    )
