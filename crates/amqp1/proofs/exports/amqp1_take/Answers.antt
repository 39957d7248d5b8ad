-- `amqp1_take` where something lies: it is what was taken out, and what is put back.
use Rattle.std.proofs.Common.{sym, subst, ap, ◌∙◌, ℕ, ◌<◌, Some, lit<}
use Rattle.amqp1.specs.Status.{status_number}
use Rattle.std.specs.Prelude.{pos}
use Rattle.amqp_driver.specs.contracts.plain.PlainRelayLinkRelay.TheImpl.{ghosts}
use Rattle.amqp1.proofs.PlaceLemmas.{lies_again, of_some, takes_one}
use Rattle.amqp1.proofs.exports.amqp1_take.Goals as goal

pub returns-in-Some-clause-taken : goal.returns-in-Some-clause-taken
returns-in-Some-clause-taken c = λ h.
    let same = c.replace-old.ensures.value in
    let lay = of_some _ _ _ c.in-Some.is (c.into_occupant.ensures.some (subst (λ p. 0 < p.full) (sym same) h)) in (
      subst (λ (n : ℕ). 0 < n) (sym c.of.ensures.full) (lit< tt),
      lies_again _ _ _ _ _ (ap (λ p. p.slot.held) (sym same) ∙ lay ∙ ap Some (sym c.deref_mut.ensures.value)) c.of.ensures.held
          (takes_one ghosts.gives _ _ _ _ _ _ _ c.deref_mut.result.now.client c.take-took.new.self.client (c.number-in-Some.ensures ∙ ap (λ s. pos (status_number s)) c.of_driver.ensures) c.take-took.ensures.0.0 c.take-took.ensures.0.1, c.take-took.ensures.1),
    )
