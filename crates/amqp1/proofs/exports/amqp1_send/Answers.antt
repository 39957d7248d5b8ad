-- `amqp1_send` where something lies: it is what was taken out, and what is put back.
use Rattle.std.proofs.Common.{sym, subst, ap, ◌∙◌, ℕ, ◌<◌, Some, lit<}
use Rattle.amqp1.specs.Status.{status_number}
use Rattle.std.specs.Prelude.{pos}
use Rattle.amqp_driver.specs.contracts.plain.PlainRelayLinkRelay.TheImpl.{ghosts}
use Rattle.amqp1.proofs.PlaceLemmas.{lies_again, of_some, sends_one}
use Rattle.amqp1.proofs.exports.amqp1_send.Goals as goal

pub returns-in-Some-clause-sent : goal.returns-in-Some-clause-sent
returns-in-Some-clause-sent c = λ h.
    let same = c.replace-old.ensures.value in
    let lay = of_some _ _ _ c.in-Some.is (c.into_occupant.ensures.some (subst (λ p. 0 < p.full) (sym same) h)) in (
      subst (λ (n : ℕ). 0 < n) (sym c.of.ensures.full) (lit< tt),
      lies_again _ _ _ _ _ (ap (λ p. p.slot.held) (sym same) ∙ lay ∙ ap Some (sym c.deref_mut.ensures.value)) c.of.ensures.held
          (sends_one ghosts.gives _ _ _ _ _ _ _ c.deref_mut.result.now.client c.post-went.new.self.client (c.number-in-Some.ensures ∙ ap (λ s. pos (status_number s)) c.of_driver.ensures) c.post-went.ensures.0.0 c.post-went.ensures.0.1, c.post-went.ensures.1),
    )
