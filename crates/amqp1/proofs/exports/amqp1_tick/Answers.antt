-- `amqp1_tick` where something lies: it is what was taken out, and what is put back.
use Rattle.std.proofs.Common.{sym, subst, ap, ◌∙◌, ℕ, ◌<◌, Some, lit<}
use Rattle.amqp_driver.specs.contracts.plain.PlainRelayLinkRelay.TheImpl.{ghosts}
use Rattle.amqp1.proofs.PlaceLemmas.{lies_again, of_some, ticks_one}
use Rattle.amqp1.proofs.exports.amqp1_tick.Goals as goal

pub returns-in-Some-clause-ticked : goal.returns-in-Some-clause-ticked
returns-in-Some-clause-ticked c = λ h.
    let same = c.replace-old.ensures.value in
    let lay = of_some _ _ _ c.in-Some.is (c.into_occupant.ensures.some (subst (λ p. 0 < p.full) (sym same) h)) in (
      subst (λ (n : ℕ). 0 < n) (sym c.of.ensures.full) (lit< tt),
      lies_again _ _ _ _ _ (ap (λ p. p.slot.held) (sym same) ∙ lay ∙ ap Some (sym c.deref_mut.ensures.value)) c.of.ensures.held
          (ticks_one ghosts.gives c.args.now _ _ c.tick-tick.result c.deref_mut.result.now.client c.tick-tick.new.self.client c.number-in-Some.ensures c.tick-tick.ensures.0.0 c.tick-tick.ensures.0.1 c.ticked_of.ensures, c.tick-tick.ensures.1),
    )
