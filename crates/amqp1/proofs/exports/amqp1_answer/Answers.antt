-- `amqp1_answer` where something lies: it is what was taken out, and what is put back.
use Rattle.std.proofs.Common.{sym, subst, ap, ◌∙◌, ℕ, ◌<◌, Some, lit<}
use Rattle.amqp_driver.specs.contracts.plain.PlainRelayLinkRelay.TheImpl.{ghosts}
use Rattle.amqp1.proofs.PlaceLemmas.{answers_one, lies_again, of_some}
use Rattle.amqp1.proofs.exports.amqp1_answer.Goals as goal

pub returns-in-Some-clause-answered : goal.returns-in-Some-clause-answered
returns-in-Some-clause-answered c = λ h.
    let same = c.replace-old.ensures.value in
    let lay = of_some _ _ _ c.in-Some.is (c.into_occupant.ensures.some (subst (λ p. 0 < p.full) (sym same) h)) in (
      subst (λ (n : ℕ). 0 < n) (sym c.of.ensures.full) (lit< tt),
      lies_again _ _ _ _ _ (ap (λ p. p.slot.held) (sym same) ∙ lay ∙ ap Some (sym c.deref_mut.ensures.value)) c.of.ensures.held
          (answers_one ghosts.gives c.args.flags c.args.number c.args.«record».now c.args.input.now _ c.answer-status.result c.deref_mut.result.now.client c.answer-status.new.self.client c.number-in-Some.ensures c.answer-status.ensures.0, c.answer-status.ensures.1),
    )
