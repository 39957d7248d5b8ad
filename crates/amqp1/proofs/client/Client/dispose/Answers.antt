use Rattle.std.proofs.Common.{inl, inr, refl, sym, ◌∙◌}
use Rattle.amqp_driver.specs.contracts.plain.PlainRelayLinkRelay.TheImpl.{ghosts}
use Rattle.amqp_driver.specs.Settling.{state_of}
use Rattle.amqp_driver.specs.Stream.{is_over}
use Rattle.amqp1.specs.ClientView.{ClientView}
use Rattle.amqp1.proofs.RequestLemmas.{answered, disposed, not_disposed}
use Rattle.amqp1.proofs.client.Client.dispose.Goals as goal

pub returns-in_default : goal.returns-in_default
returns-in_default c = inl (refl, refl, λ i a. c.in_default.ensures a.0 a.2)

pub returns-then-not-has_state : goal.returns-then-not-has_state
returns-then-not-has_state c = inl (refl, refl, not_disposed _ _ c.in-Some.ensures (sym c.has_state.ensures ∙ c.if-not-has_state.true))

pub returns-in-Some-answer : goal.returns-in-Some-answer
returns-in-Some-answer c = rw (← c.self.view_is) (
    let was : ClientView = record { stream = c.self.inside.stream; last = c.self.inside.last } in
    inr (disposed ghosts.gives was _ c.in-Some.asked (state_of c.in-Some.asked.outcome) c.dispose-answer.result c.in-Some-answer.answer
    c.dispose-answer.new.self _ _ c.in-Some.ensures refl (sym c.has_state.ensures ∙ c.if-not-has_state.false)
    c.dispose-answer.ensures c.in-Some-answer.is c.note.ensures.status c.note.ensures.noted))

pub returns-in-None : goal.returns-in-None
returns-in-None c = absurd (answered (is_over c.self.inside.stream) ghosts.gives c.self.inside.stream c.dispose-answer.new.self c.in-Some.asked
    (state_of c.in-Some.asked.outcome) c.dispose-answer.result (sym c.has_state.ensures ∙ c.if-not-has_state.false) c.dispose-answer.ensures c.in-None.is)
