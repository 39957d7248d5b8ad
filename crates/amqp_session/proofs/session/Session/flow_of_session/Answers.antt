use Rattle.std.proofs.Common.{◌≡◌, ap, sym, ◌∙◌, true}
use Rattle.amqp_session.specs.States.{is_mapped}
use Rattle.amqp_session.specs.Sending.{moved}
use Rattle.amqp_session.specs.Session.{SessionModel}
use Rattle.amqp_session.proofs.FlowLemmas.{all_but_room, lets_some}
use Rattle.amqp_session.proofs.session.Session.flow_of_session.Goals as goal

pub returns-in_default-clause-none : goal.returns-in_default-clause-none
returns-in_default-clause-none g c =
    let mapped : is_mapped c.self.inside.state ≡ true = ap (λ (o : SessionModel _). is_mapped o.view.state) c.self.view_is ∙ sym c.can_send.ensures ∙ c.if-not-can_send.false in
    let some = rw c.ready_from-ready.ensures.value at c.in_default.ensures.wanted in
    rw (← c.self.view_is) (
      all_but_room _ _ _ c.in_default.ensures.rows c.in_default.ensures.reads,
      lets_some (is_mapped c.self.inside.state) c.self.inside.outgoing_channel.0 (moved c.self.inside.sending c.args.numbers.base c.args.numbers.incoming_window) mapped some,
      c.in_default.ensures.refused,
    )
