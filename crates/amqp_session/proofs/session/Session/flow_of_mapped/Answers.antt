use Rattle.std.proofs.Common.{◌≡◌, ◌++◌, Option, Some, Ok, Err, refl, ap, ◌∙◌, subst, true}
use Rattle.amqp_session.specs.declared.frame.SessionFrame.{SessionFrame}
use Rattle.amqp_session.specs.Items.{HandsOut, is_some_list, first_frame}
use Rattle.amqp_session.specs.States.{is_mapped}
use Rattle.amqp_session.specs.Sending.{let_out, moved}
use Rattle.amqp_session.specs.Session.{SessionModel}
use Rattle.amqp_session.proofs.FlowLemmas.{all_but_room, lets_some, mapped_goes, parts_gone, room_taken}
use Rattle.amqp_session.proofs.session.Session.flow_of_mapped.Goals as goal

pub returns-in_default-clause-none : goal.returns-in_default-clause-none
returns-in_default-clause-none g c =
    let mapped : is_mapped c.self.inside.state ≡ true = ap (λ (o : SessionModel _). is_mapped o.view.state) c.self.view_is ∙ c.requires.mapped in
    let some = rw c.ready_from-ready.ensures.value at c.in_default.ensures.wanted in
    rw (← c.self.view_is) (
      all_but_room _ _ _ c.in_default.ensures.rows c.in_default.ensures.reads,
      lets_some (is_mapped c.self.inside.state) c.self.inside.outgoing_channel.0 (moved c.self.inside.sending c.args.numbers.base c.args.numbers.incoming_window) mapped some,
      c.in_default.ensures.refused,
    )

pub returns-in-Err-clause-step : goal.returns-in-Err-clause-step
returns-in-Err-clause-step g c =
    let a = c.in-Err.ensures in
    rw (← c.self.view_is, c.put.ensures.sending, c.put.ensures.receiving, a.put) (
      Some (record { before = a.before; handle = a.handle; asked = c.args.flow; answer = Err c.in-Err.error; after = a.after }),
      (refl, record { attached = a.attached; stands = a.stands }, (c.from.ensures, room_taken _ _ c.in-Ok.ensures.rows)),
    )

pub returns-in-Ok-ask_flow-clause-step : goal.returns-in-Ok-ask_flow-clause-step
returns-in-Ok-ask_flow-clause-step g c =
    let a = c.in-Ok-ask_flow.ensures in
    let mapped : is_mapped c.self.inside.state ≡ true = ap (λ (o : SessionModel _). is_mapped o.view.state) c.self.view_is ∙ c.requires.mapped in
    let out = subst (λ (f : Option SessionFrame). HandsOut (is_some_list (let_out c.self.inside.outgoing_channel.0 (moved c.self.inside.sending c.args.numbers.base c.args.numbers.incoming_window))) (first_frame f ++ let_out c.self.inside.outgoing_channel.0 (moved c.self.inside.sending c.args.numbers.base c.args.numbers.incoming_window)) c.emit_drained.result) (rw (c.put.ensures.sending, c.put.ensures.receiving) at c.echo-first.ensures) (rw (c.put.ensures.sending) at c.emit_drained.ensures.item) in
    rw (← c.self.view_is, c.put.ensures.receiving, a.put) (
      Some (record { before = a.before; handle = a.handle; asked = c.args.flow; answer = Ok c.in-Ok-ask_flow.echo; after = a.after }),
      (refl, record { attached = a.attached; stands = a.stands }, mapped_goes _ _ c.in-Ok-ask_flow.echo c.emit_drained.result mapped out (parts_gone _ _ _ _ (rw (c.put.ensures.sending) at c.emit_drained.ensures.sending) (rw (c.put.ensures.sending) at c.emit_drained.ensures.opened) c.in-Ok.ensures.rows)),
    )
