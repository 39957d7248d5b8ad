use Rattle.std.proofs.Common.{ap, Ok, refl, sym, ◌∙◌, [], ◌∷◌}
use Rattle.std.proofs.lemmas.List.{append-nil}
use Rattle.amqp_session.specs.History as session
use Rattle.amqp_session.specs.Items.{first_frame}
use Rattle.amqp_engine.specs.Waits.{sent}
use Rattle.amqp_engine.proofs.engine.sessions.send_detach.Goals as goal

pub returns : goal.returns
returns g c = record {
  calls = session.SendsDetach c.args.detach c.args.expects_echo (Ok c.in_ok-on_outgoing_detach.field-0) ∷ [];
  asked = (Ok c.in_ok-on_outgoing_detach.field-0, refl, refl);
  steps = (c.on_outgoing_detach.new.self.view, c.in_ok-on_outgoing_detach.ensures.step, refl);
  handed_out = c.put_first.ensures ∙ sym (ap sent (append-nil (first_frame c.in_ok-on_outgoing_detach.field-0)));
}

pub returns-in_err-on_outgoing_detach : goal.returns-in_err-on_outgoing_detach
returns-in_err-on_outgoing_detach g c = absurd c.in_err-on_outgoing_detach.ensures.step
