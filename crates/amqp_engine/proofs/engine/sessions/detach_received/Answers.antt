use Rattle.std.proofs.Common.{ap, Some, None, false, Ok, refl, sym, subst, ◌∙◌, [], ◌∷◌}
use Rattle.std.proofs.lemmas.List.{append-nil}
use Rattle.amqp_session.specs.History as session
use Rattle.amqp_session.specs.Items.{first_frame}
use Rattle.amqp_session.specs.Linking.{TakeDetachStep}
use Rattle.amqp_engine.specs.Waits.{sent}
use Rattle.amqp_engine.proofs.engine.sessions.detach_received.Goals as goal

pub returns-in-None : goal.returns-in-None
returns-in-None g c =
    let received = c.in_ok-on_incoming_detach.ensures.step in
    let step = subst (λ answer. TakeDetachStep g.R.LinkRelay.gives.detach_gives c.args.session.now.view c.args.detach received.0 (Ok answer) c.on_incoming_detach.new.self.view) c.in-None.is received.1 in
    record {
      calls = session.TakesDetach c.args.detach received.0 (Ok None) ∷ [];
      asked = (received.0, Ok None, Ok None, refl, refl);
      steps = (c.on_incoming_detach.new.self.view, step, refl);
      handed_out = c.requires;
    }

pub returns-in_ok-on_outgoing_detach-in-Some : goal.returns-in_ok-on_outgoing_detach-in-Some
returns-in_ok-on_outgoing_detach-in-Some g c =
    let received = c.in_ok-on_incoming_detach.ensures.step in
    let out = c.in_ok-on_outgoing_detach-in-Some.field-0 in
    let step = subst (λ answer. TakeDetachStep g.R.LinkRelay.gives.detach_gives c.args.session.now.view c.args.detach received.0 (Ok answer) c.on_incoming_detach.new.self.view) c.in-Some.is received.1 in
    record {
      calls = session.TakesDetach c.args.detach received.0 (Ok (Some c.in-Some.answer)) ∷ session.SendsDetach c.in-Some.answer false (Ok out) ∷ [];
      asked = (received.0, Ok (Some c.in-Some.answer), Ok out, refl, refl);
      steps = (c.on_incoming_detach.new.self.view, step, (c.on_outgoing_detach.new.self.view, c.in_ok-on_outgoing_detach-in-Some.ensures.step, refl));
      handed_out = c.put_first.ensures ∙ sym (ap sent (append-nil (first_frame out)));
    }
