use Rattle.std.proofs.Common.{rules, string_bytes, Ok, Err, refl, [], ◌∷◌}
use Rattle.amqp_session.specs.History as session
use Rattle.amqp_engine.proofs.engine.sessions.allocate_incoming_link.Goals as goal

pub returns : goal.returns
returns g c = record {
  calls = session.AllocatesIncomingLink (string_bytes c.args.name) c.args.relay c.args.input (Ok c.in_ok-allocate_incoming_link.field-0) ∷ [];
  asked = (Ok c.in_ok-allocate_incoming_link.field-0, refl, refl);
  steps = (c.allocate_incoming_link.new.self.view, c.in_ok-allocate_incoming_link.ensures.step, refl);
  handed_out = refl;
}

pub returns-in_err-allocate_incoming_link : goal.returns-in_err-allocate_incoming_link
returns-in_err-allocate_incoming_link g c = record {
  calls = session.AllocatesIncomingLink (string_bytes c.args.name) c.args.relay c.args.input (Err c.in_err-allocate_incoming_link.field-0.0) ∷ [];
  asked = (Err c.in_err-allocate_incoming_link.field-0.0, refl, search rules);
  steps = (c.allocate_incoming_link.new.self.view, c.in_err-allocate_incoming_link.ensures.step, refl);
  handed_out = refl;
}
