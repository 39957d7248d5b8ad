use Rattle.std.proofs.Common.{rules, string_bytes, Ok, Err, refl, [], ◌∷◌}
use Rattle.amqp_session.specs.History as session
use Rattle.amqp_engine.proofs.engine.sessions.allocate_link.Goals as goal

pub returns : goal.returns
returns g c = record {
  calls = session.AllocatesLink (string_bytes c.args.name) c.args.relay (Ok c.in_ok-allocate_link.field-0) ∷ [];
  asked = (Ok c.in_ok-allocate_link.field-0, refl, refl);
  steps = (c.allocate_link.new.self.view, c.in_ok-allocate_link.ensures.step, refl);
  handed_out = refl;
}

pub returns-in_err-allocate_link : goal.returns-in_err-allocate_link
returns-in_err-allocate_link g c = record {
  calls = session.AllocatesLink (string_bytes c.args.name) c.args.relay (Err c.in_err-allocate_link.field-0.0) ∷ [];
  asked = (Err c.in_err-allocate_link.field-0.0, refl, search rules);
  steps = (c.allocate_link.new.self.view, c.in_err-allocate_link.ensures.step, refl);
  handed_out = refl;
}
