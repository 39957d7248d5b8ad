use Rattle.std.proofs.Common.{rules, Ok, Err, refl, [], ◌∷◌}
use Rattle.amqp_session.specs.History as session
use Rattle.amqp_engine.proofs.engine.sessions.begin_received.Goals as goal

pub returns : goal.returns
returns g c = record {
  calls = session.TakesBegin c.args.channel.0 c.args.begin (Ok tt) ∷ [];
  asked = (Ok tt, refl, refl);
  steps = (c.on_incoming_begin.new.self.view, c.in_ok-on_incoming_begin.ensures.step, refl);
  handed_out = refl;
}

pub returns-in_err-on_incoming_begin : goal.returns-in_err-on_incoming_begin
returns-in_err-on_incoming_begin g c = record {
  calls = session.TakesBegin c.args.channel.0 c.args.begin (Err c.in_err-on_incoming_begin.field-0.0) ∷ [];
  asked = (Err c.in_err-on_incoming_begin.field-0.0, refl, search rules);
  steps = (c.on_incoming_begin.new.self.view, c.in_err-on_incoming_begin.ensures.step, refl);
  handed_out = refl;
}
