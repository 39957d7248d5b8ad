use Rattle.std.proofs.Common.{rules, Ok, Err, refl, subst, [], ◌∷◌}
use Rattle.amqp_session.specs.Step.{StopStep}
use Rattle.amqp_session.specs.History as session
use Rattle.amqp_engine.specs.Calls.{end_reason}
use Rattle.amqp_engine.proofs.engine.sessions.end.Goals as goal

pub returns : goal.returns
returns g c =
    let stops = subst (λ r. StopStep c.send_end.new.self.view r c.set_session_stop_reason.new.self.view) c.end_reason-reason.ensures c.set_session_stop_reason.ensures.step in
    record {
      calls = session.SendsEnd c.args.error (Ok c.in_ok-frame.frame) ∷ session.RecordsStop (end_reason c.args.error) ∷ [];
      asked = (Ok c.in_ok-frame.frame, refl, refl);
      steps = (c.send_end.new.self.view, c.in_ok-frame.ensures.step, (c.set_session_stop_reason.new.self.view, stops, refl));
      handed_out = c.put_frame.ensures;
    }

pub returns-in_err-frame : goal.returns-in_err-frame
returns-in_err-frame g c = record {
  calls = session.SendsEnd c.args.error (Err c.in_err-frame.field-0.0) ∷ [];
  asked = (Err c.in_err-frame.field-0.0, refl, search rules);
  steps = (c.send_end.new.self.view, c.in_err-frame.ensures.step, refl);
  handed_out = c.requires;
}
