use Rattle.std.proofs.Common.{refl, [], ◌∷◌}
use Rattle.amqp_session.specs.History as session
use Rattle.amqp_engine.proofs.engine.sessions.stop.Goals as goal

pub returns : goal.returns
returns g c = record {
  calls = session.RecordsStop c.args.reason ∷ [];
  asked = (refl, refl);
  steps = (c.set_session_stop_reason.new.self.view, c.set_session_stop_reason.ensures.step, refl);
  handed_out = refl;
}
