use Rattle.std.proofs.Common.{refl, [], ◌∷◌}
use Rattle.amqp_session.specs.History as session
use Rattle.amqp_engine.proofs.engine.sessions.send_flow.Goals as goal

pub returns : goal.returns
returns g c = record {
  calls = session.SendsFlow c.args.flow c.on_outgoing_flow.result ∷ [];
  asked = (c.on_outgoing_flow.result, refl, refl);
  steps = (c.args.session.now.view, c.on_outgoing_flow.ensures, refl);
  handed_out = c.put_frame.ensures;
}
