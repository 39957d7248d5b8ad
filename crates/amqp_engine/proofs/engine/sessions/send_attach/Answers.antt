use Rattle.std.proofs.Common.{refl, [], ◌∷◌}
use Rattle.amqp_session.specs.History as session
use Rattle.amqp_engine.proofs.engine.sessions.send_attach.Goals as goal

pub returns : goal.returns
returns g c = record {
  calls = session.SendsAttach c.args.attach c.on_outgoing_attach.result ∷ [];
  asked = (c.on_outgoing_attach.result, refl, refl);
  steps = (c.args.session.now.view, c.on_outgoing_attach.ensures, refl);
  handed_out = c.put_frame.ensures;
}
