use Rattle.std.proofs.Common.{refl, [], ◌∷◌}
use Rattle.amqp_session.specs.History as session
use Rattle.amqp_engine.proofs.engine.sessions.send_disposition.Goals as goal

pub returns : goal.returns
returns g c =
    let sent = c.on_outgoing_disposition.ensures.step in
    record {
      calls = session.SendsDisposition c.args.disposition sent.0 c.on_outgoing_disposition.result ∷ [];
      asked = (sent.0, c.on_outgoing_disposition.result, refl, refl);
      steps = (c.on_outgoing_disposition.new.self.view, sent.1, refl);
      handed_out = c.put_frame.ensures;
    }
