use Rattle.std.proofs.Common.{◌∙◌, sym, ap, Ok, Err, refl, [], ◌∷◌}
use Rattle.std.proofs.lemmas.List.{append-nil}
use Rattle.amqp_connection.specs.Connection.{refusal_of}
use Rattle.amqp_session.specs.History as session
use Rattle.amqp_session.specs.Items.{item_frames}
use Rattle.amqp_engine.specs.Waits.{sent}
use Rattle.amqp_engine.proofs.engine.sessions.flow_received.Goals as goal

pub returns-in-Ok : goal.returns-in-Ok
returns-in-Ok g c =
    let received = c.in-Ok.ensures.step in
    record {
      calls = session.TakesFlow c.args.flow received.0 (Ok c.in-Ok.item) ∷ [];
      asked = (received.0, Ok c.in-Ok.item, refl, c.requires.clear);
      steps = (c.on_incoming_flow.new.self.view, received.1, refl);
      handed_out = c.put_item.ensures ∙ sym (ap sent (append-nil (item_frames c.in-Ok.item)));
    }

pub returns-in-Err : goal.returns-in-Err
returns-in-Err g c =
    let received = c.in-Err.ensures.step in
    record {
      calls = session.TakesFlow c.args.flow received.0 (Err c.in-Err.error) ∷ [];
      asked = (received.0, Err c.in-Err.error, refl, ap refusal_of c.by_session.ensures);
      steps = (c.on_incoming_flow.new.self.view, received.1, refl);
      handed_out = c.requires.idle;
    }
