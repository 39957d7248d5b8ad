use Rattle.std.proofs.Common.{◌∙◌, sym, ap, Ok, Err, refl, [], ◌∷◌}
use Rattle.std.proofs.lemmas.List.{append-nil}
use Rattle.amqp_connection.specs.Connection.{refusal_of}
use Rattle.amqp_session.specs.History as session
use Rattle.amqp_session.specs.Items.{item_frames}
use Rattle.amqp_engine.specs.Waits.{sent}
use Rattle.amqp_engine.proofs.engine.sessions.flow_received_if_room.Goals as goal

pub returns-in-None-clause-not_done : goal.returns-in-None-clause-not_done
returns-in-None-clause-not_done g c = λ e. (c.in-None.ensures.none.0, refl, c.in-None.ensures.none.1.2)

pub returns-in-Some-Ok-clause-done : goal.returns-in-Some-Ok-clause-done
returns-in-Some-Ok-clause-done g c = λ e.
    let received = rw c.in-Some-Ok.field-0-is at c.in-Some-Ok.ensures.step in
    record {
      calls = session.TakesFlow c.args.flow received.0 (Ok c.in-Some-Ok.item) ∷ [];
      asked = (received.0, Ok c.in-Some-Ok.item, refl, c.requires.clear);
      steps = (c.on_incoming_flow_if_room.new.self.view, received.1, refl);
      handed_out = c.put_item.ensures ∙ sym (ap sent (append-nil (item_frames c.in-Some-Ok.item)));
    }

pub returns-in-Some-Err-clause-done : goal.returns-in-Some-Err-clause-done
returns-in-Some-Err-clause-done g c = λ e.
    let received = rw c.in-Some-Err.field-0-is at c.in-Some-Err.ensures.step in
    record {
      calls = session.TakesFlow c.args.flow received.0 (Err c.in-Some-Err.error) ∷ [];
      asked = (received.0, Err c.in-Some-Err.error, refl, ap refusal_of c.by_session.ensures);
      steps = (c.on_incoming_flow_if_room.new.self.view, received.1, refl);
      handed_out = c.requires.idle;
    }

pub returns-in-Some-Err-clause-memory : goal.returns-in-Some-Err-clause-memory
returns-in-Some-Err-clause-memory g c = λ e. rw c.by_session.ensures (rw c.in-Some-Err.field-0-is at c.in-Some-Err.ensures.memory)
