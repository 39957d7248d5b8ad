use Rattle.amqp_connection.specs.Connection.{refusal_of}
use Rattle.amqp_engine.proofs.engine.Engine.note_first.Goals as goal
use Rattle.amqp_engine.proofs.engine.Engine.note_first.Goals.{in-Some-Received, in-Some-Transfer, in_default}

pub returns-clause-stepped : goal.returns-clause-stepped
returns-clause-stepped g c = (
  refusal_of c.match-front.outcome,
  elim c.match-front.branch [
    | in-Some-Received w ↦ rw (w.self-is, w.inputs-is, w.outcome-is) w.receive_first.ensures
    | in-Some-Transfer w ↦ rw (w.self-is, w.inputs-is, w.outcome-is) w.transfer_first.ensures
    | in_default w ↦ rw (w.self-is, w.inputs-is, w.outcome-is) w.step_first.ensures
  ],
  c.note.ensures.noted,
)
