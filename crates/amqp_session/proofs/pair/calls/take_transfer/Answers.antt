use Rattle.std.proofs.Common.{refl, Ok, Err}
use Rattle.amqp_session.proofs.pair.calls.take_transfer.Goals as goal

pub returns-in-Err : goal.returns-in-Err
returns-in-Err g c = record {
  asked = c.in-Err.ensures.step.0;
  reply = Err c.in-Err.error;
  counted = c.on_incoming_transfer.new.self.view;
  takes = c.in-Err.ensures.step.1;
  follows = (refl, refl);
  says = refl;
}

pub returns-in-Ok : goal.returns-in-Ok
returns-in-Ok g c = record {
  asked = c.in-Ok.ensures.step.0;
  reply = Ok c.in-Ok._reply;
  counted = c.on_incoming_transfer.new.self.view;
  takes = c.in-Ok.ensures.step.1;
  follows = (c.maybe_outgoing_session_flow.result, (c.maybe_outgoing_session_flow.ensures.step, c.put.ensures));
  says = refl;
}
