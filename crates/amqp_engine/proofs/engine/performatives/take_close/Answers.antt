use Rattle.std.proofs.Common.{◌∙◌, ap}
use Rattle.amqp_types.specs.Close.{CloseModel}
use Rattle.amqp_engine.specs.ByHistory.{remote_reason}
use Rattle.amqp_engine.proofs.RecordedStopLemmas.{recorded_so}
use Rattle.amqp_engine.proofs.engine.performatives.take_close.Goals as goal

pub returns : goal.returns
returns c = (
  c.on_incoming_close-answer.new.self,
  c.on_incoming_close-answer.ensures,
  recorded_so _ _ _ _ _ _ _ _ c.record.ensures c.local_state-before.ensures (c.reason_of-reason.ensures ∙ ap (λ (p : CloseModel). remote_reason p.error) c.close.view_is) c.on_incoming_close-answer.ensures,
)
