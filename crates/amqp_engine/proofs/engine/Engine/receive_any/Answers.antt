use Rattle.amqp_types.specs.declared.performatives.kind.Kind.TheVariants as kind
use Rattle.amqp_engine.proofs.ReceivedFieldsLemmas.{fields_kept}
use Rattle.amqp_engine.proofs.engine.Engine.receive_any.Goals as goal
use Rattle.amqp_engine.proofs.engine.Engine.receive_any.Goals.{in-Attach, in-Detach, in-Begin, in-End, in-Open, in-Close}

pub returns-in-Transfer : goal.returns-in-Transfer
returns-in-Transfer g c = rw c.in-Transfer.is (fields_kept g.R.LinkRelay.gives kind.Transfer tt c.args.self.now c.receive_transfer.new.self c.args.channel.0 c.args.fields _ c.receive_transfer.ensures)

pub returns-in-Disposition : goal.returns-in-Disposition
returns-in-Disposition g c = rw c.in-Disposition.is (fields_kept g.R.LinkRelay.gives kind.Disposition tt c.args.self.now c.receive_disposition.new.self c.args.channel.0 c.args.fields _ c.receive_disposition.ensures)

pub returns-in-Flow : goal.returns-in-Flow
returns-in-Flow g c = rw c.in-Flow.is (fields_kept g.R.LinkRelay.gives kind.Flow tt c.args.self.now c.receive_flow.new.self c.args.channel.0 c.args.fields _ c.receive_flow.ensures)

pub returns : goal.returns
returns g c = elim c.match-kind.branch [
  | in-Attach w ↦ rw (w.self-is, w.answer-is, w.in-Attach.is) (fields_kept g.R.LinkRelay.gives kind.Attach tt c.args.self.now w.receive_attach-answer.new.self c.args.channel.0 c.args.fields _ w.receive_attach-answer.ensures)
  | in-Detach w ↦ rw (w.self-is, w.answer-is, w.in-Detach.is) (fields_kept g.R.LinkRelay.gives kind.Detach tt c.args.self.now w.receive_detach-answer.new.self c.args.channel.0 c.args.fields _ w.receive_detach-answer.ensures)
  | in-Begin w ↦ rw (w.self-is, w.answer-is, w.in-Begin.is) (fields_kept g.R.LinkRelay.gives kind.Begin tt c.args.self.now w.receive_begin-answer.new.self c.args.channel.0 c.args.fields _ w.receive_begin-answer.ensures)
  | in-End w ↦ rw (w.self-is, w.answer-is, w.in-End.is) w.receive_end-answer.ensures
  | in-Open w ↦ rw (w.self-is, w.answer-is, w.in-Open.is) (fields_kept g.R.LinkRelay.gives kind.Open tt c.args.self.now w.receive_open-answer.new.self c.args.channel.0 c.args.fields _ w.receive_open-answer.ensures)
  | in-Close w ↦ rw (w.self-is, w.answer-is, w.in-Close.is) w.receive_close-answer.ensures
]
