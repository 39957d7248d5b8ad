use Rattle.amqp_types.specs.Performatives.{performative_text}
use Rattle.amqp_types.proofs.PerformativeCanonicalLemmas.{performative_canonical}
use Rattle.amqp_types.proofs.CutTransferLemmas.{cut_spelled}
use Rattle.amqp_types.proofs.laws.text_is_read.Goals as goal

pub returns : goal.returns
returns c = record {
  spelled = performative_canonical c.args.performative.now c.performative.ensures;
  cut = cut_spelled c.args.performative.now c.performative.ensures;
  read = λ fits bytes rest r e reads. reads.only c.args.performative.now (performative_text c.args.performative.now) rest (performative_canonical c.args.performative.now c.performative.ensures fits) e;
}
