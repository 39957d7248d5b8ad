use Rattle.amqp_sasl.proofs.WriteLemmas as lemma
use Rattle.amqp_sasl.proofs.laws.written_is_frame.Goals as goal

pub returns : goal.returns
returns c = lemma.written_is_frame
