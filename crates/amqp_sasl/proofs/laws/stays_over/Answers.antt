use Rattle.amqp_sasl.proofs.TalkLemmas as lemma
use Rattle.amqp_sasl.proofs.laws.stays_over.Goals as goal

pub returns : goal.returns
returns c = lemma.stays_over
