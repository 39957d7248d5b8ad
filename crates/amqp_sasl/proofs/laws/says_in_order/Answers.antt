use Rattle.amqp_sasl.proofs.TalkLemmas as lemma
use Rattle.amqp_sasl.proofs.laws.says_in_order.Goals as goal

pub returns : goal.returns
returns c = lemma.says_in_order
