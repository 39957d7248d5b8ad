use Rattle.amqp_sasl.proofs.TalkLemmas as lemma
use Rattle.amqp_sasl.proofs.laws.opens_by_login.Goals as goal

pub returns : goal.returns
returns c = lemma.opens_by_login
