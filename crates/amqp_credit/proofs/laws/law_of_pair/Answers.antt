use Rattle.amqp_credit.proofs.PairLawLemmas.{none_refused, credit_is_kept, ends_agree}
use Rattle.amqp_credit.proofs.laws.law_of_pair.Goals as goal

pub returns-clause-refused : goal.returns-clause-refused
returns-clause-refused c = none_refused

pub returns-clause-kept : goal.returns-clause-kept
returns-clause-kept c = credit_is_kept

pub returns-clause-agree : goal.returns-clause-agree
returns-clause-agree c = ends_agree
