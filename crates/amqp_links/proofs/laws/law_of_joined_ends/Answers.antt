use Rattle.amqp_links.proofs.JoinedLawLemmas.{none_refused, come_in_order, credit_is_kept, ends_agree}
use Rattle.amqp_links.proofs.laws.law_of_joined_ends.Goals as goal

pub returns-clause-refused : goal.returns-clause-refused
returns-clause-refused c = none_refused

pub returns-clause-order : goal.returns-clause-order
returns-clause-order c = come_in_order

pub returns-clause-kept : goal.returns-clause-kept
returns-clause-kept c = credit_is_kept

pub returns-clause-agree : goal.returns-clause-agree
returns-clause-agree c = ends_agree
