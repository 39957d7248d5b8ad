use Rattle.amqp_links.proofs.ReceivingCreditLemmas.{none_told_before, told_within_grant}
use Rattle.amqp_links.proofs.laws.law_of_grants.Goals as goal

pub returns-clause-within : goal.returns-clause-within
returns-clause-within c = told_within_grant

pub returns-clause-none : goal.returns-clause-none
returns-clause-none c = none_told_before
