use Rattle.amqp_credit.proofs.GrantLemmas.{renews_by_rule, renewed_below_low, renewed_once}
use Rattle.amqp_credit.proofs.laws.law_of_renewals.Goals as goal

pub returns-clause-rule : goal.returns-clause-rule
returns-clause-rule c = renews_by_rule

pub returns-clause-below : goal.returns-clause-below
returns-clause-below c = renewed_below_low

pub returns-clause-once : goal.returns-clause-once
returns-clause-once c = renewed_once
