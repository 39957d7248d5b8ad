use Rattle.amqp_credit.proofs.GrantLemmas.{taken_within_grant, answers_by_history, count_is_exact}
use Rattle.amqp_credit.proofs.laws.law_of_receivers.Goals as goal

pub returns-clause-taken : goal.returns-clause-taken
returns-clause-taken c = taken_within_grant

pub returns-clause-answers : goal.returns-clause-answers
returns-clause-answers c = answers_by_history

pub returns-clause-count : goal.returns-clause-count
returns-clause-count c = count_is_exact
