use Rattle.amqp_idle.proofs.NextLemmas.{next_is_exact, answer_is_exact}
use Rattle.amqp_idle.proofs.laws.law_of_next.Goals as goal

pub returns-clause-tick : goal.returns-clause-tick
returns-clause-tick c = next_is_exact

pub returns-clause-question : goal.returns-clause-question
returns-clause-question c = answer_is_exact
