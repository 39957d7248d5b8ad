use Rattle.amqp_unsettled.proofs.HistoryLemmas.{stands}
use Rattle.amqp_unsettled.proofs.LawLemmas.{answers_by_history}
use Rattle.amqp_unsettled.proofs.laws.law_of_answers.Goals as goal

pub returns-clause-exact : goal.returns-clause-exact
returns-clause-exact c H t h = (stands H t h).exact

pub returns-clause-answers : goal.returns-clause-answers
returns-clause-answers c = answers_by_history
