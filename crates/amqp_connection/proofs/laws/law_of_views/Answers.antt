use Rattle.amqp_connection.proofs.HistoryLemmas.{stands}
use Rattle.amqp_connection.proofs.OpenCloseCountLemmas.{one_each}
use Rattle.amqp_connection.proofs.laws.law_of_views.Goals as goal

pub returns-clause-stands : goal.returns-clause-stands
returns-clause-stands c = stands

pub returns-clause-one_each : goal.returns-clause-one_each
returns-clause-one_each c = one_each
