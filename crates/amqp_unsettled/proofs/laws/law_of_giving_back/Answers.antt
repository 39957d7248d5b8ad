use Rattle.amqp_unsettled.proofs.HistoryLemmas.{stands}
use Rattle.amqp_unsettled.proofs.LawLemmas.{given_once, given_as_asked}
use Rattle.amqp_unsettled.proofs.laws.law_of_giving_back.Goals as goal

pub returns-clause-once : goal.returns-clause-once
returns-clause-once c = given_once

pub returns-clause-asked : goal.returns-clause-asked
returns-clause-asked c = given_as_asked

pub returns-clause-in_all : goal.returns-clause-in_all
returns-clause-in_all c H t h = (stands H t h).in_all
