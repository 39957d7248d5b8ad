use Rattle.amqp_unsettled.proofs.HistoryLemmas.{stands}
use Rattle.amqp_unsettled.proofs.laws.law_of_order.Goals as goal

pub returns : goal.returns
returns c H t h = (stands H t h).order
