use Rattle.amqp_endpoints.proofs.HistoryLemmas.{have_histories}
use Rattle.amqp_endpoints.proofs.laws.law_of_endpoints.Goals as goal

pub returns : goal.returns
returns g c = have_histories _
