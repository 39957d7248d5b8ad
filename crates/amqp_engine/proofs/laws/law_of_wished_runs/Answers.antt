use Rattle.amqp_engine.proofs.RunLemmas.{wished_runs}
use Rattle.amqp_engine.proofs.laws.law_of_wished_runs.Goals as goal

pub returns : goal.returns
returns g c = wished_runs g.R.LinkRelay.gives c.law_of_histories.ensures c.law_of_views.ensures
