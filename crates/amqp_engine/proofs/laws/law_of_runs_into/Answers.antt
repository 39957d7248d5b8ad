use Rattle.amqp_engine.proofs.TwoRunsLemmas.{runs_into}
use Rattle.amqp_engine.proofs.laws.law_of_runs_into.Goals as goal

pub returns : goal.returns
returns g c = runs_into g.R.LinkRelay.gives c.law_of_two_runs.ensures
