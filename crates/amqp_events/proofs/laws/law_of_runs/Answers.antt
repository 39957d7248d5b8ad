use Rattle.amqp_events.proofs.RunLemmas.{run_gives}
use Rattle.amqp_events.proofs.laws.law_of_runs.Goals as goal

pub returns : goal.returns
returns c = λ old new ts h. run_gives old new ts h
