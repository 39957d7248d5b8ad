use Rattle.amqp_credit.proofs.HalvesLemmas.{refuses, takes}
use Rattle.amqp_credit.proofs.laws.law_of_halves.Goals as goal

pub returns-clause-take : goal.returns-clause-take
returns-clause-take c = takes

pub returns-clause-refuse : goal.returns-clause-refuse
returns-clause-refuse c = refuses
