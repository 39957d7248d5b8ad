use Rattle.amqp_transport.proofs.RoundLawLemmas.{all_rounds_by_calls, writing_by_calls}
use Rattle.amqp_transport.proofs.laws.law_of_rounds.Goals as goal

pub returns : goal.returns
returns g c = record { rounds = all_rounds_by_calls g.R.LinkRelay.gives; writing = writing_by_calls g.R.LinkRelay.gives }
