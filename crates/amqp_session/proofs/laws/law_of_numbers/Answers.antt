use Rattle.amqp_session.proofs.NumberLemmas.{known_law, shown_law}
use Rattle.amqp_session.proofs.laws.law_of_numbers.Goals as goal

pub returns : goal.returns
returns g c =
    let all = g.R.LinkRelay.gives in
    record { known = known_law all; shown = shown_law all }
