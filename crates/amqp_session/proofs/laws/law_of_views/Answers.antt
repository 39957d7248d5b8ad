use Rattle.amqp_session.proofs.SessionViewLemmas.{stands_law, headline_law}
use Rattle.amqp_session.proofs.laws.law_of_views.Goals as goal

pub returns : goal.returns
returns g c =
    let all = g.R.LinkRelay.gives in
    record { stands = stands_law all; headline = headline_law all }
