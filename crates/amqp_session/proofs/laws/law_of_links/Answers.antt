use Rattle.amqp_session.proofs.LinkHistoryLemmas.{links_agree, shown_agree, handles_meet, awaited_once}
use Rattle.amqp_session.proofs.laws.law_of_links.Goals as goal

pub returns : goal.returns
returns g c =
    let all = g.R.LinkRelay.gives in
    record { history = links_agree all; shown = shown_agree all; meet = handles_meet all; awaited_once = awaited_once all }
