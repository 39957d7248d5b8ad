use Rattle.amqp_engine.specs.Legal.{Legal}
use Rattle.amqp_engine.proofs.BareHistoryLemmas.{apart}
use Rattle.amqp_engine.proofs.ViewLemmas.{stands}
use Rattle.amqp_engine.proofs.laws.law_of_views.Goals as goal

pub returns : goal.returns
unfolding Legal
returns g c = λ state o H w l. stands g.R.LinkRelay.gives c.law_of_views.ensures.stands state o H w (l.0, apart g.R.LinkRelay.gives H _ w l.1)
