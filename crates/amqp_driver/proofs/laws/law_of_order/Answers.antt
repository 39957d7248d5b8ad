use Rattle.amqp_driver.proofs.StreamOutLemmas.{sends_in_order}
use Rattle.amqp_driver.proofs.laws.law_of_order.Goals as goal

pub returns : goal.returns
returns g c = sends_in_order g.R.LinkRelay.gives
