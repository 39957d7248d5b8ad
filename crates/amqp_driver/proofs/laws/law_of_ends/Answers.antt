use Rattle.amqp_driver.proofs.StreamTimeLemmas.{stays_over}
use Rattle.amqp_driver.proofs.laws.law_of_ends.Goals as goal

pub returns : goal.returns
returns g c = stays_over g.R.LinkRelay.gives
