use Rattle.amqp_driver.proofs.StreamTimeLemmas.{time_is_told}
use Rattle.amqp_driver.proofs.laws.law_of_time.Goals as goal

pub returns : goal.returns
returns g c = time_is_told g.R.LinkRelay.gives
