use Rattle.amqp_driver.proofs.StreamLifeLemmas.{frames_come_after}
use Rattle.amqp_driver.proofs.laws.law_of_logins.Goals as goal

pub returns : goal.returns
returns g c = frames_come_after g.R.LinkRelay.gives c.opens_by_login.ensures
