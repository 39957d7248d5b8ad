use Rattle.amqp_driver.proofs.WantedLemmas.{by_number}
use Rattle.amqp_driver.proofs.laws.law_of_numbered_answers.Goals as goal

pub returns : goal.returns
returns g e = by_number e
