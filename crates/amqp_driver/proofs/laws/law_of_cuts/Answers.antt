use Rattle.amqp_driver.proofs.CuttingLemmas.{cuts_well}
use Rattle.amqp_driver.proofs.laws.law_of_cuts.Goals as goal

pub returns : goal.returns
returns c = cuts_well
