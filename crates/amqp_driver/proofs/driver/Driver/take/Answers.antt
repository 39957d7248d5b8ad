use Rattle.std.proofs.Common.{lit<}
use Rattle.amqp_driver.proofs.TakingLemmas.{seen_below}
use Rattle.amqp_driver.proofs.driver.Driver.take.Goals as goal

pub take_within-requires : goal.take_within-requires
take_within-requires g c = seen_below c.args.input.now c.seen.result.now 4294967295 4294967296 c.seen.ensures (lit< tt)
