use Rattle.amqp_types.proofs.PerformativeLemmas.{lists_read}
use Rattle.amqp_types.proofs.laws.lists_are_read.Goals as goal

pub returns : goal.returns
returns c = lists_read
