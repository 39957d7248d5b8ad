use Rattle.std.proofs.Common.{sym}
use Rattle.amqp_numbers.proofs.SearchLemmas.{begins_at}
use Rattle.amqp_numbers.proofs.search.begins_at_or_before.Goals as goal

pub returns : goal.returns
returns c = sym (begins_at c.args.ranges.now.items c.args.rank c.args.number c.get.result.now c.get.ensures.value)
