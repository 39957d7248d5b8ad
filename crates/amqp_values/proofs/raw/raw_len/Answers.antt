use Rattle.std.proofs.Common.{sym}
use Rattle.amqp_values.proofs.RawValueLemmas.{shorter}
use Rattle.amqp_values.proofs.raw.raw_len.Goals as goal

pub overflow_sub-result : goal.overflow_sub-result
overflow_sub-result c = shorter c.args.bytes.now c.in-Some.rest.now (sym c.in-Some.ensures)
