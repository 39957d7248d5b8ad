use Rattle.std.proofs.Common.{sym}
use Rattle.amqp_values.proofs.RawValueLemmas.{shorter}
use Rattle.amqp_values.proofs.value.front.Goals as goal

pub overflow_sub-bytes : goal.overflow_sub-bytes
overflow_sub-bytes c = shorter c.args.bytes.now c.in_ok-rest.rest.now (sym c.in_ok-rest.ensures)
