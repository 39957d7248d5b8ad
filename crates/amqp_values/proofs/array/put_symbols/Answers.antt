use Rattle.std.proofs.Common.{arith}
use Rattle.amqp_values.proofs.ArrayItemLemmas.{few_symbols}
use Rattle.amqp_values.proofs.array.put_symbols.Goals as goal

pub overflow_cast-count : goal.overflow_cast-count
overflow_cast-count c = omega (arith, few_symbols c.args.items.now, c.requires.fits)
