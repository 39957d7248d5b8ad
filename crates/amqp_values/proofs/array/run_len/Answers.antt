use Rattle.std.proofs.Common.{length, take, ap, arith}
use Rattle.std.proofs.lemmas.List.{length-append}
use Rattle.amqp_values.specs.Writing.{item_text, run_text}
use Rattle.amqp_values.proofs.WrittenPartLemmas.{joined_more}
use Rattle.amqp_values.proofs.array.run_len.Goals as goal

pub loop-symbol-preserved : goal.loop-symbol-preserved
loop-symbol-preserved c =
    let xs = c.args.items.now in
    let i = c.loop-symbol.symbol-index in
    let s = c.symbol-item.result in
    let m = joined_more (item_text c.args.long) xs i s c.loop-symbol-test.true c.symbol-item.is in
    record {
      total_is = omega (arith, ap length m, length-append (run_text c.args.long (take i xs)) (item_text c.args.long s), c.item_len-total.ensures.value, c.loop-symbol.invariant.total_is);
      total_small = omega (arith, c.item_len-total.ensures.small, c.loop-symbol.invariant.total_small);
    }

pub overflow_add-total : goal.overflow_add-total
overflow_add-total c = omega (arith, c.item_len-total.ensures.small, c.loop-symbol.invariant.total_small)
