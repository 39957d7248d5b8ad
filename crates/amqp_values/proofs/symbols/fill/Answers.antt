use Rattle.std.proofs.Common.{Vec, Global, drop, arith}
use Rattle.amqp_values.specs.declared.symbol.Symbol.{Symbol}
use Rattle.amqp_values.specs.Symbols.{run_at}
use Rattle.amqp_values.proofs.SymbolRunLemmas.{run_more, run_failed, run_whole}
use Rattle.amqp_values.proofs.symbols.fill.Goals as goal

pub loop-preserved : goal.loop-preserved
loop-preserved c = record {
  read = rw c.push_reserved.ensures.items
      (run_more (run_at c.args.count c.args.long c.args.bytes.now) c.args.count c.loop.counter c.args.long (drop c.loop.at c.args.bytes.now) c.in-Ok.symbol (drop c.item.new.at c.args.bytes.now) c.loop.items.items c.loop-test.true c.in-Ok.ensures.value c.loop.invariant.read);
  inside = c.item.ensures.bound;
  room = omega (arith, c.push_reserved.ensures.len, c.push_reserved.ensures.capacity, c.loop.invariant.room, c.loop-test.true);
}

pub returns-in-Err-clause-value : goal.returns-in-Err-clause-value
returns-in-Err-clause-value c =
    run_failed {Y = Vec Symbol Global} (λ s. s) (λ v. v.items) c.in-Err.e (drop c.item.new.at c.args.bytes.now) (run_at c.args.count c.args.long c.args.bytes.now) c.args.count c.loop.counter c.args.long (drop c.loop.at c.args.bytes.now) c.loop.items.items c.loop-test.true c.in-Err.ensures.value c.loop.invariant.read

pub returns-clause-value : goal.returns-clause-value
returns-clause-value c =
    run_whole (run_at c.args.count c.args.long c.args.bytes.now) c.args.count c.loop.counter c.args.long (drop c.loop.at c.args.bytes.now) c.loop.items.items c.loop-test.false c.requires c.loop.invariant.read
