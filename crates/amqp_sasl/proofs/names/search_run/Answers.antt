use Rattle.std.proofs.Common.{sym, drop, arith}
use Rattle.amqp_values.proofs.WalkLemmas.{byte_is}
use Rattle.amqp_sasl.proofs.NameLemmas.{search_more, search_fails, search_done, search_left}
use Rattle.amqp_sasl.proofs.names.search_run.Goals as goal

pub returns-in-None : goal.returns-in-None
returns-in-None c = sym (search_fails _ c.args.name.now c.loop.found c.args.count c.loop.counter c.args.long (drop c.loop.at c.args.text.now) c.loop-test.true c.in-None.ensures.value c.loop.invariant.held)

pub loop-preserved : goal.loop-preserved
loop-preserved c = record {
  held = rw c.eq-found.ensures (search_more _ c.args.name.now c.loop.found c.args.count c.loop.counter c.args.long (drop c.loop.at c.args.text.now) _ _ c.loop-test.true c.in-Some.ensures.value c.loop.invariant.held);
  inside = c.in-Some.ensures.bound;
}

pub returns-then-at-text : goal.returns-then-at-text
returns-then-at-text c = sym (search_done _ c.args.name.now c.loop.found c.args.count c.loop.counter c.loop.at c.args.long c.args.text.now (omega (arith, c.loop-test.false)) c.if-at-text.true c.loop.invariant.held)

pub returns-else-at-text : goal.returns-else-at-text
returns-else-at-text c =
    sym (search_left _ c.args.name.now c.loop.found c.args.count c.loop.counter c.args.long _ (drop c.loop.at c.args.text.now) _ (omega (arith, c.loop-test.false)) (byte_is c.loop.at c.args.text.now (omega (arith, c.loop.invariant.inside, c.if-at-text.false))) c.loop.invariant.held)
