use Rattle.std.proofs.Common.{sym, ◌∙◌}
use Rattle.amqp_values.proofs.SymbolRunLemmas.{counted_more, counted_fails, counted_done, no_bytes}
use Rattle.amqp_values.proofs.symbols.is_run.Goals as goal

pub loop-preserved : goal.loop-preserved
loop-preserved c = counted_more c.args.count c.loop.counter c.args.long c.loop.rest.now _ c.in-Some.after.now c.loop-test.true (sym c.in-Some.ensures) ∙ c.loop.invariant

pub returns-in-None : goal.returns-in-None
returns-in-None c = sym (counted_fails c.args.count c.loop.counter c.args.long c.loop.rest.now c.loop-test.true (sym c.in-None.ensures)) ∙ c.loop.invariant

pub returns : goal.returns
returns c = sym (no_bytes c.loop.rest.now c.is_empty.result (sym c.is_empty.ensures)) ∙ sym (counted_done c.args.count c.loop.counter c.args.long c.loop.rest.now c.loop-test.false) ∙ c.loop.invariant
