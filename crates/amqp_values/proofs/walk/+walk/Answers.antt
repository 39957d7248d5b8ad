use Rattle.std.proofs.Common.{sym, ◌∙◌, rules, arith, ◌<◌, ◌-◌, length, ◌≡◌, None, true, false}
use Rattle.amqp_values.specs.Walk.{value_of, data_of, elements_of, inside, under, constructor_of, may_hold}
use Rattle.amqp_values.specs.FormatClass.{class_of}
use Rattle.amqp_values.proofs.DepthBoundLemmas.{repeat_more, repeat_fails, repeat_done, run_is, under_none, under_more, dataless_run, constructor_fails, constructor_holds, constructor_holds_not, constructor_ground, constructor_value_fails, constructor_more, constructor_done, not_ground}
use Rattle.amqp_values.proofs.walk.+walk.Goals as goal

pub values-returns-in_err-rest : goal.values-returns-in_err-rest
values-returns-in_err-rest t c = rw c.from_residual.ensures (sym (repeat_fails (value_of (under c.args.depth)) c.args.count c.loop.counter c.loop.rest.now _ c.loop-test.true (sym c.in_err-rest.ensures) c.loop.invariant))

pub values-loop-preserved : goal.values-loop-preserved
values-loop-preserved t c = repeat_more (value_of (under c.args.depth)) c.args.count c.loop.counter c.loop.rest.now c.in_ok-rest.rest.now _ c.loop-test.true (sym c.in_ok-rest.ensures) c.loop.invariant

pub values-returns : goal.values-returns
values-returns t c = sym (repeat_done (value_of (under c.args.depth)) c.args.count c.loop.counter c.loop.rest.now _ c.loop-test.false c.loop.invariant)

pub run-returns-in_err-rest : goal.run-returns-in_err-rest
run-returns-in_err-rest t c = rw c.from_residual.ensures (sym (run_is (under c.args.depth) c.args.class c.args.count c.args.bytes.now
    ∙ repeat_fails (data_of (under c.args.depth) c.args.class) c.args.count c.loop.counter c.loop.rest.now _ c.loop-test.true (sym c.in_err-rest.ensures) c.loop.invariant))

pub run-loop-preserved : goal.run-loop-preserved
run-loop-preserved t c = repeat_more (data_of (under c.args.depth) c.args.class) c.args.count c.loop.counter c.loop.rest.now c.in_ok-rest.rest.now _ c.loop-test.true (sym c.in_ok-rest.ensures) c.loop.invariant

pub run-returns : goal.run-returns
run-returns t c = sym (run_is (under c.args.depth) c.args.class c.args.count c.args.bytes.now
    ∙ repeat_done (data_of (under c.args.depth) c.args.class) c.args.count c.loop.counter c.loop.rest.now _ c.loop-test.false c.loop.invariant)

pub compound-returns-then-depth-eq0 : goal.compound-returns-then-depth-eq0
unfolding inside
compound-returns-then-depth-eq0 t c = rw (under_none c.args.depth c.if-depth-eq0.true) (search rules)

pub compound-returns-in_err-left : goal.compound-returns-in_err-left
unfolding inside
compound-returns-in_err-left t c = let h : 0 < c.args.depth = omega arith in rw (under_more c.args.depth h) (search rules)

pub compound-returns-then-is_empty : goal.compound-returns-then-is_empty
unfolding inside
compound-returns-then-is_empty t c = let h : 0 < c.args.depth = omega arith in rw (under_more c.args.depth h) (search rules)

pub compound-returns-else-is_empty : goal.compound-returns-else-is_empty
unfolding inside
compound-returns-else-is_empty t c = let h : 0 < c.args.depth = omega arith in rw (under_more c.args.depth h) (search rules)

pub data-returns-in-List0 : goal.data-returns-in-List0
unfolding data_of
data-returns-in-List0 t c = rw (under_none c.args.depth c.if-depth-eq0.true) (search rules)

pub data-returns-in-List0-2 : goal.data-returns-in-List0-2
unfolding data_of
data-returns-in-List0-2 t c = let h : 0 < c.args.depth = omega arith in rw (under_more c.args.depth h) (search rules)

pub elements-returns-then-depth-eq0 : goal.elements-returns-then-depth-eq0
unfolding elements_of
elements-returns-then-depth-eq0 t c = rw (under_none c.args.depth c.if-depth-eq0.true) (search rules)

pub elements-returns-in_err-rest : goal.elements-returns-in_err-rest
unfolding elements_of
elements-returns-in_err-rest t c = let h : 0 < c.args.depth = omega arith in rw (under_more c.args.depth h) (search rules)

pub elements-returns : goal.elements-returns
unfolding elements_of
elements-returns t c = let h : 0 < c.args.depth = omega arith in rw (under_more c.args.depth h) (search rules)

pub value-returns-then-depth-eq0 : goal.value-returns-then-depth-eq0
unfolding value_of
value-returns-then-depth-eq0 t c = rw (under_none c.args.depth c.if-depth-eq0.true) (search rules)

pub value-returns-in_err-rest : goal.value-returns-in_err-rest
unfolding value_of
value-returns-in_err-rest t c = let h : 0 < c.args.depth = omega arith in rw (under_more c.args.depth h) (search rules)

pub value-returns : goal.value-returns
unfolding value_of
value-returns t c = let h : 0 < c.args.depth = omega arith in rw (under_more c.args.depth h) (search rules)

pub run-returns-then-is_dataless : goal.run-returns-then-is_dataless
run-returns-then-is_dataless t c = c.data.ensures ∙ sym (dataless_run (under c.args.depth) c.args.class c.args.count c.args.bytes.now c.requires (sym c.is_dataless.ensures ∙ c.if-is_dataless.true))

pub constructor-returns-in_err-code : goal.constructor-returns-in_err-code
constructor-returns-in_err-code t c = rw c.from_residual.ensures (sym (sym c.loop.invariant ∙ constructor_fails (under c.args.depth) (length c.args.bytes.now - c.loop.counter) c.loop.rest.now (sym c.in_err-code.ensures)))

pub constructor-returns-then-may_hold : goal.constructor-returns-then-may_hold
constructor-returns-then-may_hold t c =
    let m : may_hold (under c.args.depth) (class_of c.in_ok-code.code) ≡ true = rw c.class_at.ensures at (sym c.may_hold.ensures ∙ c.if-may_hold.true) in
    sym (sym c.loop.invariant ∙ constructor_holds (under c.args.depth) (length c.args.bytes.now - c.loop.counter) c.in_ok-code.code c.loop.rest.now c.in_ok-code.after.now (omega arith) (sym c.in_ok-code.ensures) c.if-code-ne0.true m)

pub constructor-returns-else-may_hold : goal.constructor-returns-else-may_hold
constructor-returns-else-may_hold t c =
    let m : may_hold (under c.args.depth) (class_of c.in_ok-code.code) ≡ false = rw c.class_at.ensures at (sym c.may_hold.ensures ∙ c.if-may_hold.false) in
    sym (sym c.loop.invariant ∙ constructor_holds_not (under c.args.depth) (length c.args.bytes.now - c.loop.counter) c.in_ok-code.code c.loop.rest.now c.in_ok-code.after.now (sym c.in_ok-code.ensures) c.if-code-ne0.true m)

pub constructor-returns-then-depth-eq0 : goal.constructor-returns-then-depth-eq0
constructor-returns-then-depth-eq0 t c =
    let g : constructor_of (under c.args.depth) (length c.args.bytes.now - c.loop.counter) c.loop.rest.now ≡ None = rw (under_none c.args.depth c.if-depth-eq0.true) (constructor_ground (length c.args.bytes.now - c.loop.counter) c.in_ok-code.code c.loop.rest.now c.in_ok-code.after.now (sym c.in_ok-code.ensures) c.if-code-ne0.false) in
    sym (sym c.loop.invariant ∙ g)

pub constructor-returns-in_err-rest : goal.constructor-returns-in_err-rest
constructor-returns-in_err-rest t c =
    rw c.from_residual-in_err-rest.ensures (sym (sym c.loop.invariant ∙ constructor_value_fails (under c.args.depth) (length c.args.bytes.now - c.loop.counter) c.in_ok-code.code c.loop.rest.now c.in_ok-code.after.now (sym c.in_ok-code.ensures) c.if-code-ne0.false (sym c.in_err-rest.ensures)))

pub constructor-loop-preserved : goal.constructor-loop-preserved
constructor-loop-preserved t c =
    constructor_more (under c.args.depth) (length c.args.bytes.now) c.loop.counter c.in_ok-code.code c.loop.rest.now c.in_ok-code.after.now c.in_ok-rest.rest.now c.loop-test.true (not_ground c.args.depth (omega arith)) (sym c.in_ok-code.ensures) c.if-code-ne0.false (sym c.in_ok-rest.ensures)
    ∙ c.loop.invariant

pub constructor-returns : goal.constructor-returns
constructor-returns t c = sym (sym c.loop.invariant ∙ constructor_done (under c.args.depth) (length c.args.bytes.now) c.loop.counter c.loop.rest.now c.loop-test.false)
