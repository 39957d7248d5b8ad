use Rattle.std.proofs.Common.{◌≡◌, ◌≤◌, ◌+◌, suc, length, subst, arith}
use Rattle.amqp_numbers.specs.Ranges.{IsUpper}
use Rattle.amqp_numbers.proofs.SearchLemmas.{apart_within, apart_above}
use Rattle.amqp_numbers.proofs.RangeLemmas.{upper_alone, upper_joined, upper_last}
use Rattle.amqp_numbers.proofs.joining.upper_end.Goals as goal

pub overflow_sub-after : goal.overflow_sub-after
overflow_sub-after c =
    let b = apart_above c.args.ranges.now.items c.args.number c.args.rank c.get-after.result.now c.requires.apart c.get-after.ensures.value in
    omega (arith, b)

pub returns-then-after-number-eq1 : goal.returns-then-after-number-eq1
returns-then-after-number-eq1 c =
    let rs = c.args.ranges.now.items in
    let a = c.get-after.result.now in
    let e : suc c.args.rank ≡ c.args.rank + 1 = omega arith in
    let b = apart_above rs c.args.number c.args.rank a c.requires.apart c.get-after.ensures.value in
    let n : a.first ≡ c.args.number + 1 = omega (arith, b, c.if-after-number-eq1.true) in
    record { upper = subst (λ k. IsUpper rs c.args.number c.args.rank k a.last) e (upper_joined rs c.args.number c.args.rank a c.requires.spaced c.get-after.ensures.value n) }

pub returns-else-after-number-eq1 : goal.returns-else-after-number-eq1
returns-else-after-number-eq1 c =
    let a = c.get-after.result.now in
    let b = apart_above c.args.ranges.now.items c.args.number c.args.rank a c.requires.apart c.get-after.ensures.value in
    let n : c.args.number + 2 ≤ a.first = omega (arith, b, c.if-after-number-eq1.false) in
    record { upper = upper_alone c.args.ranges.now.items c.args.number c.args.rank a c.ranges.number.fits c.requires.spaced c.get-after.ensures.value n }

pub returns-else-rank-len : goal.returns-else-rank-len
returns-else-rank-len c =
    let w = apart_within c.args.ranges.now.items c.args.number c.args.rank c.requires.apart in
    let e : c.args.rank ≡ length c.args.ranges.now.items = omega (arith, w, c.if-rank-len.false, c.len.ensures) in
    record { upper = upper_last c.args.ranges.now.items c.args.number c.args.rank c.ranges.number.fits e }
