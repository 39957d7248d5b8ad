use Rattle.std.proofs.Common.{◌≡◌, ◌≤◌, ◌+◌, ◌-◌, suc, sym, subst, arith}
use Rattle.amqp_numbers.specs.Ranges.{IsApart, IsLower}
use Rattle.amqp_numbers.proofs.SearchLemmas.{apart_within, apart_below}
use Rattle.amqp_numbers.proofs.RangeLemmas.{lower_alone, lower_joined}
use Rattle.amqp_numbers.proofs.joining.lower_end.Goals as goal

pub get-before-requires : goal.get-before-requires
get-before-requires c = let w = apart_within c.args.ranges.now.items c.args.number c.args.rank c.requires.apart in record { within = omega (arith, w, c.if-rank-gt0.true) }

pub overflow_sub-number : goal.overflow_sub-number
overflow_sub-number c =
    let rs = c.args.ranges.now.items in
    let e : c.args.rank ≡ suc (c.args.rank - 1) = omega (arith, c.if-rank-gt0.true) in
    let b = apart_below rs c.args.number (c.args.rank - 1) c.get-before.result.now (subst (λ k. IsApart rs c.args.number k) e c.requires.apart) c.get-before.ensures.value in
    omega (arith, b)

pub returns-then-number-before-eq1 : goal.returns-then-number-before-eq1
returns-then-number-before-eq1 c =
    let rs = c.args.ranges.now.items in
    let a = c.get-before.result.now in
    let e : suc (c.args.rank - 1) ≡ c.args.rank = omega (arith, c.if-rank-gt0.true) in
    let n : c.args.number ≡ a.last + 1 = omega (arith, c.if-number-before-eq1.true) in
    record { lower = subst (λ k. IsLower rs c.args.number k (c.args.rank - 1) a.first) e (lower_joined rs c.args.number (c.args.rank - 1) a c.requires.spaced c.get-before.ensures.value n) }

pub returns-else-number-before-eq1 : goal.returns-else-number-before-eq1
returns-else-number-before-eq1 c =
    let rs = c.args.ranges.now.items in
    let a = c.get-before.result.now in
    let e : c.args.rank ≡ suc (c.args.rank - 1) = omega (arith, c.if-rank-gt0.true) in
    let b = apart_below rs c.args.number (c.args.rank - 1) a (subst (λ k. IsApart rs c.args.number k) e c.requires.apart) c.get-before.ensures.value in
    let n : a.last + 2 ≤ c.args.number = omega (arith, b, c.if-number-before-eq1.false) in
    record { lower = subst (λ k. IsLower rs c.args.number k k c.args.number) (sym e) (lower_alone rs c.args.number (c.args.rank - 1) a c.requires.spaced c.get-before.ensures.value n) }
