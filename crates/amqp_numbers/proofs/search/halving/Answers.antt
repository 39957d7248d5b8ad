use Rattle.std.proofs.Common.{◌≡◌, ℕ, suc, ◌-◌, subst, arith, length, true, false, ◌<◌}
use Rattle.amqp_numbers.specs.Ranges.{begins_by}
use Rattle.amqp_numbers.proofs.SearchLemmas.{rank_is}
use Rattle.amqp_numbers.proofs.search.halving.Goals as goal

pub returns : goal.returns
returns c =
    let i = c.loop-low.invariant in
    let rs = c.args.ranges.now.items in
    let same : c.loop-low.high ≡ c.loop-low.low = omega (arith, i.order, c.loop-low-test.false) in
    let after = subst (λ k. k < length rs → begins_by rs k c.args.number ≡ false) same i.after in
    let before : (j : ℕ) → c.loop-low.low ≡ suc j → begins_by rs j c.args.number ≡ true =
    (λ j e. let k : c.loop-low.low - 1 ≡ j = omega (arith, e) in subst (λ k. begins_by rs k c.args.number ≡ true) k (i.before (omega (arith, e)))) in
    record { rank = rank_is rs 0 c.loop-low.low c.args.number c.requires.spaced (omega (arith, same, i.within)) before after }
