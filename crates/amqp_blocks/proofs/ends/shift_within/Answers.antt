use Rattle.std.proofs.Common.{◌≡◌, ℕ, List, suc, ◌+◌, ◌-◌, ap, sym, ◌∙◌, arith, set, get_or}
use Rattle.amqp_blocks.specs.Inner.Shifted.{more, over}
use Rattle.amqp_blocks.proofs.ShiftLemmas.{over_more, over_none}
use Rattle.amqp_blocks.proofs.ends.shift_within.Goals as goal

pub loop-i-init : goal.loop-i-init
loop-i-init c =
    let none : 0 ≡ c.args.first - c.args.first = omega arith in
    sym (over_none c.args.first (more c.args.shift) c.args.ends.now) ∙ ap (λ n. over c.args.first n (more c.args.shift) c.args.ends.now) none

pub loop-i-preserved : goal.loop-i-preserved
loop-i-preserved c =
    let f = more c.args.shift in
    let xs = c.args.ends.now in
    let n = c.loop-i.i - c.args.first in
    let at : c.loop-i.i ≡ c.args.first + n = omega (arith, c.loop-i.auto.i) in
    let next : suc n ≡ c.loop-i.i + 1 - c.args.first = omega (arith, c.loop-i.auto.i) in
    ap (λ (zs : List ℕ). set zs c.loop-i.i (f (get_or zs c.loop-i.i 0))) c.loop-i.invariant
    ∙ over_more c.args.first n c.loop-i.i f 0 xs at (omega (arith, c.loop-i-test.true, c.requires.within))
    ∙ ap (λ k. over c.args.first k f xs) next

pub returns : goal.returns
returns c =
    let all : c.loop-i.i ≡ c.args.next = omega (arith, c.loop-i-test.false, c.loop-i.auto.i-end) in
    record { shifted = c.loop-i.invariant ∙ ap (λ k. over c.args.first (k - c.args.first) (more c.args.shift) c.args.ends.now) all }
