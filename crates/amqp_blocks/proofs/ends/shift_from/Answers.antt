use Rattle.std.proofs.Common.{ℕ, ◌-◌, ◌++◌, List, length, take, drop, map, ap, ◌∙◌, arith}
use Rattle.amqp_blocks.specs.Inner.Shifted.{more, shifted}
use Rattle.amqp_blocks.proofs.ShiftLemmas.{over_from, over_long, written, greater, long}
use Rattle.amqp_blocks.proofs.ends.shift_from.Goals as goal

pub returns-then-count-block-clause-from : goal.returns-then-count-block-clause-from
returns-then-count-block-clause-from c =
    let same = over_long c.args.block (c.len-count.result - c.args.block) (more c.args.by) c.args.written.now.items in
    omega (arith, ap length c.shift_written.ensures.shifted, same, c.requires.from)

pub returns-then-count-block-clause-shifted : goal.returns-then-count-block-clause-shifted
returns-then-count-block-clause-shifted c =
    let f = more c.args.by in
    let xs = c.args.written.now.items in
    let n = c.len-count.result - c.args.block in
    let same = long c.args.from c.args.shift xs in
    ap (shifted c.args.from c.args.shift) c.shift_written.ensures.shifted
    ∙ written c.args.from c.args.shift c.args.block n c.args.by xs
    ∙ over_from c.args.block n f (shifted c.args.from c.args.shift xs) (omega (arith, same, c.len-count.ensures, c.args.written.now.ok.0, c.requires.block))

pub returns-clause-shifted : goal.returns-clause-shifted
returns-clause-shifted c =
    greater c.args.block c.args.shift c.args.by c.move_shift.new.written.items
    ∙ ap (λ (ys : List ℕ). take c.args.block ys ++ map (more c.args.by) (drop c.args.block ys)) c.move_shift.ensures.same
