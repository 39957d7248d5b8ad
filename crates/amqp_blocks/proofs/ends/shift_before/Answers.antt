use Rattle.std.proofs.Common.{◌≡◌, ◌-◌, length, ap, ◌∙◌, arith}
use Rattle.amqp_blocks.specs.Inner.Shifted.{more, shifted, over}
use Rattle.amqp_blocks.proofs.ShiftLemmas.{over_to, over_long, written}
use Rattle.amqp_blocks.proofs.ends.shift_before.Goals as goal

pub returns-clause-shifted : goal.returns-clause-shifted
returns-clause-shifted c =
    let f = more c.args.by in
    let xs = c.args.written.now.items in
    let whole : c.args.block - 0 ≡ c.args.block = omega arith in
    ap (shifted c.args.from c.args.shift) (c.shift_written.ensures.shifted ∙ ap (λ n. over 0 n f xs) whole)
    ∙ written c.args.from c.args.shift 0 c.args.block c.args.by xs
    ∙ over_to c.args.block f (shifted c.args.from c.args.shift xs)

pub returns-clause-count : goal.returns-clause-count
returns-clause-count c = ap length c.shift_written.ensures.shifted ∙ over_long 0 (c.args.block - 0) (more c.args.by) c.args.written.now.items
