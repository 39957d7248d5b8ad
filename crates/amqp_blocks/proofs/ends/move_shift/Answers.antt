use Rattle.std.proofs.Common.{◌+◌, ◌-◌, ◌^◌, ◌%◌, length, ap, ◌∙◌, arith}
use Rattle.amqp_blocks.specs.Inner.Shifted.{more, shifted}
use Rattle.amqp_blocks.proofs.ShiftLemmas.{undone, over_long, later, earlier}
use Rattle.amqp_blocks.proofs.ends.move_shift.Goals as goal

pub returns-then-to-from-clause-same : goal.returns-then-to-from-clause-same
returns-then-to-from-clause-same c =
    let n = c.args.from - c.args.to in
    let t = (0 + (2 ^ 64 - c.args.shift)) % 2 ^ 64 in
    ap (shifted c.args.to c.args.shift) c.shift_written.ensures.shifted
    ∙ earlier c.args.to n c.args.from c.args.shift t c.args.written.now.items (omega (arith, c.if-to-from.true)) (undone c.args.shift (omega (arith, c.ranges.shift)))

pub returns-then-to-from-clause-count : goal.returns-then-to-from-clause-count
returns-then-to-from-clause-count c = ap length c.shift_written.ensures.shifted ∙ over_long c.args.to (c.args.from - c.args.to) (more ((0 + (2 ^ 64 - c.args.shift)) % 2 ^ 64)) c.args.written.now.items

pub returns-else-to-from-clause-same : goal.returns-else-to-from-clause-same
returns-else-to-from-clause-same c =
    ap (shifted c.args.to c.args.shift) c.shift_written-else-to-from.ensures.shifted
    ∙ later c.args.from (c.args.to - c.args.from) c.args.to c.args.shift c.args.written.now.items (omega (arith, c.if-to-from.false))

pub returns-else-to-from-clause-count : goal.returns-else-to-from-clause-count
returns-else-to-from-clause-count c = ap length c.shift_written-else-to-from.ensures.shifted ∙ over_long c.args.from (c.args.to - c.args.from) (more c.args.shift) c.args.written.now.items
