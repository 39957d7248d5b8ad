use Rattle.std.proofs.Common.{ap, sym, ◌∙◌}
use Rattle.std.proofs.Math.Nat.{mod-eq_of_lt}
use Rattle.std.proofs.lemmas.Grind.{get_or_default_zero}
use Rattle.amqp_blocks.specs.Inner.Shifted.{more}
use Rattle.amqp_blocks.proofs.ShiftLemmas.{before, after}
use Rattle.amqp_blocks.proofs.ends.read.Goals as goal

pub returns-then-block-from : goal.returns-then-block-from
returns-then-block-from c =
    let xs = c.args.written.now.items in
    c.index-end.ensures
    ∙ get_or_default_zero xs c.args.block c.index-end.result.now c.requires.block
    ∙ sym (mod-eq_of_lt (c.type_inv.written c.args.block 0 c.requires.block))
    ∙ sym (before c.args.from c.args.shift c.args.block 0 xs c.if-block-from.true c.requires.block)

pub returns : goal.returns
returns c =
    let xs = c.args.written.now.items in
    ap (more c.args.shift) (c.index-end.ensures ∙ get_or_default_zero xs c.args.block c.index-end.result.now c.requires.block)
    ∙ sym (after c.args.from c.args.shift c.args.block 0 xs c.if-block-from.false c.requires.block)
