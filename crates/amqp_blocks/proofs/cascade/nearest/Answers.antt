use Rattle.std.proofs.Common.{arith}
use Rattle.amqp_blocks.proofs.RoomLemmas.{all_full, full_more}
use Rattle.amqp_blocks.proofs.cascade.nearest.Goals as goal

pub loop-away-preserved : goal.loop-away-preserved
loop-away-preserved g c = full_more c.args.blocks.now.items c.args.block c.loop-away.away c.saturating_sub-before.result c.loop-away.invariant (c.is_free.ensures.full c.if-is_free.false) c.saturating_sub-before.ensures (c.is_free-in-loop-away.ensures.full c.if-is_free-2.false)

pub unreachable-requires : goal.unreachable-requires
unreachable-requires g c =
    let bs = c.args.blocks.now.items in
    let full = all_full bs (λ i h. c.loop-away.invariant i h (omega (arith, h, c.requires.block, c.loop-away-test.false, c.len-away-end.ensures, c.args.blocks.now.ok.0)) (omega (arith, h, c.requires.block, c.loop-away-test.false, c.len-away-end.ensures, c.args.blocks.now.ok.0))) in
    omega (arith, full, c.requires.room)
