use Rattle.std.proofs.Common.{arith}
use Rattle.amqp_blocks.proofs.RoomLemmas.{free_some, free_spare}
use Rattle.amqp_blocks.proofs.free.is_there.Goals as goal

pub returns-clause-there : goal.returns-clause-there
returns-clause-there g c =
    let bs = c.args.blocks.now.items in
    let ss = c.args.spare.now.items in
    let b = free_some bs c.requires.some in
    let s = free_spare ss c.requires.spares in
    grind (arith, b, s, c.left_over.ensures.left, c.left_over-2.ensures.left)

pub returns-clause-lacking : goal.returns-clause-lacking
returns-clause-lacking g c =
    let bs = c.args.blocks.now.items in
    let ss = c.args.spare.now.items in
    let b = free_some bs c.requires.some in
    let s = free_spare ss c.requires.spares in
    grind (arith, b, s, c.left_over.ensures.left, c.left_over-2.ensures.left)
