use Rattle.std.proofs.Common.{arith}
use Rattle.amqp_blocks.proofs.PassLemmas.{passed_none, unshifted_passes, place_other}
use Rattle.amqp_blocks.proofs.cascade.turn.Goals as goal

pub returns-then-place-eq0-clause-passed : goal.returns-then-place-eq0-clause-passed
returns-then-place-eq0-clause-passed g c = passed_none _ _ _ _ (omega arith)

pub returns-clause-passed : goal.returns-clause-passed
returns-clause-passed g c =
    let u = c.unshift.ensures.unshifted in
    unshifted_passes c.args.blocks.now.items c.unshift.new.blocks.items c.args.place.block c.args.place.at c.args.item c.unshift.result c.requires.block u (c.requires.within u.from u.was)

pub returns-clause-others : goal.returns-clause-others
returns-clause-others g c = λ k lt p.
    let u = c.unshift.ensures.unshifted in
    place_other c.args.blocks.now.items c.unshift.new.blocks.items c.args.place.block k u.to u.set (omega (arith, lt)) p
