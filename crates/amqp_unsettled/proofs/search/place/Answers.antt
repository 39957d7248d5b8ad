use Rattle.std.proofs.Common.{arith}
use Rattle.amqp_unsettled.specs.Inner.Rows.{fars}
use Rattle.amqp_unsettled.proofs.CellLemmas.{fars_length}
use Rattle.amqp_unsettled.proofs.OrderLemmas.{above_place, below_place}
use Rattle.amqp_unsettled.proofs.search.place.Goals as goal

pub far_at-requires : goal.far_at-requires
far_at-requires g c =
    let len = fars_length g.T.Numbered.number_of c.args.base c.args.cells.now in
    let w = c.loop-low.invariant.within in
    omega (arith, len, w)

pub loop-low-preserved-then-far_at-target : goal.loop-low-preserved-then-far_at-target
loop-low-preserved-then-far_at-target g c =
    let v = c.loop-low.invariant in
    let f = g.T.Numbered.number_of in
    let ks = fars f c.args.base c.args.cells.now in
    let w = v.within in
    record {
      order = let o = v.order in omega (arith, o);
      within = v.within;
      below = below_place ks _ c.args.target c.requires.rising (omega (arith, w))
          (omega (arith, c.far_at.ensures, c.if-far_at-target.true));
      above = v.above;
    }

pub loop-low-preserved : goal.loop-low-preserved
loop-low-preserved g c =
    let v = c.loop-low.invariant in
    let ks = fars g.T.Numbered.number_of c.args.base c.args.cells.now in
    record {
      order = let o = v.order in omega (arith, o);
      within = let w = v.within in omega (arith, w);
      below = v.below;
      above = above_place ks _ c.args.target c.requires.rising
          (omega (arith, c.far_at.ensures, c.if-far_at-target.false));
    }
