use Rattle.std.proofs.Common.{◌-◌, ◌<◌, arith}
use Rattle.amqp_unsettled.specs.Inner.Rows.{fars}
use Rattle.amqp_unsettled.proofs.CellLemmas.{fars_length}
use Rattle.amqp_unsettled.proofs.OrderLemmas.{above_place, below_place}
use Rattle.amqp_unsettled.proofs.search.by_borders.Goals as goal

pub returns-then-far_at-target : goal.returns-then-far_at-target
returns-then-far_at-target g c =
    let v = c.requires.holds in
    let ks = fars g.T.Numbered.number_of c.args.base c.args.cells.now in
    record {
      order = omega arith;
      within = let o = v.order in let w = v.within in omega (arith, o, w);
      below = v.below;
      above = above_place ks c.args.part.low c.args.target c.requires.rising
          (omega (arith, c.far_at.ensures, c.if-far_at-target.true));
    }

pub returns-then-far_at-target-2 : goal.returns-then-far_at-target-2
returns-then-far_at-target-2 g c =
    let v = c.requires.holds in
    let f = g.T.Numbered.number_of in
    let ks = fars f c.args.base c.args.cells.now in
    let len = fars_length f c.args.base c.args.cells.now in
    let o = v.order in
    let w = v.within in
    let some : 0 < c.args.part.high = omega arith in
    let below = below_place ks (c.args.part.high - 1) c.args.target c.requires.rising (omega (arith, w, some))
    (omega (arith, c.far_at-then-high-cells.ensures, c.if-far_at-target-2.true)) in
    record {
      order = omega arith;
      within = w;
      below = λ i h. below i (omega (arith, h, some));
      above = v.above;
    }
