use Rattle.std.proofs.Common.{◌-◌, arith, length, sym, ap, ◌∙◌}
use Rattle.std.specs.Prelude.{slice_index}
use Rattle.amqp_unsettled.specs.Inner.Rows.{fars}
use Rattle.amqp_unsettled.proofs.CellLemmas.{fars_length}
use Rattle.amqp_unsettled.proofs.OrderLemmas.{above_place, near_part, past_part}
use Rattle.amqp_unsettled.proofs.search.part_of.Goals as goal

pub returns-then-target-begin : goal.returns-then-target-begin
returns-then-target-begin g c =
    let ks = fars g.T.Numbered.number_of c.args.base c.args.cells.now in
    record {
      order = omega arith;
      within = omega arith;
      below = λ i h. absurd (omega (arith, h));
      above = above_place ks 0 c.args.target c.requires.rising
          (omega (arith, c.far_at-begin.ensures, c.if-target-begin.true));
    }

pub returns-then-end-target : goal.returns-then-end-target
returns-then-end-target g c =
    let f = g.T.Numbered.number_of in
    let ks = fars f c.args.base c.args.cells.now in
    let len = fars_length f c.args.base c.args.cells.now in
    let at_end = ap (λ n. slice_index ks (n - 1)) len ∙ sym c.far_at-end.ensures in
    past_part ks c.args.target c.far_at-begin.result c.far_at-end.result c.requires.rising
    (omega (arith, len, c.requires.some)) (sym c.far_at-begin.ensures) at_end
    (length c.args.cells.now) c.min-high.result
    (omega (arith, len, c.min-high.ensures))
    (omega (arith, len)) (omega (arith, c.if-end-target.true))

pub returns : goal.returns
returns g c =
    let f = g.T.Numbered.number_of in
    let ks = fars f c.args.base c.args.cells.now in
    let len = fars_length f c.args.base c.args.cells.now in
    let at_end = ap (λ n. slice_index ks (n - 1)) len ∙ sym c.far_at-end.ensures in
    near_part ks c.args.target c.far_at-begin.result c.far_at-end.result c.requires.rising
    (omega (arith, len, c.requires.some)) (sym c.far_at-begin.ensures) at_end
    c.saturating_sub.result c.min-high.result
    (omega (arith, len, c.min-high.ensures))
    (omega (arith, len, c.saturating_sub.ensures))
    (omega (arith, c.if-end-target.false))
