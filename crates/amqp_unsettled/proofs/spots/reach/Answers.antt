use Rattle.std.proofs.Common.{◌<◌, ◌^◌, arith, length, sym, subst, ap, ◌∙◌}
use Rattle.amqp_unsettled.specs.declared.cells.Cell.{Cell}
use Rattle.amqp_unsettled.specs.Inner.Order.{Below, IsRising, Begins}
use Rattle.amqp_unsettled.specs.Inner.Rows.{fars}
use Rattle.amqp_unsettled.proofs.SpotLemmas.{fars_rise, fars_half, range_past, range_before, range_other}
use Rattle.amqp_unsettled.proofs.spots.reach.Goals as goal

pub place-from-requires-clause-rising : goal.place-from-requires-clause-rising
place-from-requires-clause-rising g c =
    let f = g.T.Numbered.number_of in
    let cs = c.args.cells.now in
    let some : 0 < length cs = omega (arith, c.if-cells-eq0.false) in
    let base = c.number-base.ensures ∙ ap (λ (x : Cell _). f x.item) (sym c.index-cells-0.is) in
    subst (λ b. IsRising (fars f b cs)) (sym base)
    (fars_rise f cs c.index-cells-0.result some c.index-cells-0.is c.requires.small c.requires.serial)

pub returns-then-at-cells : goal.returns-then-at-cells
returns-then-at-cells g c =
    let f = g.T.Numbered.number_of in
    let cs = c.args.cells.now in
    let base = c.number-base.result in
    let b = subst (λ t. Begins (fars f base cs) t c.place-from.result) c.start_of.ensures c.place-from.ensures in
    let v = c.there_from-at.ensures in
    range_past f base c.args.first c.args._last (omega arith) (omega arith) cs c.place-from.result
    c.there_from-at.result
    b v.order v.gone c.if-at-cells.true

pub returns : goal.returns
returns g c =
    let f = g.T.Numbered.number_of in
    let cs = c.args.cells.now in
    let base = c.number-base.result in
    let some : 0 < length cs = omega (arith, c.if-cells-eq0.false) in
    let is = c.number-base.ensures ∙ ap (λ (x : Cell _). f x.item) (sym c.index-cells-0.is) in
    let r = subst (λ b. IsRising (fars f b cs)) (sym is)
    (fars_rise f cs c.index-cells-0.result some c.index-cells-0.is c.requires.small c.requires.serial) in
    let half = subst (λ b. Below (2 ^ 31) (fars f b cs)) (sym is)
    (fars_half f cs c.index-cells-0.result some c.index-cells-0.is c.requires.small c.requires.serial) in
    let b = subst (λ t. Begins (fars f base cs) t c.place-from.result) c.start_of.ensures c.place-from.ensures in
    let v = c.there_from-at.ensures in
    record {
      within = c.if-at-cells.false;
      is = v.is;
      order = v.order;
      gone = v.gone;
      before = range_before f base c.args.first c.args._last (omega arith) (omega arith) cs c.place-from.result
          c.there_from-at.result b v.order v.gone;
      after = λ d e w. range_other f base c.args.first c.args._last (omega arith) (omega arith) cs c.place-from.result
          c.there_from-at.result b v.order v.gone d e v.is r half w;
    }
