use Rattle.std.proofs.Common.{◌<◌, arith, length, sym, subst, ap, ◌∙◌}
use Rattle.amqp_unsettled.specs.declared.cells.Cell.{Cell}
use Rattle.amqp_unsettled.specs.Inner.Order.{IsRising, Begins}
use Rattle.amqp_unsettled.specs.Inner.Rows.{fars}
use Rattle.amqp_unsettled.proofs.NumberLemmas.{equal_test, other_test}
use Rattle.amqp_unsettled.proofs.SpotLemmas.{fars_rise, number_past, number_here, number_other, number_gone}
use Rattle.amqp_unsettled.proofs.spots.spot.Goals as goal
use Rattle.amqp_unsettled.proofs.spots.spot.Goals.{else-cell-eq0-via-then-cell-eq0+else-number}
use Rattle.amqp_unsettled.proofs.spots.spot.Goals.{else-cell-eq0-via-else-cell-eq0}

pub place-at-requires-clause-rising : goal.place-at-requires-clause-rising
place-at-requires-clause-rising g c =
    let f = g.T.Numbered.number_of in
    let cs = c.args.cells.now in
    let some : 0 < length cs = omega (arith, c.if-cells-eq0.false) in
    let base = c.number-base.ensures ∙ ap (λ (x : Cell _). f x.item) (sym c.index-cells-0.is) in
    subst (λ b. IsRising (fars f b cs)) (sym base)
    (fars_rise f cs c.index-cells-0.result some c.index-cells-0.is c.requires.small c.requires.serial)

pub returns-then-at-cells : goal.returns-then-at-cells
returns-then-at-cells g c =
    let f = g.T.Numbered.number_of in
    number_past f c.number-base.result c.args.number c.args.cells.now c.place-at.result
    (subst (λ t. Begins (fars f c.number-base.result c.args.cells.now) t c.place-at.result) c.distance.ensures
    c.place-at.ensures)
    c.if-at-cells.true

pub returns-then-number : goal.returns-then-number
returns-then-number g c =
    let f = g.T.Numbered.number_of in
    number_here f c.number-base.result c.args.number c.args.cells.now c.place-at.result
    (subst (λ t. Begins (fars f c.number-base.result c.args.cells.now) t c.place-at.result) c.distance.ensures
    c.place-at.ensures)
    c.index-cells-at.result c.if-at-cells.false c.index-cells-at.is
    (equal_test c.index-cells-at.result.run 0 c.if-cell-eq0.true) (sym c.number.ensures ∙ c.if-number.true)

pub returns-else-cell-eq0 : goal.returns-else-cell-eq0
returns-else-cell-eq0 g c =
    let f = g.T.Numbered.number_of in
    let cs = c.args.cells.now in
    let some : 0 < length cs = omega (arith, c.if-cells-eq0.false) in
    let base = c.number-base.ensures ∙ ap (λ (x : Cell _). f x.item) (sym c.index-cells-0.is) in
    let r = subst (λ b. IsRising (fars f b cs)) (sym base)
    (fars_rise f cs c.index-cells-0.result some c.index-cells-0.is c.requires.small c.requires.serial) in
    let b = subst (λ t. Begins (fars f c.number-base.result cs) t c.place-at.result) c.distance.ensures
    c.place-at.ensures in
    elim c.else-cell-eq0.branch [
      | else-cell-eq0-via-then-cell-eq0+else-number w ↦ number_other f c.number-base.result c.args.number cs
          c.place-at.result b
          c.index-cells-at.result c.if-at-cells.false c.index-cells-at.is r
          (λ same. w.if-number.false (w.number.ensures ∙ same))
      | else-cell-eq0-via-else-cell-eq0 w ↦ number_gone f c.number-base.result c.args.number cs c.place-at.result b
          c.index-cells-at.result c.if-at-cells.false c.index-cells-at.is r
          (other_test c.index-cells-at.result.run 0 w.if-cell-eq0.false)
    ]
