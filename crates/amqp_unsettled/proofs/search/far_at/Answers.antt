use Rattle.std.proofs.Common.{◌∙◌, ap, sym}
use Rattle.amqp_unsettled.specs.declared.cells.Cell.{Cell}
use Rattle.amqp_unsettled.specs.Serial.{distance}
use Rattle.amqp_unsettled.proofs.CellLemmas.{far_is}
use Rattle.amqp_unsettled.proofs.search.far_at.Goals as goal

pub returns : goal.returns
returns g c =
    c.distance.ensures
    ∙ ap (distance c.args.base) (c.number.ensures ∙ ap (λ (x : Cell _). g.T.Numbered.number_of x.item) (sym
    c.index-cells-at.is))
    ∙ sym (far_is g.T.Numbered.number_of c.args.base c.args.cells.now c.args.at c.index-cells-at.result
    c.requires.within c.index-cells-at.is)
