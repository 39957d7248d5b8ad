use Rattle.std.proofs.Common.{◌∙◌, ap, sym, subst, Some}
use Rattle.std.specs.List.{find}
use Rattle.amqp_unsettled.specs.declared.cells.Cell.{Cell}
use Rattle.amqp_unsettled.specs.Inner.Order.{NonePasses}
use Rattle.amqp_unsettled.specs.Inner.Rows.{ranged, there, used}
use Rattle.amqp_unsettled.proofs.CellLemmas.{got}
use Rattle.amqp_unsettled.proofs.TakeLemmas.{at_found, none_taken}
use Rattle.amqp_unsettled.proofs.cells.Cells.find_within.Goals as goal

pub returns-in_err-at : goal.returns-in_err-at
returns-in_err-at g c =
    let p = ranged g.T.Numbered.number_of c.args.first c.args.last in
    let none = subst (λ cs. NonePasses p (there cs)) c.in_use-cells.ensures c.in_err-at.ensures in
    c.from_residual.ensures ∙ (none_taken p (there (used c.args.self.now)) none).0

pub returns : goal.returns
returns g c =
    let p = ranged g.T.Numbered.number_of c.args.first c.args.last in
    let is = c.in_ok-at.ensures in
    let cs = c.in_use-cells.result.now in
    ap (λ (x : Cell _). Some x.item) (sym c.index-cells-at.is)
    ∙ at_found p cs c.in_ok-at.at is c.index-cells-at.result
    (got cs c.in_ok-at.at c.index-cells-at.result is.within c.index-cells-at.is)
    ∙ ap (λ ds. find p (there ds)) c.in_use-cells.ensures
