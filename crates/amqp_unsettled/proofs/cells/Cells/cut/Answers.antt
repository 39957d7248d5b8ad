use Rattle.std.proofs.Common.{◌+◌, ◌∙◌, ap, arith, drop, suc}
use Rattle.std.proofs.lemmas.List.{length-drop}
use Rattle.std.specs.Prelude.{slice_get}
use Rattle.amqp_unsettled.specs.Inner.Rows.{there, used}
use Rattle.amqp_unsettled.proofs.PlaceLemmas.{from_item}
use Rattle.amqp_unsettled.proofs.CellLemmas.{got, got_drop, there_more}
use Rattle.amqp_unsettled.proofs.cells.Cells.cut.Goals as goal

pub returns-clause-item : goal.returns-clause-item
returns-clause-item g c =
    let s = c.args.self.now in
    let at = c.args.at in
    let cell = c.index.result.now in
    let l = length-drop s.head s.cells.items in
    let here = got_drop s.head s.cells.items at
    ∙ got s.cells.items (s.head + at) cell (omega (arith, l, c.requires.within)) c.index.ensures in
    let is = c.requires.is cell here in
    ap (λ cs. slice_get (there cs) 0) (from_item at (used s) cell here)
    ∙ ap (λ xs. slice_get xs 0) (there_more cell (drop (suc at) (used s)) is)
