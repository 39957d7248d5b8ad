use Rattle.std.proofs.Common.{◌≡◌, ◌+◌, ◌-◌, ◌<◌, ◌∙◌, ap, sym, arith, length}
use Rattle.std.proofs.lemmas.List.{length-drop}
use Rattle.std.specs.Prelude.{slice_get}
use Rattle.amqp_unsettled.specs.Serial.{is_after}
use Rattle.amqp_unsettled.specs.Inner.Rows.{used}
use Rattle.amqp_unsettled.proofs.CellLemmas.{got, got_drop}
use Rattle.amqp_unsettled.proofs.RowLemmas.{next_by_last, cell_there}
use Rattle.amqp_unsettled.proofs.cells.Cells.is_next.Goals as goal

pub returns-then-is_after : goal.returns-then-is_after
returns-then-is_after g c =
    let f = g.T.Numbered.number_of in
    let s = c.args.self.now in
    let n = c.args.number in
    let first = c.index.result.now in
    let last = c.index-then-is_after.result.now in
    let w = c.requires.row.within in
    let r = c.requires.row.row in
    let l = length-drop s.head s.cells.items in
    let some : 0 < length (used s) = omega (arith, l, w, c.if-self-len.false, c.len-len.ensures) in
    let here = got_drop s.head s.cells.items 0
    ∙ ap (slice_get s.cells.items) (let e : s.head + 0 ≡ s.head = omega arith in e)
    ∙ got s.cells.items s.head first (omega (arith, c.if-self-len.false, c.len-len.ensures)) c.index.ensures in
    let end = cell_there s.head c.len-len.result s.cells.items last (omega (arith, c.len-len.ensures)) w some
    c.index-then-is_after.ensures in
    let t = ap (λ m. is_after m n) (sym c.number.ensures) ∙ sym c.is_after.ensures ∙ c.if-is_after.true in
    let u = c.is_after-then-is_after.ensures ∙ ap (λ m. is_after m n) c.number-then-is_after.ensures in
    u ∙ next_by_last f n (used s) s.gone (length (used s) - 1) first last (omega arith) r here (omega (arith, some)) end
    t
