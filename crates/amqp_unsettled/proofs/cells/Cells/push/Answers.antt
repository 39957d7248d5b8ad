use Rattle.std.proofs.Common.{◌∷◌, [], ◌∙◌, ap, sym, subst, arith, drop, length, refl}
use Rattle.std.proofs.lemmas.List.{drop-append-le, length-append}
use Rattle.amqp_unsettled.specs.declared.cells.Cell.{Cell}
use Rattle.amqp_unsettled.specs.Inner.Rows.{IsFullRow, used}
use Rattle.amqp_unsettled.proofs.RowLemmas.{row_push}
use Rattle.amqp_unsettled.proofs.cells.Cells.push.Goals as goal

pub returns-clause-row : goal.returns-clause-row
returns-clause-row g c =
    let f = g.T.Numbered.number_of in
    let s = c.args.self.now in
    let cell : Cell _ = record { item = c.args.item; run = 0 } in
    let w = c.requires.row.within in
    let more = ap length c.push_reserved.ensures.items in
    let long = length-append s.cells.items (cell ∷ []) in
    record {
      within = omega (arith, w, more, long);
      row = subst (λ cs. IsFullRow f cs s.gone)
          (sym (ap (drop s.head) c.push_reserved.ensures.items ∙ drop-append-le s.head s.cells.items (cell ∷ []) w))
          (row_push f (used s) s.gone cell refl c.requires.small c.requires.row.row c.requires.next);
    }
