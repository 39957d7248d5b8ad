use Rattle.std.proofs.Common.{◌+◌, ◌∙◌, ap, sym, subst, arith, drop}
use Rattle.std.proofs.lemmas.List.{drop-drop, length-drop}
use Rattle.amqp_unsettled.specs.Inner.Rows.{IsFullRow, there, used}
use Rattle.amqp_unsettled.proofs.TakeLemmas.{skip_row, skip_items, some_used}
use Rattle.amqp_unsettled.proofs.cells.Cells.skip_first.Goals as goal

pub returns-else-self-len-clause-row : goal.returns-else-self-len-clause-row
returns-else-self-len-clause-row g c =
    let f = g.T.Numbered.number_of in
    let s = c.args.self.now in
    let none = subst (λ n. IsFullRow f (used s) n) c.requires.plain c.requires.row.row in
    let some = some_used (used s) c.requires.some in
    let l = length-drop s.head s.cells.items in
    record {
      within = omega (arith, l, some);
      row = subst (λ n. IsFullRow f (drop (s.head + 1) s.cells.items) n) (sym c.requires.plain)
          (subst (λ cs. IsFullRow f cs 0) (drop-drop 1 s.head s.cells.items) (skip_row f (used s) c.requires.some
          none));
    }

pub returns-else-self-len-clause-items : goal.returns-else-self-len-clause-items
returns-else-self-len-clause-items g c =
    let f = g.T.Numbered.number_of in
    let s = c.args.self.now in
    ap there (sym (drop-drop 1 s.head s.cells.items))
    ∙ skip_items f (used s) c.requires.some (subst (λ n. IsFullRow f (used s) n) c.requires.plain c.requires.row.row)
