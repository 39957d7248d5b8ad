use Rattle.std.proofs.Common.{◌∙◌, ap, sym, subst, arith}
use Rattle.amqp_unsettled.specs.Inner.Rows.{IsFullRow, there, used}
use Rattle.amqp_unsettled.proofs.RowLemmas.{row_live, live_items}
use Rattle.amqp_unsettled.proofs.cells.Cells.drop_gone.Goals as goal

pub returns-clause-row : goal.returns-clause-row
returns-clause-row g c =
    let f = g.T.Numbered.number_of in
    record {
      within = omega arith;
      row = subst (λ cs. IsFullRow f cs 0) (sym c.keep_there.ensures.kept)
          (row_live f (used c.args.self.now) c.args.self.now.gone c.requires.row.row);
    }

pub returns-clause-items : goal.returns-clause-items
returns-clause-items g c = ap there c.keep_there.ensures.kept ∙ live_items g.T.Numbered.number_of (used c.args.self.now)
