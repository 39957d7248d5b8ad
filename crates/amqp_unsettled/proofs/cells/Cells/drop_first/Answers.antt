use Rattle.std.proofs.Common.{◌≡◌, ◌+◌, ◌-◌, ◌∙◌, ap, sym, subst, arith, refl}
use Rattle.std.proofs.lemmas.List.{drop-drop, length-drop}
use Rattle.std.specs.Prelude.{slice_get}
use Rattle.amqp_unsettled.specs.Inner.Rows.{IsLooseRow, there, used}
use Rattle.amqp_unsettled.proofs.NumberLemmas.{other_test}
use Rattle.amqp_unsettled.proofs.CellLemmas.{got, got_drop}
use Rattle.amqp_unsettled.proofs.RowLemmas.{Back, first_goes, next_goes}
use Rattle.amqp_unsettled.proofs.cells.Cells.drop_first.Goals as goal

pub loop-self-init : goal.loop-self-init
loop-self-init g c =
    let f = g.T.Numbered.number_of in
    let s = c.args.self.now in
    let one = drop-drop 1 s.head s.cells.items in
    let w = c.requires.row.within in
    let l = length-drop s.head s.cells.items in
    let goes = first_goes f (used s) s.gone c.requires.some c.requires.row.row in
    record {
      row = record {
        within = omega (arith, w, l, c.requires.some);
        row = subst (λ cs. IsLooseRow f cs s.gone) one goes.0;
      };
      back = subst (Back f) one goes.1;
      items = ap there (sym one);
      cells = refl;
    }

pub overflow_sub-self : goal.overflow_sub-self
overflow_sub-self g c =
    let f = g.T.Numbered.number_of in
    let s = c.loop-self.self in
    let cell = c.index.result.now in
    let v = c.loop-self.invariant in
    let here = got_drop s.head s.cells.items 0
    ∙ ap (slice_get s.cells.items) (let e : s.head + 0 ≡ s.head = omega arith in e)
    ∙ got s.cells.items s.head cell (omega (arith, c.loop-self-test.true, c.len.ensures)) c.index.ensures in
    let goes = next_goes f (used s) s.gone cell here
    (other_test cell.run 0 (λ e. omega (arith, e, c.if-index-gt0.true))) v.row.row v.back in
    let some = goes.0 in
    omega (arith, some)

pub loop-self-preserved : goal.loop-self-preserved
loop-self-preserved g c =
    let f = g.T.Numbered.number_of in
    let s = c.loop-self.self in
    let cell = c.index.result.now in
    let v = c.loop-self.invariant in
    let here = got_drop s.head s.cells.items 0
    ∙ ap (slice_get s.cells.items) (let e : s.head + 0 ≡ s.head = omega arith in e)
    ∙ got s.cells.items s.head cell (omega (arith, c.loop-self-test.true, c.len.ensures)) c.index.ensures in
    let goes = next_goes f (used s) s.gone cell here
    (other_test cell.run 0 (λ e. omega (arith, e, c.if-index-gt0.true))) v.row.row v.back in
    let one = drop-drop 1 s.head s.cells.items in
    record {
      row = record {
        within = omega (arith, c.loop-self-test.true, c.len.ensures);
        row = subst (λ cs. IsLooseRow f cs (s.gone - 1)) one goes.1;
      };
      back = subst (Back f) one goes.2;
      items = ap there (sym one) ∙ goes.3 ∙ v.items;
      cells = v.cells;
    }
