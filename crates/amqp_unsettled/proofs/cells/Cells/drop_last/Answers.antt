use Rattle.std.proofs.Common.{◌-◌, ◌<◌, ◌∙◌, ap, sym, subst, arith, drop, length}
use Rattle.std.proofs.lemmas.List.{length-drop, length-take}
use Rattle.amqp_unsettled.specs.Inner.Rows.{IsLooseRow, IsThereAt, there, used}
use Rattle.amqp_unsettled.proofs.NumberLemmas.{equal_test, other_test}
use Rattle.amqp_unsettled.proofs.RowLemmas.{last_goes, last_gone, some_left, front_take, init_used, cell_there}
use Rattle.amqp_unsettled.proofs.RowLemmas.{same_there}
use Rattle.amqp_unsettled.proofs.cells.Cells.drop_last.Goals as goal

pub loop-self-init : goal.loop-self-init
loop-self-init g c =
    let f = g.T.Numbered.number_of in
    let s = c.args.self.now in
    let r = c.requires.row in
    let w = r.within in
    let l = length-drop s.head s.cells.items in
    let some : 1 < length s.cells.items - s.head = omega (arith, l, c.requires.some) in
    let one = init_used s.head _ s.cells.items (omega arith) w (omega (arith, c.requires.some)) in
    let new = ap (drop s.head) c.pop.ensures.rest ∙ one in
    let len = ap length c.pop.ensures.rest ∙ length-take _ s.cells.items in
    let goes = last_goes f (used s) s.gone (omega (arith, c.requires.some)) r.row in
    record {
      row = record {
        within = omega (arith, w, some, len);
        row = subst (λ cs. IsLooseRow f cs s.gone) (sym new) goes;
      };
      front = subst (λ cs. IsThereAt cs 0) (sym new)
          (front_take f (used s) (length (used s) - 1) (omega (arith, c.requires.some)) r.row.front);
      some = let k = ap length new ∙ length-take (length (used s) - 1) (used s) in omega (arith, k, c.requires.some);
      items = ap there new;
    }

pub overflow_sub-self : goal.overflow_sub-self
overflow_sub-self g c =
    let f = g.T.Numbered.number_of in
    let s = c.loop-self.self in
    let cell = c.index.result.now in
    let v = c.loop-self.invariant in
    let w = v.row.within in
    let here = cell_there s.head c.len.result s.cells.items cell (omega (arith, c.len.ensures)) w v.some c.index.ensures
    in
    let goes = last_gone f (used s) s.gone (length (used s) - 1) cell (let k = v.some in omega (arith, k)) here
    (other_test cell.run 0 (λ e. omega (arith, e, c.loop-self-test.true))) v.row.row in
    let some = goes.0 in
    omega (arith, some)

pub loop-self-preserved : goal.loop-self-preserved
loop-self-preserved g c =
    let f = g.T.Numbered.number_of in
    let s = c.loop-self.self in
    let cell = c.index.result.now in
    let v = c.loop-self.invariant in
    let w = v.row.within in
    let l = length-drop s.head s.cells.items in
    let here = cell_there s.head c.len.result s.cells.items cell (omega (arith, c.len.ensures)) w v.some c.index.ensures
    in
    let gone = other_test cell.run 0 (λ e. omega (arith, e, c.loop-self-test.true)) in
    let goes = last_gone f (used s) s.gone (length (used s) - 1) cell (let k = v.some in omega (arith, k)) here gone
    v.row.row in
    let left = some_left f (used s) (length (used s) - 1) cell v.front here gone in
    let one = init_used s.head _ s.cells.items (omega arith) w v.some in
    let new = ap (drop s.head) c.pop-in-loop-self.ensures.rest ∙ one in
    let len = ap length c.pop-in-loop-self.ensures.rest ∙ length-take _ s.cells.items in
    record {
      row = record {
        within = omega (arith, w, l, left, len);
        row = subst (λ cs. IsLooseRow f cs (s.gone - 1)) (sym new) goes.1;
      };
      front = subst (λ cs. IsThereAt cs 0) (sym new) (front_take f (used s) (length (used s) - 1) left v.front);
      some = let k = ap length new ∙ length-take (length (used s) - 1) (used s) in omega (arith, k, left);
      items = ap there new ∙ goes.2 ∙ v.items;
    }

pub returns-clause-row : goal.returns-clause-row
returns-clause-row g c =
    let f = g.T.Numbered.number_of in
    let s = c.loop-self.self in
    let cell = c.index.result.now in
    let v = c.loop-self.invariant in
    let w = v.row.within in
    let l = length-drop s.head s.cells.items in
    let here = cell_there s.head c.len.result s.cells.items cell (omega (arith, c.len.ensures)) w v.some c.index.ensures
    in
    record {
      within = w;
      row = record {
        loose = v.row.row;
        front = v.front;
        back = λ i h d e. same_there (used s) i (length (used s) - 1) cell (omega (arith, h)) here
            (equal_test cell.run 0 (omega (arith, c.loop-self-test.false))) d e;
      };
    }
