use Rattle.std.proofs.Common.{◌+◌, ◌-◌, ◌^◌, ◌∙◌, ap, sym, subst, arith, drop, length, min, refl}
use Rattle.std.proofs.lemmas.List.{length-drop}
use Rattle.amqp_unsettled.specs.declared.cells.Cell.{Cell}
use Rattle.amqp_unsettled.specs.Inner.Rows.{Alike, FirstGone, IsFullRow, used}
use Rattle.amqp_unsettled.proofs.CellLemmas.{got, got_drop, drop_set_add, length_set}
use Rattle.amqp_unsettled.proofs.AlikeLemmas.{alike_same, alike_on, alike_length, run_some, noted_alike, noted_row}
use Rattle.amqp_unsettled.proofs.AlikeLemmas.{noted_rest}
use Rattle.amqp_unsettled.proofs.cells.Cells.join.Goals as goal

pub loop-at-init : goal.loop-at-init
loop-at-init g c = record {
  row = c.requires.row;
  alike = alike_same (used c.args.self.now);
  gone = c.requires.gone;
}

pub index-requires : goal.index-requires
index-requires g c =
    let s = c.loop-at.self in
    let l = length-drop s.head s.cells.items in
    let k = alike_length (used c.args.self.now) (used s) c.loop-at.invariant.alike in
    omega (arith, l, k, c.requires.within, c.loop-at-test.true)

pub set_run-requires : goal.set_run-requires
set_run-requires g c =
    let s = c.loop-at.self in
    let l = length-drop s.head s.cells.items in
    let k = alike_length (used c.args.self.now) (used s) c.loop-at.invariant.alike in
    record { within = omega (arith, l, k, c.requires.within, c.loop-at-test.true) }

pub loop-at-smaller : goal.loop-at-smaller
loop-at-smaller g c =
    let f = g.T.Numbered.number_of in
    let s = c.loop-at.self in
    let at = c.loop-at.at in
    let to = c.args.to in
    let cell = c.index.result.now in
    let v = c.loop-at.invariant in
    let l = length-drop s.head s.cells.items in
    let k = alike_length (used c.args.self.now) (used s) v.alike in
    let here = got_drop s.head s.cells.items at
    ∙ got s.cells.items (s.head + at) cell (omega (arith, l, k, c.requires.within, c.loop-at-test.true)) c.index.ensures
    in
    let d : Cell _ = record { item = cell.item; run = min (to - at) (2 ^ 32 - 1) } in
    let some = run_some f (used s) s.gone at to cell d v.row.row here c.loop-at-test.true v.gone refl refl in
    omega (arith, some, c.loop-at-test.true)

pub loop-at-preserved : goal.loop-at-preserved
loop-at-preserved g c =
    let f = g.T.Numbered.number_of in
    let s = c.loop-at.self in
    let at = c.loop-at.at in
    let to = c.args.to in
    let cell = c.index.result.now in
    let v = c.loop-at.invariant in
    let w = v.row.within in
    let l = length-drop s.head s.cells.items in
    let k = alike_length (used c.args.self.now) (used s) v.alike in
    let there = got s.cells.items (s.head + at) cell (omega (arith, l, k, c.requires.within, c.loop-at-test.true))
    c.index.ensures in
    let here = got_drop s.head s.cells.items at ∙ there in
    let d : Cell _ = record { item = cell.item; run = min (to - at) (2 ^ 32 - 1) } in
    let set = c.set_run.ensures.set cell there in
    let one = ap (drop s.head) set ∙ drop_set_add s.head s.cells.items at d in
    let len = ap length set ∙ length_set s.cells.items (s.head + at) d in
    record {
      row = record {
        within = omega (arith, w, len);
        row = subst (λ cs. IsFullRow f cs s.gone) (sym one)
            (noted_row f (used s) s.gone at to cell d v.row.row here c.loop-at-test.true v.gone refl refl);
      };
      alike = alike_on (used c.args.self.now) (used s) _ v.alike (subst (Alike (used s)) (sym one)
          (noted_alike f (used s) s.gone at to cell d v.row.row here c.loop-at-test.true v.gone refl refl));
      gone = subst (λ cs. FirstGone (to - (at + cell.run)) (drop (at + cell.run) cs)) (sym one)
          (noted_rest f (used s) s.gone at to cell d v.row.row here c.loop-at-test.true v.gone refl refl);
    }
