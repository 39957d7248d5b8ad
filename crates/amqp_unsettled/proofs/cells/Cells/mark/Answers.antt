use Rattle.std.proofs.Common.{◌+◌, ◌-◌, ◌^◌, ◌∙◌, ap, sym, subst, arith, drop, length, min, refl}
use Rattle.std.proofs.lemmas.List.{length-drop}
use Rattle.std.specs.Prelude.{slice_get, slice_set}
use Rattle.amqp_unsettled.specs.declared.cells.Cell.{Cell}
use Rattle.amqp_unsettled.specs.Inner.Rows.{IsFullRow, there, used}
use Rattle.amqp_unsettled.proofs.PlaceLemmas.{item_at}
use Rattle.amqp_unsettled.proofs.CellLemmas.{got_drop, drop_set_add, length_set}
use Rattle.amqp_unsettled.proofs.MarkLemmas.{mark_items, mark_row}
use Rattle.amqp_unsettled.proofs.cells.Cells.mark.Goals as goal

pub set_run-requires-2 : goal.set_run-requires-2
set_run-requires-2 g c =
    let s = c.args.self.now in
    let l = length-drop s.head s.cells.items in
    let it = item_at (used s) c.args.at (omega (arith, c.requires.within)) in
    let set = c.set_run.ensures.set it.0 (sym (got_drop s.head s.cells.items c.args.at) ∙ it.1) in
    let len = ap length set ∙ length_set s.cells.items (s.head + c.args.at) (record {
      item = it.0.item;
      run = min 1 (2 ^
          32 - 1);
    }) in
    record { within = omega (arith, l, len, c.requires.within, c.requires.order) }

pub returns-clause-row : goal.returns-clause-row
returns-clause-row g c =
    let f = g.T.Numbered.number_of in
    let s = c.args.self.now in
    let at = c.args.at in
    let from = c.args.from in
    let w = c.requires.row.within in
    let l = length-drop s.head s.cells.items in
    let it = item_at (used s) at (omega (arith, c.requires.within)) in
    let d1 : Cell _ = record { item = it.0.item; run = min 1 (2 ^ 32 - 1) } in
    let set1 = c.set_run.ensures.set it.0 (sym (got_drop s.head s.cells.items at) ∙ it.1) in
    let one = ap (drop s.head) set1 ∙ drop_set_add s.head s.cells.items at d1 in
    let e = item_at (slice_set (used s) at d1) from (let k = length_set (used s) at d1 in omega (
      arith,
      k,
      c.requires.within,
      c.requires.order,
    )) in
    let d2 : Cell _ = record { item = e.0.item; run = min (at - from + 1) (2 ^ 32 - 1) } in
    let set2 = c.set_run-2.ensures.set e.0 (sym (got_drop s.head c.set_run.new.cells.items from) ∙ ap (λ cs. slice_get
    cs from) one ∙ e.1) in
    let two = ap (drop s.head) set2 ∙ drop_set_add s.head c.set_run.new.cells.items from d2 ∙ ap (λ cs. slice_set cs
    from d2) one in
    let len = ap length set2 ∙ length_set c.set_run.new.cells.items (s.head + from) d2
    ∙ ap length set1 ∙ length_set s.cells.items (s.head + at) d1 in
    record {
      within = omega (arith, w, len);
      row = subst (λ cs. IsFullRow f cs (s.gone + 1)) (sym two)
          (mark_row f (used s) s.gone from at (min (at - from + 1) (2 ^ 32 - 1)) it.0 d1 c.requires.row.row
          c.requires.some c.requires.within it.1
          (c.requires.is it.0 it.1) c.requires.order c.requires.gone refl (omega arith) e.0 d2 e.1 refl refl);
    }

pub returns-clause-left : goal.returns-clause-left
returns-clause-left g c =
    let f = g.T.Numbered.number_of in
    let s = c.args.self.now in
    let at = c.args.at in
    let from = c.args.from in
    let it = item_at (used s) at (omega (arith, c.requires.within)) in
    let d1 : Cell _ = record { item = it.0.item; run = min 1 (2 ^ 32 - 1) } in
    let set1 = c.set_run.ensures.set it.0 (sym (got_drop s.head s.cells.items at) ∙ it.1) in
    let one = ap (drop s.head) set1 ∙ drop_set_add s.head s.cells.items at d1 in
    let e = item_at (slice_set (used s) at d1) from (let k = length_set (used s) at d1 in omega (
      arith,
      k,
      c.requires.within,
      c.requires.order,
    )) in
    let d2 : Cell _ = record { item = e.0.item; run = min (at - from + 1) (2 ^ 32 - 1) } in
    let set2 = c.set_run-2.ensures.set e.0 (sym (got_drop s.head c.set_run.new.cells.items from) ∙ ap (λ cs. slice_get
    cs from) one ∙ e.1) in
    let two = ap (drop s.head) set2 ∙ drop_set_add s.head c.set_run.new.cells.items from d2 ∙ ap (λ cs. slice_set cs
    from d2) one in
    ap there two
    ∙ mark_items f (used s) s.gone from at (min (at - from + 1) (2 ^ 32 - 1)) it.0 d1 c.requires.row.row c.requires.some
    c.requires.within it.1
    (c.requires.is it.0 it.1) c.requires.order c.requires.gone refl (omega arith) e.0 d2 e.1 refl refl
