use Rattle.std.proofs.Common.{◌+◌, ◌-◌, ◌<◌, ◌≤◌, ◌++◌, ◌∷◌, [], arith, take, drop, length, ap, sym, ◌∙◌, cond}
use Rattle.std.proofs.lemmas.List.{take_more_set, append-nil}
use Rattle.amqp_unsettled.specs.Inner.Rows.{live}
use Rattle.amqp_unsettled.proofs.NumberLemmas.{equal_test, other_test}
use Rattle.amqp_unsettled.proofs.CellLemmas.{live_more, rest_more, rest_put, length_set}
use Rattle.amqp_unsettled.proofs.cells.move_down.Goals as goal
use Rattle.amqp_unsettled.proofs.cells.move_down.Goals.{then-cell-eq0, else-cell-eq0}

pub loop-at-preserved : goal.loop-at-preserved
loop-at-preserved g c =
    let v = c.loop-at.invariant in
    let cs = c.loop-at.cells in
    let old = c.args.cells.now in
    let at = c.loop-at.at in
    let head = c.args.head in
    let kept = c.loop-at.kept in
    let cell = c.index-cells-at.result in
    let order : head ≤ at = omega (arith, c.loop-at.auto.at) in
    let o = v.order in
    let l = v.len in
    let within : at < length cs = omega (arith, l, c.loop-at-test.true) in
    let more = live_more cs old head at cell order v.len v.rest within c.index-cells-at.is in
    elim c.if-cell-eq0.branch [
      | then-cell-eq0 w ↦
          let there = equal_test cell.run 0 w.if-cell-eq0.true in
          record {
            order = omega (arith, o, w.kept-is);
            len = ap length w.cells-is ∙ length_set cs kept cell ∙ v.len;
            rest = ap (drop (at + 1)) w.cells-is
                ∙ rest_put cs old head at cell order v.len v.rest within c.index-cells-at.is kept v.order;
            done = ap (λ n. take n c.if-cell-eq0.cells) w.kept-is ∙ ap (take (kept + 1)) w.cells-is
                ∙ take_more_set cs kept cell (omega (arith, o, within))
                ∙ ap (λ xs. xs ++ cell ∷ []) v.done
                ∙ ap (λ b. live (take (at - head) (drop head old)) ++ cond b (cell ∷ []) []) (sym there) ∙ sym more;
          }
      | else-cell-eq0 w ↦
          let gone = other_test cell.run 0 w.if-cell-eq0.false in
          record {
            order = omega (arith, o, w.kept-is);
            len = ap length w.cells-is ∙ v.len;
            rest = ap (drop (at + 1)) w.cells-is
                ∙ rest_more cs old head at cell order v.len v.rest within c.index-cells-at.is;
            done = ap (λ n. take n c.if-cell-eq0.cells) w.kept-is ∙ ap (take kept) w.cells-is ∙ v.done
                ∙ sym (append-nil (live (take (at - head) (drop head old))))
                ∙ ap (λ b. live (take (at - head) (drop head old)) ++ cond b (cell ∷ []) []) (sym gone) ∙ sym more;
          }
    ]
