use Rattle.std.proofs.Common.{◌≡◌, ◌+◌, ◌-◌, arith, drop, subst, sym, ap, ◌∙◌}
use Rattle.std.proofs.lemmas.List.{drop-drop}
use Rattle.amqp_unsettled.specs.declared.cells.Cell.{Cell}
use Rattle.amqp_unsettled.specs.Inner.Rows.{FirstGone}
use Rattle.amqp_unsettled.proofs.CellLemmas.{got, got_within, gone_more, runs_at}
use Rattle.amqp_unsettled.proofs.spots.there_from.Goals as goal

pub loop-at-preserved : goal.loop-at-preserved
loop-at-preserved g c =
    let cs = c.args.cells.now in
    let from = c.args.from in
    let at = c.loop-at.at in
    let cell = c.index-cells-at.result in
    let v = c.loop-at.invariant in
    let o = v.order in
    let more = subst (λ n. FirstGone n (drop at cs)) (ap (λ (x : Cell _). x.run) c.index-cells-at.is)
    (runs_at cs at cell c.requires.runs (got cs at cell (omega (arith, c.loop-at-test.true)) c.index-cells-at.is)) in
    let here : drop at cs ≡ drop (at - from) (drop from cs) =
    ap (λ n. drop n cs) (let e : at ≡ from + (at - from) = omega (arith, o) in e) ∙ sym (drop-drop (at - from) from cs)
    in
    record {
      order = omega (arith, o);
      gone = subst (λ n. FirstGone n (drop from cs)) (omega (arith, o))
          (gone_more (at - from) _ (drop from cs) v.gone (subst (FirstGone _) here more));
    }

pub returns-clause-is : goal.returns-clause-is
returns-clause-is g c x e = absurd (let w = got_within c.args.cells.now c.loop-at.at x e in
    omega (arith, w, c.loop-at-test.false))
