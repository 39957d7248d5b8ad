use Rattle.std.proofs.Common.{◌≡◌, ◌+◌, ◌++◌, ◌∙◌, ℕ, List, ap, get_or, map, take, drop, set, suc, arith}
use Rattle.amqp_engine.specs.declared.engine.refusal.Refusal.{Refusal}
use Rattle.amqp_transport.specs.Running.{counted_on}
use Rattle.amqp_transport.proofs.PlaceLemmas.{counted_more}
use Rattle.amqp_transport.proofs.running.count_all_on.Goals as goal

pub loop-refusal-preserved : goal.loop-refusal-preserved
loop-refusal-preserved c =
    let i : ℕ = c.loop-refusal.refusal-index in
    let old : List Refusal = c.args.refusals.now in
    let f : Refusal → Refusal = counted_on c.args.taken in
    let x : Refusal = c.refusal-item.result in
    let next : suc i ≡ i + 1 = omega arith in
    ap (λ (r : Refusal). set c.loop-refusal.refusals i r) c.count_on.ensures ∙ ap (λ (rs : List Refusal). set rs i (f (get_or rs i x))) c.loop-refusal.invariant
    ∙ counted_more f old i x c.loop-refusal-test.true ∙ ap (λ (k : ℕ). map f (take k old) ++ drop k old) next
