use Rattle.std.proofs.Common.{ℕ, List, ◌++◌, take, drop, ap, ◌∙◌, refl, inr}
use Rattle.amqp_blocks.proofs.ShiftLemmas.{raised}
use Rattle.amqp_blocks.proofs.lengths.sink_or_rise.Goals as goal

pub returns-then-block-min-clause-either : goal.returns-then-block-min-clause-either
returns-then-block-min-clause-either c =
    let es = c.args.ends.now.items in
    let k = c.args.block in
    inr (refl, c.shift_before.ensures.shifted ∙ ap (λ (ks : List ℕ). ks ++ drop k es) (raised c.args.count (take k es) c.requires.few))
