use Rattle.std.proofs.Common.{ℕ, List, ◌++◌, take, drop, ap, ◌∙◌}
use Rattle.amqp_blocks.proofs.ShiftLemmas.{lowered, small_after}
use Rattle.amqp_blocks.proofs.lengths.lower_from.Goals as goal

pub returns-clause-lowered : goal.returns-clause-lowered
returns-clause-lowered c =
    let es = c.args.ends.now.items in
    let k = c.args.block in
    c.shift_from.ensures.shifted
    ∙ ap (λ (ks : List ℕ). take k es ++ ks) (lowered c.args.count (drop k es) c.requires.enough (small_after k es c.shift_from.ensures.small))
