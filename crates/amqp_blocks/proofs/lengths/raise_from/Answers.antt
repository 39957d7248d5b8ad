use Rattle.std.proofs.Common.{ℕ, List, ◌++◌, take, drop, ap, ◌∙◌, arith}
use Rattle.amqp_blocks.proofs.ShiftLemmas.{raised}
use Rattle.amqp_blocks.proofs.lengths.raise_from.Goals as goal

pub returns-clause-raised : goal.returns-clause-raised
returns-clause-raised c =
    let es = c.args.ends.now.items in
    let k = c.args.block in
    c.shift_from.ensures.shifted
    ∙ ap (λ (ks : List ℕ). take k es ++ ks) (raised 1 (drop k es) (λ i l. let h = c.requires.few i l in omega (arith, h)))
