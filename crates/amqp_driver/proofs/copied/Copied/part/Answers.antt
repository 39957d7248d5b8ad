use Rattle.std.proofs.Common.{◌≡◌, ◌-◌, ◌∙◌, List, ℕ, IfOk, ap, slice_range, subst}
use Rattle.amqp_driver.proofs.CopiedLemmas.{part_of_part}
use Rattle.amqp_driver.proofs.copied.Copied.part.Goals as goal

pub returns-clause-ok : goal.returns-clause-ok
returns-clause-ok c = subst (λ (y : List ℕ). IfOk c.part_of.result (λ b. b ≡ y))
    (ap (λ (x : List ℕ). slice_range x (c.args.start - c.args.self.now.start) (c.args.end - c.args.self.now.start)) c.requires.copy.is
    ∙ part_of_part c.args.input.now c.args.self.now.start c.args.self.now.end c.args.start c.args.end c.requires.from c.requires.order c.requires.to)
    c.part_of.ensures.ok
