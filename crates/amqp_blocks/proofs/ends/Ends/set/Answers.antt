use Rattle.std.proofs.Common.{ℕ, List, set, ap, ◌∙◌, arith, length-set}
use Rattle.std.proofs.Math.Nat.{mod-eq_of_lt}
use Rattle.std.proofs.lemmas.List.{map-set}
use Rattle.amqp_blocks.specs.Chunked.{RunningLengths}
use Rattle.amqp_blocks.specs.Inner.Shifted.{plain}
use Rattle.amqp_blocks.proofs.ShiftLemmas.{all_plain}
use Rattle.amqp_blocks.proofs.ends.Ends.set.Goals as goal

pub returns-clause-items : goal.returns-clause-items
returns-clause-items c =
    let all = c.write_all-self-inside.ensures.all ∙ ap (λ (v : RunningLengths). v.items) c.self.view_is in
    let written = c.write_all-self-inside.new.written.items in
    all_plain c.write_all-self-inside.result c.self.inside.shift (set written c.args.block c.args.end) (omega (arith, length-set written c.args.block c.args.end, c.write_all-self-inside.ensures.count))
    ∙ map-set plain written c.args.block c.args.end
    ∙ ap (λ (es : List ℕ). set es c.args.block (plain c.args.end)) all
    ∙ ap (set c.args.self.now.items c.args.block) (mod-eq_of_lt (omega (arith, c.ranges.end)))
