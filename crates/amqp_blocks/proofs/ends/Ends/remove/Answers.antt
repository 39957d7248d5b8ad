use Rattle.std.proofs.Common.{ℕ, List, ◌-◌, length, map, ap, ◌∙◌, arith}
use Rattle.amqp_blocks.specs.Chunked.{RunningLengths}
use Rattle.amqp_blocks.specs.Inner.Shifted.{plain}
use Rattle.std.specs.List.{remove}
use Rattle.std.proofs.lemmas.List.Edits.{length-remove}
use Rattle.amqp_blocks.proofs.ShiftLemmas.{long, all_plain, map_remove}
use Rattle.amqp_blocks.proofs.ends.Ends.remove.Goals as goal

pub returns-clause-items : goal.returns-clause-items
returns-clause-items c =
    let same = long c.self.inside.from c.self.inside.shift c.self.inside.written.items in
    let is = ap (λ (v : RunningLengths). length v.items) c.self.view_is in
    let all = c.write_all-count.ensures.all ∙ ap (λ (v : RunningLengths). v.items) c.self.view_is in
    let written = c.write_all-count.new.written.items in
    let e = c.write_all-count.ensures in
    let fewer = length-remove written c.args.block (omega (arith, c.requires.within, same, is, e.count, e.kept)) in
    all_plain (c.write_all-count.result - 1) c.self.inside.shift c.remove.new.self.items (omega (arith, ap length c.remove.ensures.items, fewer, e.count))
    ∙ ap (map plain) c.remove.ensures.items
    ∙ map_remove plain written c.args.block
    ∙ ap (λ (es : List ℕ). remove es c.args.block) all
