use Rattle.std.proofs.Common.{ℕ, List, ◌+◌, length, map, ap, ◌∙◌, arith}
use Rattle.std.proofs.Math.Nat.{mod-eq_of_lt}
use Rattle.amqp_blocks.specs.Chunked.{RunningLengths}
use Rattle.amqp_blocks.specs.Inner.Shifted.{plain}
use Rattle.std.specs.List.{insert}
use Rattle.std.proofs.lemmas.List.Edits.{length-insert}
use Rattle.amqp_blocks.proofs.ShiftLemmas.{long, all_plain, map_insert}
use Rattle.amqp_blocks.proofs.ends.Ends.insert.Goals as goal

pub returns-clause-items : goal.returns-clause-items
returns-clause-items c =
    let same = long c.self.inside.from c.self.inside.shift c.self.inside.written.items in
    let is = ap (λ (v : RunningLengths). length v.items) c.self.view_is in
    let all = c.write_all-count.ensures.all ∙ ap (λ (v : RunningLengths). v.items) c.self.view_is in
    let put = c.insert_reserved.ensures.values in
    let written = c.write_all-count.new.written.items in
    let e = c.write_all-count.ensures in
    let more = length-insert written c.args.block c.args.end (omega (arith, c.requires.within, same, is, e.count, e.kept)) in
    all_plain (c.write_all-count.result + 1) c.self.inside.shift c.insert_reserved.new.values.items (omega (arith, ap length put, more, e.count))
    ∙ ap (map plain) put
    ∙ map_insert plain written c.args.block c.args.end
    ∙ ap (λ (es : List ℕ). insert es c.args.block (plain c.args.end)) all
    ∙ ap (insert c.args.self.now.items c.args.block) (mod-eq_of_lt (omega (arith, c.ranges.end)))
