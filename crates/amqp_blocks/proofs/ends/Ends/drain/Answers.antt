use Rattle.std.proofs.Common.{ℕ, List, ◌-◌, ◌++◌, length, map, take, drop, ap, ◌∙◌, arith, length-append, length-drop}
use Rattle.std.proofs.lemmas.List.{length-take-le}
use Rattle.amqp_blocks.specs.Chunked.{RunningLengths}
use Rattle.amqp_blocks.specs.Inner.Shifted.{plain}
use Rattle.amqp_blocks.proofs.ShiftLemmas.{long, all_plain, map_without}
use Rattle.amqp_blocks.proofs.ends.Ends.drain.Goals as goal

pub returns-clause-items : goal.returns-clause-items
returns-clause-items c =
    let same = long c.self.inside.from c.self.inside.shift c.self.inside.written.items in
    let is = ap (λ (v : RunningLengths). length v.items) c.self.view_is in
    let all = c.write_all-count.ensures.all ∙ ap (λ (v : RunningLengths). v.items) c.self.view_is in
    let first = c.args.first in
    let next = c.args.next in
    let written = c.write_all-count.new.written.items in
    let e = c.write_all-count.ensures in
    let out = c.drain_written.ensures.items in
    let front = length-take-le first written (omega (arith, c.requires.order, c.requires.within, same, is, e.count, e.kept)) in
    all_plain (c.write_all-count.result - (next - first)) c.self.inside.shift c.drain_written.new.written.items
    (omega (arith, ap length out, length-append (take first written) (drop next written), front, length-drop next written, e.count, c.requires.order))
    ∙ ap (map plain) out
    ∙ map_without plain written first next
    ∙ ap (λ (es : List ℕ). take first es ++ drop next es) all
