use Rattle.std.proofs.Common.{length, ap, arith}
use Rattle.amqp_blocks.specs.Chunked.{RunningLengths}
use Rattle.amqp_blocks.proofs.ShiftLemmas.{long}
use Rattle.amqp_blocks.proofs.ends.Ends.len.Goals as goal

pub returns : goal.returns
returns c =
    let same = long c.self.inside.from c.self.inside.shift c.self.inside.written.items in
    let is = ap (λ (v : RunningLengths). length v.items) c.self.view_is in
    omega (arith, c.len.ensures, c.self.inside.written.ok.0, same, is)
