use Rattle.std.proofs.Common.{◌≡◌, length, ap, ◌∙◌, arith}
use Rattle.amqp_blocks.specs.Chunked.{Sequence}
use Rattle.amqp_blocks.proofs.CountLemmas.{most_blocks, least_blocks}
use Rattle.amqp_blocks.proofs.sequence.Blocks.blocks.Goals as goal

pub returns : goal.returns
returns g c =
    let bs = c.self.inside.blocks.items in
    let some = c.self.invariant.0.chunked.some in
    let items = ap (λ (s : Sequence _). length s.items) c.self.view_is in
    let count = ap (λ (s : Sequence _). s.blocks) c.self.view_is in
    let len : c.len.result ≡ length bs = omega (arith, c.len.ensures, c.self.inside.blocks.ok.0) in
    record {
      count = len ∙ count;
      most = omega (arith, len, items, most_blocks bs some);
      least = omega (arith, len, items, least_blocks bs some);
    }
