use Rattle.std.proofs.Common.{◌+◌, ◌<◌, length, ap, arith}
use Rattle.amqp_blocks.specs.Chunked.{Block}
use Rattle.amqp_blocks.proofs.PlaceLemmas.{same_at}
use Rattle.amqp_blocks.proofs.PutLemmas.{size_of}
use Rattle.amqp_blocks.proofs.joining.is_to_join.Goals as goal

pub returns : goal.returns
returns g c = record {
  few = (
    λ t b d e f.
        let bs = c.args.blocks.now.items in
        let i = c.args.block in
        let w = c.are_few.ensures.few.0 t in
        let h : i < length bs = omega (arith, c.requires.block) in
        let lower = same_at bs i c.index.result.now b h c.index.ensures e in
        let upper = same_at bs (i + 1) c.index-2.result.now d c.requires.block c.index-2.ensures f in
        let cap = ap (λ (x : Block _). x.cap) lower in
        let few = size_of c.index.result.now b lower in
        let more = size_of c.index-2.result.now d upper in
        (omega (arith, w.0, few, more), omega (arith, w.1, few, more, cap)),
    λ w. c.are_few.ensures.few.1 (w c.index.result.now c.index-2.result.now c.index.ensures c.index-2.ensures),
  );
}
