use Rattle.std.proofs.Common.{◌+◌, ◌<◌, length, arith, inl}
use Rattle.amqp_blocks.proofs.PlaceLemmas.{ends_long}
use Rattle.amqp_blocks.proofs.LeaveLemmas.{some_at}
use Rattle.amqp_blocks.proofs.JoinLemmas.{joined_is}
use Rattle.amqp_blocks.proofs.joining.join.Goals as goal

pub is_to_join-requires : goal.is_to_join-requires
is_to_join-requires g c = record { block = omega (arith, c.if-block-saturating_sub.false, c.saturating_sub.ensures, c.len.ensures, c.args.blocks.now.ok.0) }

pub join_next-upper-requires : goal.join_next-upper-requires
join_next-upper-requires g c = record {
  block = omega (arith, c.if-block-saturating_sub.false, c.saturating_sub.ensures, c.len.ensures, c.args.blocks.now.ok.0);
  places = λ b d e f. (c.is_to_join.ensures.few.0 c.if-not-is_to_join.false b d e f).1;
}

pub remove-requires : goal.remove-requires
remove-requires g c =
    let long = ends_long c.args.base c.args.blocks.now.items c.args.ends.now.items c.requires.sound.chunked.stops in
    record { within = omega (arith, long, c.if-block-saturating_sub.false, c.saturating_sub.ensures, c.len.ensures, c.args.blocks.now.ok.0) }

pub returns : goal.returns
returns g c =
    let v = c.requires.sound in
    let bs = c.args.blocks.now.items in
    let i = c.args.block in
    let u = c.join_next-upper.ensures.joined in
    let h : i + 1 < length bs = omega (arith, c.if-block-saturating_sub.false, c.saturating_sub.ensures, c.len.ensures, c.args.blocks.now.ok.0) in
    let few = c.is_to_join.ensures.few.0 c.if-not-is_to_join.false u.lower u.upper u.lower_was u.upper_was in
    let size = some_at bs i u.lower v.chunked.some (omega (arith, h)) u.lower_was in
    let j = joined_is c.args.base bs c.join_next-upper.new.blocks.items c.args.ends.now.items c.remove.new.self.items i h u size.0 (omega (arith, few.0)) c.remove.ensures.items v.chunked in
    let k = c.keep.ensures in
    record {
      sound = record {
        chunked = j.chunked;
        spares = k.spares;
        blocks_fit = omega (arith, j.count, k.count, v.blocks_fit, c.join_next-upper.ensures.capacity);
        ends_fit = omega (arith, j.count, k.count, v.ends_fit, c.remove.ensures.capacity);
      };
      items = j.items;
      count = omega (arith, j.count);
      rings = omega (arith, j.count, k.count);
      kept = k.kept;
      either = inl (omega (arith, j.count), c.is_to_join.ensures.few.0 c.if-not-is_to_join.false);
    }
