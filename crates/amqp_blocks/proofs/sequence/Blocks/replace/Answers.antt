use Rattle.std.proofs.Common.{◌<◌, length, ap, ◌∙◌, arith, set, length-set}
use Rattle.amqp_blocks.specs.Chunked.{items_of, Sequence}
use Rattle.amqp_blocks.proofs.PlaceLemmas.{reaches, located}
use Rattle.amqp_blocks.proofs.ReplaceLemmas.{items_replaced, replaced_chunked, places_same}
use Rattle.amqp_blocks.proofs.EndLemmas.{end_replaced}
use Rattle.amqp_blocks.proofs.sequence.Blocks.replace.Goals as goal

pub locate_near-place-requires : goal.locate_near-place-requires
locate_near-place-requires g c =
    let v = c.self.invariant.0.chunked in
    let s = c.self.inside in
    let old = ap (λ (s : Sequence _). length s.items) c.self.view_is in
    let within : c.args.rank < length (items_of s.blocks.items) = omega (arith, old, c.requires.within) in
    let r = reaches s.base s.blocks.items s.ends.items c.args.rank v.stops within in
    record { some = r.0; fits = omega (arith, within, v.low, v.few); within = r.1 }

pub write_at-requires : goal.write_at-requires
write_at-requires g c =
    let e = c.locate_near-place.ensures in
    let s = c.self.inside in
    let l = located s.base s.blocks.items s.ends.items c.locate_near-place.result.block c.locate_near-place.result.at c.args.rank c.self.invariant.0.chunked.stops e.block e.first e.other e.after in
    record { block = l.block_is; within = l.item }

pub invariant_of-self : goal.invariant_of-self
invariant_of-self g c =
    let e = c.locate_near-place.ensures in
    let s = c.self.inside in
    let v = c.self.invariant.0 in
    let l = located s.base s.blocks.items s.ends.items c.locate_near-place.result.block c.locate_near-place.result.at c.args.rank v.chunked.stops e.block e.first e.other e.after in
    let u = c.write_at.ensures.replaced in
    let count = ap length u.set ∙ length-set s.blocks.items c.locate_near-place.result.block u.to in
    let items = items_replaced s.blocks.items c.write_at.new.blocks.items c.locate_near-place.result.block c.locate_near-place.result.at c.args.rank c.args.item l.block_is u (l.item u.from u.was) l.rank_is in (
      record {
        chunked = replaced_chunked s.base s.blocks.items c.write_at.new.blocks.items s.ends.items c.locate_near-place.result.block c.locate_near-place.result.at c.args.item l.block_is u v.chunked;
        spares = v.spares;
        blocks_fit = omega (arith, count, v.blocks_fit, c.write_at.ensures.capacity);
        ends_fit = omega (arith, count, v.ends_fit);
      },
      omega (arith, ap length items, length-set (items_of s.blocks.items) c.args.rank c.args.item, c.self.invariant.1),
    )

pub returns : goal.returns
returns g c =
    let e = c.locate_near-place.ensures in
    let s = c.self.inside in
    let l = located s.base s.blocks.items s.ends.items c.locate_near-place.result.block c.locate_near-place.result.at c.args.rank c.self.invariant.0.chunked.stops e.block e.first e.other e.after in
    let u = c.write_at.ensures.replaced in
    let items = items_replaced s.blocks.items c.write_at.new.blocks.items c.locate_near-place.result.block c.locate_near-place.result.at c.args.rank c.args.item l.block_is u (l.item u.from u.was) l.rank_is in
    let places = places_same s.blocks.items c.write_at.new.blocks.items c.locate_near-place.result.block c.locate_near-place.result.at c.args.item l.block_is u in
    record {
      items = items ∙ ap (λ (s : Sequence _). set s.items c.args.rank c.args.item) c.self.view_is;
      room = omega (arith, ap (λ (s : Sequence _). s.room) c.self.view_is, places, ap length items, length-set (items_of s.blocks.items) c.args.rank c.args.item);
      rings = (
        ap length u.set ∙ length-set s.blocks.items c.locate_near-place.result.block u.to ∙ ap (λ (s : Sequence _). s.blocks) c.self.view_is,
        ap (λ (s : Sequence _). s.spare) c.self.view_is,
        end_replaced s.blocks.items c.write_at.new.blocks.items c.locate_near-place.result.block c.locate_near-place.result.at c.args.item l.block_is u (ap length u.items ∙ length-set u.from.items c.locate_near-place.result.at c.args.item) ∙ ap (λ (s : Sequence _). s.at_end) c.self.view_is,
      );
    }
