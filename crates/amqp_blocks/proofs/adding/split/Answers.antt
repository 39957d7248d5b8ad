use Rattle.std.proofs.Common.{◌≡◌, ℕ, ◌+◌, ◌-◌, ◌<◌, ◌∷◌, [], List, length, get_or, ap, sym, subst, ◌∙◌, arith, add-one, length-append, length-drop}
use Rattle.std.specs.List.{insert}
use Rattle.std.proofs.lemmas.Grind.{get_or_default_zero}
use Rattle.amqp_blocks.specs.Chunked.{EachSpare, places_of}
use Rattle.amqp_blocks.proofs.PlaceLemmas.{ends_long, same_at}
use Rattle.amqp_blocks.proofs.PutLemmas.{end_covers, size_of}
use Rattle.amqp_blocks.proofs.LeaveLemmas.{some_at}
use Rattle.amqp_blocks.proofs.RoomLemmas.{popped, spares_front, spares_last, places_append}
use Rattle.amqp_blocks.proofs.SplitLemmas.{split_is, sided}
use Rattle.amqp_blocks.proofs.adding.split.Goals as goal

pub halve-upper-requires-clause-empty : goal.halve-upper-requires-clause-empty
halve-upper-requires-clause-empty g c =
    let sp = popped c.pop.result c.unwrap-ring.result c.args.spare.now.items c.pop.new.self.items c.unwrap-ring.ensures c.pop.ensures.items in
    (spares_last c.pop.new.self.items c.unwrap-ring.result (subst EachSpare sp c.requires.spares)).0

pub cut_point-half-requires-clause-most : goal.cut_point-half-requires-clause-most
cut_point-half-requires-clause-most g c =
    let size = some_at c.args.blocks.now.items c.args.place.block c.index.result.now c.requires.chunked.some c.requires.block c.index.ensures in
    omega (arith, size.1, c.len-most.ensures, c.index.result.now.ok.0)

pub cut_point-half-requires-clause-places : goal.cut_point-half-requires-clause-places
cut_point-half-requires-clause-places g c =
    let sp = popped c.pop.result c.unwrap-ring.result c.args.spare.now.items c.pop.new.self.items c.unwrap-ring.ensures c.pop.ensures.items in
    omega (arith, (spares_last c.pop.new.self.items c.unwrap-ring.result (subst EachSpare sp c.requires.spares)).1, c.capacity.ensures)

pub at-requires : goal.at-requires
at-requires g c =
    let long = ends_long c.args.base c.args.blocks.now.items c.args.ends.now.items c.requires.chunked.stops in
    record { block = omega (arith, long, c.requires.block) }

pub overflow_sub-end : goal.overflow_sub-end
overflow_sub-end g c =
    let bs = c.args.blocks.now.items in
    let u = c.halve-upper.ensures.halved in
    let upper = c.halve-upper.result in
    let cover = end_covers c.args.base bs c.args.place.block u.from 0 c.requires.block u.was in
    let end = c.at.ensures ∙ ap (λ (ks : List ℕ). get_or ks c.args.place.block 0) c.requires.chunked.stops in
    omega (arith, cover, end, c.len.ensures, upper.ok.0, ap length u.rest, length-drop c.cut_point-half.result u.from.items)

pub insert-requires : goal.insert-requires
insert-requires g c =
    let long = ends_long c.args.base c.args.blocks.now.items c.args.ends.now.items c.requires.chunked.stops in
    record {
      within = omega (arith, long, c.requires.block);
      room = omega (arith, long, c.requires.ends_fit, c.requires.spare);
    }

pub returns : goal.returns
returns g c =
    let bs = c.args.blocks.now.items in
    let es = c.args.ends.now.items in
    let i = c.args.place.block in
    let ring = c.unwrap-ring.result in
    let left = c.pop.new.self.items in
    let sp = popped c.pop.result ring c.args.spare.now.items left c.unwrap-ring.ensures c.pop.ensures.items in
    let spares = subst EachSpare sp c.requires.spares in
    let empty = spares_last left ring spares in
    let u = c.halve-upper.ensures.halved in
    let upper = c.halve-upper.result in
    let half = c.cut_point-half.result in
    let within = c.requires.within u.from u.was in
    let same = size_of c.index.result.now u.from (same_at bs i c.index.result.now u.from c.requires.block c.index.ensures u.was) in
    let cut = c.cut_point-half.ensures in
    let long : c.len-most.result ≡ length u.from.items = omega (arith, same, c.index.result.now.ok.0, c.len-most.ensures) in
    let low : half < length u.from.items = omega (arith, long, cut.less) in
    let rest : length upper.items ≡ length u.from.items - half = ap length u.rest ∙ length-drop half u.from.items in
    let fs : c.insert.new.self.items ≡ insert es i (c.at.result - c.len.result) = c.insert.ensures.items in
    let ds : c.insert-2.new.self.items ≡ insert c.halve-upper.new.blocks.items (i + 1) upper = rw c.unwrap.ensures at c.insert-2.ensures.items in
    let end = c.at.ensures ∙ sym (get_or_default_zero es i c.at.result (omega (arith, ends_long c.args.base bs es c.requires.chunked.stops, c.requires.block))) in
    let s = split_is c.args.base bs c.halve-upper.new.blocks.items c.insert-2.new.self.items es c.insert.new.self.items i (i + 1) half c.at.result c.len.result ring upper c.requires.block u cut.some low (add-one i) ds (c.len.ensures ∙ upper.ok.0) end fs c.requires.chunked in
    let side = sided c.args.base bs c.insert-2.new.self.items c.insert.new.self.items i c.args.place.at half c.side_of.result.block c.side_of.result.at upper c.requires.block s
    (omega (arith, rest, low, within)) (λ lt. let r = cut.room lt in omega (arith, r, rest, long, u.upper_places, c.capacity.ensures)) c.side_of.ensures.lower c.side_of.ensures.upper in
    record {
      chunked = s.chunked;
      spares = spares_front left ring spares;
      items = s.items;
      kept = record {
        rings = omega (arith, s.count, ap length sp, length-append left (ring ∷ []));
        places = omega (arith, s.places, ap places_of sp, places_append left (ring ∷ []), u.upper_places);
      };
      count = omega (arith, s.count);
      block = side.block;
      start = side.start;
      within = side.within;
      place = side.place;
      capacity = (omega (arith, c.insert-2.ensures.capacity, c.halve-upper.ensures.capacity), c.insert.ensures.capacity);
    }
