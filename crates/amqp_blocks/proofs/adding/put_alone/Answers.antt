use Rattle.std.proofs.Common.{◌≡◌, ℕ, ◌+◌, ◌-◌, ◌^◌, ◌<◌, ◌∷◌, ◌++◌, [], List, length, drop, ap, sym, subst, ◌∙◌, arith, slice_index, length-append}
use Rattle.std.specs.List.{insert}
use Rattle.std.proofs.lemmas.List.Edits.{length-insert}
use Rattle.amqp_blocks.specs.Chunked.{EachSpare, places_of}
use Rattle.amqp_blocks.proofs.PlaceLemmas.{ends_long, start_is, start_few}
use Rattle.amqp_blocks.proofs.PutLemmas.{ends_high}
use Rattle.amqp_blocks.proofs.RoomLemmas.{popped, length_raised, spares_front, spares_last, places_insert, places_append}
use Rattle.amqp_blocks.proofs.SplitLemmas.{alone_is}
use Rattle.amqp_blocks.proofs.adding.put_alone.Goals as goal

pub push_back_reserved-requires : goal.push_back_reserved-requires
push_back_reserved-requires g c =
    let sp = popped c.pop.result c.unwrap-ring.result c.args.spare.now.items c.pop.new.self.items c.unwrap-ring.ensures c.pop.ensures.items in
    let ring = spares_last c.pop.new.self.items c.unwrap-ring.result (subst EachSpare sp c.requires.spares) in
    omega (arith, ring.1, c.unwrap-ring.result.ok.0, ap length ring.0)

pub start-end-requires : goal.start-end-requires
start-end-requires g c =
    let long = ends_long c.args.base c.args.blocks.now.items c.args.ends.now.items c.requires.chunked.stops in
    omega (arith, long, c.requires.block)

pub overflow_add-end : goal.overflow_add-end
overflow_add-end g c =
    let bs = c.args.blocks.now.items in
    let s = start_is c.args.base bs c.args.ends.now.items c.args.block c.start-end.result c.requires.chunked.stops c.requires.block c.start-end.ensures.first c.start-end.ensures.other in
    omega (arith, s, start_few bs c.args.block, c.requires.chunked.low, c.requires.chunked.few)

pub raise_from-requires-clause-block : goal.raise_from-requires-clause-block
raise_from-requires-clause-block g c =
    let long = ends_long c.args.base c.args.blocks.now.items c.args.ends.now.items c.requires.chunked.stops in
    omega (arith, long, c.requires.block)

pub raise_from-requires-clause-few : goal.raise_from-requires-clause-few
raise_from-requires-clause-few g c =
    let v = c.requires.chunked in
    subst (λ (ks : List ℕ). (k : ℕ) → k < length (drop c.args.block ks) → slice_index (drop c.args.block ks) k < 2 ^ 64 - 1) (sym v.stops) (λ k h. let m = ends_high c.args.base c.args.blocks.now.items c.args.block k h in omega (arith, m, v.low, v.few))

pub insert-requires : goal.insert-requires
insert-requires g c =
    let long = ends_long c.args.base c.args.blocks.now.items c.args.ends.now.items c.requires.chunked.stops in
    let same = length_raised (λ e. e + 1) c.args.block c.args.ends.now.items in
    let raised = ap length c.raise_from.ensures.raised in
    record {
      within = omega (arith, raised, same, long, c.requires.block);
      room = omega (arith, raised, same, long, c.requires.ends_fit, c.requires.spare, c.raise_from.ensures.capacity);
    }

pub insert_reserved-requires : goal.insert_reserved-requires
insert_reserved-requires g c = record { within = c.requires.block; room = omega (arith, c.requires.blocks_fit, c.requires.spare) }

pub returns : goal.returns
returns g c =
    let bs = c.args.blocks.now.items in
    let k = c.args.block in
    let ring = c.unwrap-ring.result in
    let full = c.push_back_reserved.new.self in
    let left = c.pop.new.self.items in
    let sp = popped c.pop.result ring c.args.spare.now.items left c.unwrap-ring.ensures c.pop.ensures.items in
    let spares = subst EachSpare sp c.requires.spares in
    let one : full.items ≡ c.args.item ∷ [] = c.push_back_reserved.ensures.items ∙ ap (λ (xs : List _). xs ++ c.args.item ∷ []) (spares_last left ring spares).0 in
    let es : c.insert.new.self.items ≡ insert c.raise_from.new.ends.items k (c.start-end.result + 1) = c.insert.ensures.items in
    let ds : c.insert_reserved.new.values.items ≡ insert bs k full = c.insert_reserved.ensures.values in
    let s = start_is c.args.base bs c.args.ends.now.items k c.start-end.result c.requires.chunked.stops c.requires.block c.start-end.ensures.first c.start-end.ensures.other in
    let a = alone_is c.args.base c.start-end.result bs c.insert_reserved.new.values.items c.args.ends.now.items c.insert.new.self.items k full c.args.item c.requires.block one ds s (es ∙ ap (λ (ks : List ℕ). insert ks k (c.start-end.result + 1)) c.raise_from.ensures.raised) c.requires.few c.requires.chunked in
    record {
      chunked = a.0;
      spares = spares_front left ring spares;
      items = a.1;
      kept = record {
        rings = omega (arith, ap length ds, length-insert bs k full c.requires.block, ap length sp, length-append left (ring ∷ []));
        places = omega (arith, ap places_of ds, places_insert bs k full c.requires.block, ap places_of sp, places_append left (ring ∷ []), c.push_back_reserved.ensures.capacity);
      };
      count = omega (arith, ap length ds, length-insert bs k full c.requires.block);
      capacity = (c.insert_reserved.ensures.capacity, omega (arith, c.insert.ensures.capacity, c.raise_from.ensures.capacity));
    }
