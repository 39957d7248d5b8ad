use Rattle.std.proofs.Common.{ℕ, ◌-◌, ◌^◌, ◌<◌, List, length, drop, ap, sym, subst, ◌∙◌, arith, slice_index, length-set}
use Rattle.amqp_blocks.specs.Chunked.{places_of}
use Rattle.amqp_blocks.proofs.PlaceLemmas.{ends_long}
use Rattle.amqp_blocks.proofs.PutLemmas.{put_is, ends_high}
use Rattle.amqp_blocks.proofs.RoomLemmas.{places_set}
use Rattle.amqp_blocks.proofs.EndLemmas.{end_put}
use Rattle.amqp_blocks.proofs.adding.put_in.Goals as goal

pub put-requires-clause-place : goal.put-requires-clause-place
put-requires-clause-place g c = λ b e. let h = c.requires.place b e in omega (arith, h)

pub raise_from-requires-clause-block : goal.raise_from-requires-clause-block
raise_from-requires-clause-block g c =
    let long = ends_long c.args.base c.args.blocks.now.items c.args.ends.now.items c.requires.chunked.stops in
    omega (arith, long, c.requires.block)

pub raise_from-requires-clause-few : goal.raise_from-requires-clause-few
raise_from-requires-clause-few g c =
    let v = c.requires.chunked in
    subst (λ (ks : List ℕ). (k : ℕ) → k < length (drop c.args.place.block ks) → slice_index (drop c.args.place.block ks) k < 2 ^ 64 - 1) (sym v.stops) (λ k h. let m = ends_high c.args.base c.args.blocks.now.items c.args.place.block k h in omega (arith, m, v.low, v.few))

pub returns : goal.returns
returns g c =
    let bs = c.args.blocks.now.items in
    let i = c.args.place.block in
    let u = c.put.ensures.put in
    let p = put_is c.args.base bs c.put.new.blocks.items c.args.ends.now.items c.raise_from.new.ends.items i c.args.place.at c.args.item c.requires.block u (c.requires.within u.from u.was) (let h = c.requires.place u.from u.was in omega (arith, h)) c.requires.few c.raise_from.ensures.raised c.requires.chunked in
    let grown = places_set bs i u.from u.to c.requires.block u.was u.places in
    record {
      chunked = p.0;
      items = p.1;
      places = omega (arith, grown, ap places_of u.set);
      at_end = λ e. end_put bs c.put.new.blocks.items i c.args.place.at c.args.item e u (c.requires.within u.from u.was);
      count = ap length u.set ∙ length-set bs i u.to;
      capacity = (c.put.ensures.capacity, c.raise_from.ensures.capacity);
    }
