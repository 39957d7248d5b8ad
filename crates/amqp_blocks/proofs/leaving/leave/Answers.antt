use Rattle.std.proofs.Common.{ℕ, ◌^◌, ◌+◌, ◌<◌, ◌≤◌, List, length, drop, take, ap, sym, subst, ◌∙◌, refl, arith, slice_index, length-set}
use Rattle.amqp_blocks.specs.Chunked.{items_of, ends_from, start_of}
use Rattle.amqp_blocks.specs.Inner.Changes.{EachSomeBut}
use Rattle.amqp_blocks.proofs.PlaceLemmas.{ends_long, start_few}
use Rattle.amqp_blocks.proofs.LeaveLemmas.{size_thinned, ends_enough, ends_high, sunk_or_risen, items_thinned, length_without, some_but_set, some_at}
use Rattle.amqp_blocks.proofs.CutLemmas.{ends_take}
use Rattle.amqp_blocks.proofs.leaving.leave.Goals as goal

pub sink_or_rise-base-requires-clause-block : goal.sink_or_rise-base-requires-clause-block
sink_or_rise-base-requires-clause-block g c =
    let long = ends_long c.args.base c.args.blocks.now.items c.args.ends.now.items c.requires.chunked.stops in
    omega (arith, long, c.requires.block)

pub sink_or_rise-base-requires-clause-fits : goal.sink_or_rise-base-requires-clause-fits
sink_or_rise-base-requires-clause-fits g c =
    let v = c.requires.chunked in
    let t = c.thin.ensures.thinned in
    let w = c.requires.within t.from t.was in
    let size = some_at c.args.blocks.now.items c.args.place.block t.from v.some c.requires.block t.was in
    omega (arith, v.low, w, size.1)

pub sink_or_rise-base-requires-clause-enough : goal.sink_or_rise-base-requires-clause-enough
sink_or_rise-base-requires-clause-enough g c =
    let t = c.thin.ensures.thinned in
    let w = c.requires.within t.from t.was in
    let i = c.args.place.block in
    subst (λ (ks : List ℕ). (k : ℕ) → k < length (drop i ks) → c.args.count ≤ slice_index (drop i ks) k) (sym c.requires.chunked.stops) (ends_enough c.args.base c.args.blocks.now.items i c.args.count t.from c.requires.block t.was (omega (arith, w)))

pub sink_or_rise-base-requires-clause-few : goal.sink_or_rise-base-requires-clause-few
sink_or_rise-base-requires-clause-few g c =
    let bs = c.args.blocks.now.items in
    let i = c.args.place.block in
    let v = c.requires.chunked in
    let t = c.thin.ensures.thinned in
    let w = c.requires.within t.from t.was in
    let size = some_at bs i t.from v.some c.requires.block t.was in
    let front = ap (take i) v.stops ∙ ends_take c.args.base bs i in
    subst (λ (ks : List ℕ). (k : ℕ) → k < length ks → slice_index ks k + c.args.count < 2 ^ 64) (sym front)
    (λ k lt. let high = ends_high c.args.base (take i bs) k lt in omega (arith, high, start_few bs i, v.low, v.few, w, size.1))

pub tidy-requires : goal.tidy-requires
tidy-requires g c =
    let bs = c.args.blocks.now.items in
    let i = c.args.place.block in
    let v = c.requires.chunked in
    let t = c.thin.ensures.thinned in
    let w = c.requires.within t.from t.was in
    let size = size_thinned t.from t.to c.args.place.at c.args.count w t.items in
    let big = some_at bs i t.from v.some c.requires.block t.was in
    let stops = sunk_or_risen c.args.base c.sink_or_rise-base.result bs c.args.ends.now.items c.sink_or_rise-base.new.ends.items i c.args.count t.from t.to c.requires.block t.was size v.stops c.sink_or_rise-base.ensures.either in
    let items = items_thinned bs i c.args.place.at c.args.count _ t.from t.to c.requires.block t.was w t.items refl in
    let few = length_without (start_of bs i + c.args.place.at) c.args.count (items_of bs) in
    record {
      stops = stops ∙ ap (ends_from c.sink_or_rise-base.result) (sym t.set);
      some = subst (λ xs. EachSomeBut xs i) (sym t.set) (some_but_set bs i t.to v.some (omega (arith, size, big.1)));
      few = omega (arith, ap length (ap items_of t.set ∙ items), few, v.few);
      block = omega (arith, ap length t.set, length-set bs i t.to, c.requires.block);
      spares = c.requires.spares;
    }

pub returns : goal.returns
returns g c =
    let bs = c.args.blocks.now.items in
    let i = c.args.place.block in
    let t = c.thin.ensures.thinned in
    let w = c.requires.within t.from t.was in
    let e = c.tidy.ensures in
    let count = ap length t.set ∙ length-set bs i t.to in
    record {
      chunked = e.chunked;
      items = e.items ∙ ap items_of t.set ∙ items_thinned bs i c.args.place.at c.args.count _ t.from t.to c.requires.block t.was w t.items refl;
      spares = e.spares;
      count = omega (arith, e.count, count);
      rings = omega (arith, e.rings, count);
      kept = e.kept;
      capacity = (e.capacity.0 ∙ c.thin.ensures.capacity, e.capacity.1 ∙ c.sink_or_rise-base.ensures.capacity);
    }
