use Rattle.std.proofs.Common.{◌≡◌, refl, ℕ, ◌+◌, ◌<◌, ◌≤◌, ◌++◌, List, length, take, drop, ap, sym, subst, ◌∙◌, arith, suc, get_or, slice_index, length-append, length-drop}
use Rattle.std.proofs.lemmas.List.{length-take-le}
use Rattle.amqp_blocks.specs.Chunked.{Block, items_of, ends_from, start_of}
use Rattle.amqp_blocks.specs.Inner.Changes.{IsTrimmed}
use Rattle.amqp_blocks.proofs.PlaceLemmas.{ends_long, start_more, start_few}
use Rattle.amqp_blocks.proofs.LeaveLemmas.{some_block, settle_is, ends_low, length_without}
use Rattle.amqp_blocks.proofs.CutLemmas.{cut_is, drop_later, take_earlier, drop_seam, at_dropped, first_after, no_more, ends_drop, ends_enough_after, places_after}
use Rattle.amqp_blocks.proofs.cutting.cut_wide.Goals as goal

pub keep_back-requires : goal.keep_back-requires
keep_back-requires g c = record {
  within = λ p.
      let w = c.requires.to p in
      let k = c.keep_front-first.ensures in
      let bs = c.args.blocks.now.items in
      let cs = c.keep_front-first.new.blocks.items in
      let j = c.args.to.block in
      let same = drop_later cs bs (c.args.from.block + 1) j (omega (arith, c.requires.order)) k.rest.0 in
      (omega (arith, w.0, k.count.0), λ b e. w.1 b (e ∙ sym (at_dropped cs j b) ∙ ap (λ (xs : List (Block _)). get_or xs 0 b) same ∙ at_dropped bs j b));
}

pub take_out-requires-clause-order : goal.take_out-requires-clause-order
take_out-requires-clause-order g c = omega (arith, c.keep_front-first.ensures.next.1, c.requires.order)

pub take_out-requires-clause-within : goal.take_out-requires-clause-within
take_out-requires-clause-within g c = omega (arith, c.keep_back.ensures.count, c.keep_front-first.ensures.count.0, c.requires.within)

pub take_out-requires-clause-ends : goal.take_out-requires-clause-ends
take_out-requires-clause-ends g c =
    let long = ends_long c.args.base c.args.blocks.now.items c.args.ends.now.items c.requires.chunked.stops in
    omega (arith, c.keep_back.ensures.count, c.keep_front-first.ensures.count.0, c.keep_front-first.ensures.count.1, long)

-- how many running lengths are kept in front
first_long : (es : List ℕ) (n i j m : ℕ) → n ≤ i + 1 → i < j → j ≤ m → length es ≡ m → n ≡ length (take n es)
first_long es n i j m a b d e = sym (length-take-le n es (omega (arith, a, b, d, e)))

pub sink-base-requires-clause-block : goal.sink-base-requires-clause-block
sink-base-requires-clause-block g c =
    let k = c.keep_front-first.ensures in
    let es = c.keep_front-first.new.ends.items in
    let n = c.keep_front-first.result in
    let j = c.args.to.block in
    let long = ends_long c.args.base c.args.blocks.now.items c.args.ends.now.items c.requires.chunked.stops in
    let l = first_long es n c.args.from.block j (length c.args.blocks.now.items) k.next.1 c.requires.order c.requires.within (k.count.1 ∙ long) in
    omega (arith, ap length c.take_out.ensures.ends, length-append (take n es) (drop j es), l)

pub sink-base-requires-clause-enough : goal.sink-base-requires-clause-enough
sink-base-requires-clause-enough g c =
    let k = c.keep_front-first.ensures in
    let bs = c.args.blocks.now.items in
    let es = c.keep_front-first.new.ends.items in
    let n = c.keep_front-first.result in
    let j = c.args.to.block in
    let at = c.args.to.at in
    let base = c.args.base in
    let long = ends_long base bs c.args.ends.now.items c.requires.chunked.stops in
    let l = first_long es n c.args.from.block j (length bs) k.next.1 c.requires.order c.requires.within (k.count.1 ∙ long) in
    let after : drop n c.take_out.new.ends.items ≡ ends_from (base + start_of bs j) (drop j bs) =
    drop_seam (take n es) (drop j es) c.take_out.new.ends.items n c.take_out.ensures.ends l
    ∙ drop_later es c.args.ends.now.items (c.args.from.block + 1) j (omega (arith, c.requires.order)) k.rest.1
    ∙ ap (drop j) c.requires.chunked.stops ∙ ends_drop base (base + start_of bs j) bs j refl in
    let some = first_after bs j at c.requires.to in
    subst (λ (ks : List ℕ). (i : ℕ) → i < length ks → c.args.count ≤ slice_index ks i) (sym after)
    (ends_enough_after (base + start_of bs j) c.args.count at (drop j bs) (λ b e. no_more at (length b.items) (some b e)) (omega (arith, c.requires.count)))

pub sink-base-requires-clause-fits : goal.sink-base-requires-clause-fits
sink-base-requires-clause-fits g c =
    let bs = c.args.blocks.now.items in
    let j = c.args.to.block in
    let at = c.args.to.at in
    let most = places_after bs j at c.requires.to in
    omega (arith, most, c.requires.count, c.requires.chunked.low, c.requires.chunked.few)

pub settle-requires : goal.settle-requires
settle-requires g c =
    let k = c.keep_front-first.ensures in
    let bs = c.args.blocks.now.items in
    let cs = c.keep_front-first.new.blocks.items in
    let ds = c.keep_back.new.blocks.items in
    let es = c.keep_front-first.new.ends.items in
    let n = c.keep_front-first.result in
    let i = c.args.from.block in
    let j = c.args.to.block in
    let long = ends_long c.args.base bs c.args.ends.now.items c.requires.chunked.stops in
    let l = first_long es n i j (length bs) k.next.1 c.requires.order c.requires.within (k.count.1 ∙ long) in
    let lt : i < length bs = omega (arith, c.requires.order, c.requires.within) in
    let b = some_block bs i lt in
    let low : c.args.rank ≤ length (items_of bs) = omega (arith, c.requires.rank, c.requires.from b.0 b.1, start_more bs i b.0 lt b.1, start_few bs (suc i)) in
    let front = take_earlier ds cs n j (omega (arith, k.next.1, c.requires.order)) c.keep_back.ensures.before in
    let tail = drop_later cs bs (i + 1) j (omega (arith, c.requires.order)) k.rest.0 in
    let trimmed = subst (λ (xs : List (Block _)). IsTrimmed xs c.args.to.at (drop j ds)) tail c.keep_back.ensures.trimmed in
    let whole : c.take_out.new.blocks.items ≡ take n cs ++ drop j ds = c.take_out.ensures.blocks ∙ ap (λ (xs : List (Block _)). xs ++ drop j ds) front in
    let left : c.take_out.new.ends.items ≡ take n es ++ drop j c.args.ends.now.items = c.take_out.ensures.ends ∙ ap (λ (ks : List ℕ). take n es ++ ks) (drop_later es c.args.ends.now.items (i + 1) j (omega (arith, c.requires.order)) k.rest.1) in
    let r = cut_is c.args.base c.sink-base.result c.args.rank c.args.count j c.args.to.at n bs (take n cs) (drop j ds) c.take_out.new.blocks.items c.args.ends.now.items (take n es) c.take_out.new.ends.items c.sink-base.new.ends.items c.requires.chunked k.front l trimmed c.requires.to low c.requires.count whole left c.sink-base.ensures.first c.sink-base.ensures.other in
    record { enough = subst (λ (ks : List ℕ). (i : ℕ) → i < length ks → c.sink-base.result ≤ slice_index ks i) (sym r.stops) (ends_low c.sink-base.result c.take_out.new.blocks.items) }

pub returns : goal.returns
returns g c =
    let k = c.keep_front-first.ensures in
    let bs = c.args.blocks.now.items in
    let cs = c.keep_front-first.new.blocks.items in
    let ds = c.keep_back.new.blocks.items in
    let es = c.keep_front-first.new.ends.items in
    let n = c.keep_front-first.result in
    let i = c.args.from.block in
    let j = c.args.to.block in
    let long = ends_long c.args.base bs c.args.ends.now.items c.requires.chunked.stops in
    let l = first_long es n i j (length bs) k.next.1 c.requires.order c.requires.within (k.count.1 ∙ long) in
    let lt : i < length bs = omega (arith, c.requires.order, c.requires.within) in
    let b = some_block bs i lt in
    let low : c.args.rank ≤ length (items_of bs) = omega (arith, c.requires.rank, c.requires.from b.0 b.1, start_more bs i b.0 lt b.1, start_few bs (suc i)) in
    let front = take_earlier ds cs n j (omega (arith, k.next.1, c.requires.order)) c.keep_back.ensures.before in
    let tail = drop_later cs bs (i + 1) j (omega (arith, c.requires.order)) k.rest.0 in
    let trimmed = subst (λ (xs : List (Block _)). IsTrimmed xs c.args.to.at (drop j ds)) tail c.keep_back.ensures.trimmed in
    let whole : c.take_out.new.blocks.items ≡ take n cs ++ drop j ds = c.take_out.ensures.blocks ∙ ap (λ (xs : List (Block _)). xs ++ drop j ds) front in
    let left : c.take_out.new.ends.items ≡ take n es ++ drop j c.args.ends.now.items = c.take_out.ensures.ends ∙ ap (λ (ks : List ℕ). take n es ++ ks) (drop_later es c.args.ends.now.items (i + 1) j (omega (arith, c.requires.order)) k.rest.1) in
    let r = cut_is c.args.base c.sink-base.result c.args.rank c.args.count j c.args.to.at n bs (take n cs) (drop j ds) c.take_out.new.blocks.items c.args.ends.now.items (take n es) c.take_out.new.ends.items c.sink-base.new.ends.items c.requires.chunked k.front l trimmed c.requires.to low c.requires.count whole left c.sink-base.ensures.first c.sink-base.ensures.other in
    let t = settle_is c.sink-base.result c.settle.result c.take_out.new.blocks.items c.sink-base.new.ends.items c.settle.new.ends.items r.stops c.settle.ensures.small c.settle.ensures.large in
    let fits = length-take-le n ds (omega (arith, k.next.1, c.requires.order, c.requires.within, c.keep_back.ensures.count, k.count.0)) in
    let few = length_without c.args.rank c.args.count (items_of bs) in
    record {
      chunked = record {
        stops = t.0;
        some = r.some;
        low = t.1;
        few = omega (arith, ap length r.items, few, c.requires.chunked.few);
      };
      items = r.items;
      rings = omega (arith, ap length c.take_out.ensures.blocks, length-append (take n ds) (drop j ds), length-drop j ds, fits, k.next.1, c.requires.order, c.requires.within, c.keep_back.ensures.count, k.count.0);
      capacity = (c.take_out.ensures.capacity.0 ∙ c.keep_back.ensures.capacity ∙ k.capacity.0, c.settle.ensures.capacity ∙ c.sink-base.ensures.capacity ∙ c.take_out.ensures.capacity.1 ∙ k.capacity.1);
    }
