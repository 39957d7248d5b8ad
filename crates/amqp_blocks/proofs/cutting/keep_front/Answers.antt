use Rattle.std.proofs.Common.{◌≡◌, ℕ, ◌+◌, ◌-◌, List, length, take, drop, ap, sym, subst, ◌∙◌, arith, suc, length-set, set}
use Rattle.std.proofs.lemmas.List.{length-take-le}
use Rattle.amqp_blocks.specs.Chunked.{Block, items_of, ends_from, EachSome}
use Rattle.amqp_blocks.proofs.PlaceLemmas.{ends_long, same_at, start_more, start_few}
use Rattle.amqp_blocks.proofs.LeaveLemmas.{some_at, some_set}
use Rattle.amqp_blocks.proofs.PutLemmas.{size_of}
use Rattle.amqp_blocks.proofs.CutLemmas.{some_take, ends_take, items_take, ends_take_in, items_take_in, kept_front, drop_set_over}
use Rattle.amqp_blocks.proofs.cutting.keep_front.Goals as goal

pub returns-then-place-eq0-clause-front : goal.returns-then-place-eq0-clause-front
returns-then-place-eq0-clause-front g c =
    let bs = c.args.blocks.now.items in
    let i = c.args.place.block in
    record {
      stops = ap (take i) c.requires.chunked.stops ∙ ends_take c.args.base bs i;
      some = some_take bs i c.requires.chunked.some;
      is = items_take bs i c.args.rank (omega (arith, c.requires.rank));
    }

pub overflow_sub-count : goal.overflow_sub-count
overflow_sub-count g c =
    let h = c.requires.within c.index.result.now c.index.ensures in
    omega (arith, h, c.len.ensures, c.index.result.now.ok.0)

pub thin-requires-clause-within : goal.thin-requires-clause-within
thin-requires-clause-within g c = λ b e.
    let h = c.requires.within b e in
    let same = size_of c.index.result.now b (same_at c.args.blocks.now.items c.args.place.block c.index.result.now b c.requires.block c.index.ensures e) in
    omega (arith, h, same, c.len.ensures, c.index.result.now.ok.0)

pub overflow_add-base : goal.overflow_add-base
overflow_add-base g c =
    let bs = c.args.blocks.now.items in
    let i = c.args.place.block in
    let t = c.thin.ensures.thinned in
    let more = start_more bs i t.from c.requires.block t.was in
    omega (arith, c.requires.rank, more, start_few bs (suc i), c.requires.within t.from t.was, c.requires.chunked.low, c.requires.chunked.few)

pub set-requires : goal.set-requires
set-requires g c =
    let long = ends_long c.args.base c.args.blocks.now.items c.args.ends.now.items c.requires.chunked.stops in
    record { within = omega (arith, long, c.requires.block) }

pub returns-clause-front : goal.returns-clause-front
returns-clause-front g c =
    let bs = c.args.blocks.now.items in
    let i = c.args.place.block in
    let at = c.args.place.at in
    let v = c.requires.chunked in
    let t = c.thin.ensures.thinned in
    let w = c.requires.within t.from t.was in
    let same = size_of c.index.result.now t.from (same_at bs i c.index.result.now t.from c.requires.block c.index.ensures t.was) in
    let count = c.len.result - at in
    let whole : at + count ≡ length t.from.items = omega (arith, w, same, c.len.ensures, c.index.result.now.ok.0) in
    let kept = kept_front t.from t.to at count whole t.items in
    let size : length t.to.items ≡ at = ap length kept ∙ length-take-le at t.from.items (omega (arith, w)) in
    let big = some_at bs i t.from v.some c.requires.block t.was in
    let is = items_take_in bs i at c.args.rank t.from t.to c.requires.block t.was (omega (arith, w)) kept c.requires.rank in
    record {
      stops = ap (take (i + 1)) c.set.ensures.items ∙ ap (λ (ks : List ℕ). take (i + 1) (set ks i (c.args.base + c.args.rank))) v.stops ∙ ends_take_in c.args.base (c.args.base + c.args.rank) bs i t.to c.requires.block (omega (arith, size, c.requires.rank)) ∙ ap (λ (xs : List (Block _)). ends_from c.args.base (take (i + 1) xs)) (sym t.set);
      some = subst (λ (xs : List (Block _)). EachSome (take (i + 1) xs)) (sym t.set) (some_take (set bs i t.to) (i + 1) (some_set bs i t.to v.some (omega (arith, size)) (omega (arith, size, w, big.1))));
      is = ap (λ (xs : List (Block _)). items_of (take (i + 1) xs)) t.set ∙ is;
    }

pub returns-clause-rest : goal.returns-clause-rest
returns-clause-rest g c =
    let i = c.args.place.block in
    let t = c.thin.ensures.thinned in
    (ap (drop (i + 1)) t.set ∙ drop_set_over c.args.blocks.now.items i t.to, ap (drop (i + 1)) c.set.ensures.items ∙ drop_set_over c.args.ends.now.items i (c.args.base + c.args.rank))

pub returns-clause-count : goal.returns-clause-count
returns-clause-count g c =
    let i = c.args.place.block in
    let t = c.thin.ensures.thinned in
    (ap length t.set ∙ length-set c.args.blocks.now.items i t.to, ap length c.set.ensures.items ∙ length-set c.args.ends.now.items i (c.args.base + c.args.rank))
