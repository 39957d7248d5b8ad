use Rattle.std.proofs.Common.{◌≡◌, ◌+◌, length, ap, sym, ◌∙◌, arith, add-one}
use Rattle.std.specs.List.{insert}
use Rattle.amqp_blocks.specs.Chunked.{items_of, start_of}
use Rattle.amqp_blocks.proofs.PlaceLemmas.{same_at}
use Rattle.amqp_blocks.proofs.PutLemmas.{size_of}
use Rattle.amqp_blocks.proofs.PassLemmas.{end_start}
use Rattle.amqp_blocks.proofs.inserting.put_with_spare.Goals as goal

pub returns-then-place-eq0-clause-sound : goal.returns-then-place-eq0-clause-sound
returns-then-place-eq0-clause-sound g c =
    let v = c.requires.sound in
    let e = c.put_alone.ensures in
    record {
      chunked = e.chunked;
      spares = e.spares;
      blocks_fit = omega (arith, e.kept.rings, v.blocks_fit, e.capacity.0);
      ends_fit = omega (arith, e.kept.rings, v.ends_fit, e.capacity.1);
    }

pub returns-then-place-eq0-clause-items : goal.returns-then-place-eq0-clause-items
returns-then-place-eq0-clause-items g c =
    let bs = c.args.blocks.now.items in
    let same : start_of bs c.args.place.block ≡ start_of bs c.args.place.block + c.args.place.at = omega arith in
    c.put_alone.ensures.items ∙ ap (λ n. insert (items_of bs) n c.args.item) same

pub returns-then-place-len-clause-sound : goal.returns-then-place-len-clause-sound
returns-then-place-len-clause-sound g c =
    let v = c.requires.sound in
    let e = c.put_alone-then-place-len.ensures in
    record {
      chunked = e.chunked;
      spares = e.spares;
      blocks_fit = omega (arith, e.kept.rings, v.blocks_fit, e.capacity.0);
      ends_fit = omega (arith, e.kept.rings, v.ends_fit, e.capacity.1);
    }

pub returns-then-place-len-clause-items : goal.returns-then-place-len-clause-items
returns-then-place-len-clause-items g c =
    let bs = c.args.blocks.now.items in
    let i = c.args.place.block in
    let same = end_start bs i (i + 1) c.args.place.at c.requires.block (add-one i) (λ b e.
    let r = size_of c.index.result.now b (same_at bs i c.index.result.now b c.requires.block c.index.ensures e) in
    omega (arith, r, c.if-place-len.true, c.len.ensures, c.index.result.now.ok.0)) in
    c.put_alone-then-place-len.ensures.items ∙ ap (λ n. insert (items_of bs) n c.args.item) (sym same)

pub split-place-requires-clause-within : goal.split-place-requires-clause-within
split-place-requires-clause-within g c = λ b e.
    let i = c.args.place.block in
    let r = size_of c.index.result.now b (same_at c.args.blocks.now.items i c.index.result.now b c.requires.block c.index.ensures e) in
    let w = c.requires.within b e in
    omega (arith, w, r, c.if-place-len.false, c.len.ensures, c.index.result.now.ok.0)

pub put_in-requires-clause-few : goal.put_in-requires-clause-few
put_in-requires-clause-few g c = omega (arith, ap length c.split-place.ensures.items, c.requires.few)

pub returns-clause-sound : goal.returns-clause-sound
returns-clause-sound g c =
    let v = c.requires.sound in
    let s = c.split-place.ensures in
    let e = c.put_in.ensures in
    record {
      chunked = e.chunked;
      spares = s.spares;
      blocks_fit = omega (arith, e.count, s.kept.rings, v.blocks_fit, s.capacity.0, e.capacity.0);
      ends_fit = omega (arith, e.count, s.kept.rings, v.ends_fit, s.capacity.1, e.capacity.1);
    }

pub returns-clause-items : goal.returns-clause-items
returns-clause-items g c =
    let s = c.split-place.ensures in
    let p = c.split-place.result in
    c.put_in.ensures.items ∙ ap (λ xs. insert xs (start_of c.split-place.new.blocks.items p.block + p.at) c.args.item) s.items
    ∙ ap (λ n. insert (items_of c.args.blocks.now.items) n c.args.item) s.start

pub returns-clause-kept : goal.returns-clause-kept
returns-clause-kept g c =
    let s = c.split-place.ensures.kept in
    let e = c.put_in.ensures in
    record { rings = omega (arith, s.rings, e.count); places = omega (arith, s.places, e.places) }
