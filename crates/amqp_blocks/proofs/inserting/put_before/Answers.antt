use Rattle.std.proofs.Common.{◌≡◌, ◌<◌, length, ap, ◌∙◌, arith, sym, subst, suc}
use Rattle.std.specs.List.{insert}
use Rattle.amqp_blocks.specs.Chunked.{items_of, HasPlace}
use Rattle.amqp_blocks.specs.Inner.Changes.{HoldsRank}
use Rattle.amqp_blocks.proofs.PlaceLemmas.{reaches, located, base_low, total_is, start_more, start_few}
use Rattle.amqp_blocks.proofs.LeaveLemmas.{some_block}
use Rattle.amqp_blocks.proofs.EndLemmas.{same_block}
use Rattle.amqp_blocks.proofs.inserting.put_before.Goals as goal

pub total-requires : goal.total-requires
total-requires g c = base_low c.args.base c.args.blocks.now.items c.args.ends.now.items c.requires.sound.chunked.stops

pub returns-then-rank-total-clause-items : goal.returns-then-rank-total-clause-items
returns-then-rank-total-clause-items g c =
    let bs = c.args.blocks.now.items in
    let n = total_is c.args.base c.total.result bs c.args.ends.now.items c.requires.sound.chunked.stops c.total.ensures.none c.total.ensures.some in
    let same : length (items_of bs) ≡ c.args.rank = omega (arith, n, c.if-rank-total.true) in
    c.put_last.ensures.items ∙ ap (λ n. insert (items_of bs) n c.args.item) same

pub locate_near-place-requires : goal.locate_near-place-requires
locate_near-place-requires g c =
    let v = c.requires.sound.chunked in
    let n = total_is c.args.base c.total.result c.args.blocks.now.items c.args.ends.now.items v.stops c.total.ensures.none c.total.ensures.some in
    let within : c.args.rank < length (items_of c.args.blocks.now.items) = omega (arith, n, c.if-rank-total.false, c.requires.within) in
    let r = reaches c.args.base c.args.blocks.now.items c.args.ends.now.items c.args.rank v.stops within in
    record { some = r.0; fits = omega (arith, within, v.low, v.few); within = r.1 }

pub put_near-requires : goal.put_near-requires
put_near-requires g c =
    let e = c.locate_near-place.ensures in
    let l = located c.args.base c.args.blocks.now.items c.args.ends.now.items c.locate_near-place.result.block c.locate_near-place.result.at c.args.rank c.requires.sound.chunked.stops e.block e.first e.other e.after in
    record {
      sound = c.requires.sound;
      block = l.block_is;
      item = l.item;
      room = c.requires.room;
      few = c.requires.few;
    }

pub returns-clause-items : goal.returns-clause-items
returns-clause-items g c =
    let e = c.locate_near-place.ensures in
    let l = located c.args.base c.args.blocks.now.items c.args.ends.now.items c.locate_near-place.result.block c.locate_near-place.result.at c.args.rank c.requires.sound.chunked.stops e.block e.first e.other e.after in
    c.put_near.ensures.items ∙ ap (λ n. insert (items_of c.args.blocks.now.items) n c.args.item) (sym l.rank_is)

pub returns-clause-begun : goal.returns-clause-begun
returns-clause-begun g c = λ e.
    let n = total_is c.args.base c.total.result c.args.blocks.now.items c.args.ends.now.items c.requires.sound.chunked.stops c.total.ensures.none c.total.ensures.some in
    absurd (omega (arith, n, c.if-rank-total.false, e))

pub returns-clause-at_end : goal.returns-clause-at_end
returns-clause-at_end g c = λ e.
    let n = total_is c.args.base c.total.result c.args.blocks.now.items c.args.ends.now.items c.requires.sound.chunked.stops c.total.ensures.none c.total.ensures.some in
    absurd (omega (arith, n, c.if-rank-total.false, e))

pub returns-clause-taken : goal.returns-clause-taken
returns-clause-taken g c = λ e.
    let n = total_is c.args.base c.total.result c.args.blocks.now.items c.args.ends.now.items c.requires.sound.chunked.stops c.total.ensures.none c.total.ensures.some in
    absurd (omega (arith, n, c.if-rank-total.false, e))

pub returns-then-rank-total-clause-between : goal.returns-then-rank-total-clause-between
returns-then-rank-total-clause-between g c = λ i u.
    let bs = c.args.blocks.now.items in
    let n = total_is c.args.base c.total.result bs c.args.ends.now.items c.requires.sound.chunked.stops c.total.ensures.none c.total.ensures.some in
    let b = some_block bs i u.block in
    let item = u.item b.0 b.1 in
    let more = start_more bs i b.0 u.block b.1 in
    absurd (omega (arith, n, c.if-rank-total.true, item, more, start_few bs (suc i), u.rank_is))

pub returns-clause-between : goal.returns-clause-between
returns-clause-between g c = λ i u p.
    let bs = c.args.blocks.now.items in
    let e = c.locate_near-place.ensures in
    let l = located c.args.base bs c.args.ends.now.items c.locate_near-place.result.block c.locate_near-place.result.at c.args.rank c.requires.sound.chunked.stops e.block e.first e.other e.after in
    let here : HoldsRank bs c.args.rank c.locate_near-place.result.block = record { at = c.locate_near-place.result.at; block = l.block_is; item = l.item; rank_is = sym l.rank_is } in
    c.put_near.ensures.begun (subst (λ k. HasPlace bs k) (same_block bs c.args.rank i c.locate_near-place.result.block u here) p)
