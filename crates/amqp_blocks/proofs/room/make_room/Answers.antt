use Rattle.std.proofs.Common.{ap, arith, inl, inr}
use Rattle.std.proofs.lemmas.Result.{on_ok_weaker}
use Rattle.amqp_memory.proofs.RefusalLemmas.{on_err_within}
use Rattle.amqp_blocks.specs.Chunked.{items_of, places_of}
use Rattle.amqp_blocks.proofs.PlaceLemmas.{base_low, total_is}
use Rattle.amqp_blocks.proofs.RoomLemmas.{items_fit}
use Rattle.amqp_blocks.proofs.room.make_room.Goals as goal

pub total-requires : goal.total-requires
total-requires g c = base_low c.args.base c.args.blocks.now.items c.args.ends.now.items c.requires.sound.chunked.stops

pub make_room_in_block-requires-clause-fits : goal.make_room_in_block-requires-clause-fits
make_room_in_block-requires-clause-fits g c =
    let n = total_is c.args.base c.total.result c.args.blocks.now.items c.args.ends.now.items c.requires.sound.chunked.stops c.total.ensures.none c.total.ensures.some in
    omega (arith, n, c.min-rest.ensures, c.if-additional-rest.true, c.requires.some)

pub returns-then-additional-rest-clause-kept : goal.returns-then-additional-rest-clause-kept
returns-then-additional-rest-clause-kept g c = omega (arith, c.make_room_in_block.ensures.kept)

pub returns-then-additional-rest-clause-ok : goal.returns-then-additional-rest-clause-ok
returns-then-additional-rest-clause-ok g c = on_ok_weaker c.make_room_in_block.result (λ w. omega (arith, w)) c.make_room_in_block.ensures.ok

pub returns-then-additional-rest-clause-refused : goal.returns-then-additional-rest-clause-refused
returns-then-additional-rest-clause-refused g c = on_err_within c.make_room_in_block.result (omega arith) c.make_room_in_block.ensures.refused

pub returns-then-additional-rest-2-clause-items : goal.returns-then-additional-rest-2-clause-items
returns-then-additional-rest-2-clause-items g c = ap items_of c.make_room_for_first.ensures.items

pub returns-then-additional-rest-2-clause-kept : goal.returns-then-additional-rest-2-clause-kept
returns-then-additional-rest-2-clause-kept g c =
    let e = c.make_room_for_first.ensures in
    omega (arith, e.kept, ap places_of e.items)

pub returns-then-additional-rest-2-clause-ok : goal.returns-then-additional-rest-2-clause-ok
returns-then-additional-rest-2-clause-ok g c =
    let e = c.make_room_for_first.ensures in
    let fit = items_fit c.make_room_for_first.new.blocks.items e.sound.chunked.some in
    on_ok_weaker c.make_room_for_first.result (λ w. omega (arith, w, fit)) e.ok

pub returns-then-additional-rest-2-clause-refused : goal.returns-then-additional-rest-2-clause-refused
returns-then-additional-rest-2-clause-refused g c = on_err_within c.make_room_for_first.result (omega arith) c.make_room_for_first.ensures.refused

pub returns : goal.returns
returns g c =
    let e = c.make_room_in_spares.ensures in
    let n = total_is c.args.base c.total.result c.args.blocks.now.items c.args.ends.now.items c.requires.sound.chunked.stops c.total.ensures.none c.total.ensures.some in
    let fit = items_fit c.make_room_in_spares.new.blocks.items e.sound.chunked.some in
    record {
      sound = e.sound;
      items = ap items_of e.items;
      kept = omega (arith, e.kept, ap places_of e.items);
      rings = e.rings;
      alone = λ o f. elim c.else-count-eq1.either [
        | inl w ↦ absurd (omega (arith, o, f, n, w.1, c.min-rest.ensures))
        | inr w ↦ absurd (omega (arith, o, w, c.len-count.ensures, c.args.blocks.now.ok.0))
      ];
      ok = on_ok_weaker c.make_room_in_spares.result (λ w. omega (arith, w, fit)) e.ok;
      refused = on_err_within c.make_room_in_spares.result (omega (arith, c.requires.some)) e.refused;
    }
