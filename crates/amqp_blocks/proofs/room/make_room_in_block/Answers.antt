use Rattle.std.proofs.Common.{◌<◌, length, ap, ◌∙◌, arith, length-set}
use Rattle.std.proofs.lemmas.Result.{on_ok_weaker}
use Rattle.amqp_blocks.specs.Chunked.{places_of}
use Rattle.amqp_blocks.proofs.RoomLemmas.{grown_chunked, one_fits, places_set}
use Rattle.amqp_blocks.proofs.EndLemmas.{end_grown}
use Rattle.amqp_blocks.proofs.room.make_room_in_block.Goals as goal

pub grow_at-requires : goal.grow_at-requires
grow_at-requires g c = record { at = omega (arith, c.requires.one) }

pub returns : goal.returns
returns g c =
    let bs = c.args.blocks.now.items in
    let cs = c.grow_at.new.rings.items in
    let v = c.requires.sound in
    let u = c.grow_at.ensures.grown in
    let h : 0 < length bs = omega (arith, c.requires.one) in
    let k = grown_chunked c.args.base bs cs c.args.ends.now.items 0 h u v.chunked in
    let count = ap length u.set ∙ length-set bs 0 u.to in
    let more = places_set bs 0 u.from u.to h u.was u.places in
    record {
      sound = record {
        chunked = k.0;
        spares = v.spares;
        blocks_fit = omega (arith, count, v.blocks_fit, c.grow_at.ensures.capacity);
        ends_fit = omega (arith, count, v.ends_fit);
      };
      items = k.1;
      kept = omega (arith, more, ap places_of u.set);
      blocks = count;
      at_end = end_grown bs cs 0 (omega (arith, c.requires.one)) u;
      ok = on_ok_weaker c.grow_at.result (λ w. one_fits cs c.args.additional (omega (arith, count, c.requires.one)) w (omega (arith, ap length k.1, c.requires.fits))) c.grow_at.ensures.ok;
      refused = c.grow_at.ensures.refused;
    }
