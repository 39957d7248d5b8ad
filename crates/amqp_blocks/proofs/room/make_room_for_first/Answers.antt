use Rattle.std.proofs.Common.{◌<◌, length, ap, sym, subst, arith}
use Rattle.std.proofs.lemmas.Result.{on_ok_weaker}
use Rattle.amqp_memory.proofs.RefusalLemmas.{err_within}
use Rattle.amqp_blocks.specs.Chunked.{EachSpare, places_of}
use Rattle.amqp_blocks.proofs.PlaceLemmas.{ends_long}
use Rattle.amqp_blocks.proofs.RoomLemmas.{slots_sound, spare_grows, first_fits, places_none, nothing}
use Rattle.amqp_blocks.proofs.room.make_room_for_first.Goals as goal

pub returns-in_err-make_slots-clause-sound : goal.returns-in_err-make_slots-clause-sound
returns-in_err-make_slots-clause-sound g c =
    let v = c.requires.sound in
    let e = c.make_slots.ensures in
    let same = ap length e.spare.0 in
    slots_sound c.args.base c.args.blocks.now c.make_slots.new.blocks c.args.ends.now c.make_slots.new.ends c.args.spare.now c.make_slots.new.spare v e.blocks.0 e.ends.0 (subst EachSpare (sym e.spare.0) v.spares) (omega (arith, same, v.blocks_fit, e.blocks.1)) (omega (arith, same, v.ends_fit, e.ends.1))

pub returns-in_err-make_slots-clause-kept : goal.returns-in_err-make_slots-clause-kept
returns-in_err-make_slots-clause-kept g c = omega (arith, ap places_of c.make_slots.ensures.spare.0)

pub returns-in_err-make_slots-clause-refused : goal.returns-in_err-make_slots-clause-refused
returns-in_err-make_slots-clause-refused g c = err_within c.from_residual.result (omega (arith, c.requires.some)) c.in_err-make_slots.ensures.refused

pub make_first-requires-clause-none : goal.make_first-requires-clause-none
make_first-requires-clause-none g c = nothing c.make_slots.new.spare.items (omega (arith, c.make_slots.new.spare.ok.0, c.len.ensures, c.if-len-eq0.true))

pub returns-then-len-eq0 : goal.returns-then-len-eq0
returns-then-len-eq0 g c =
    let v = c.requires.sound in
    let e = c.make_slots.ensures in
    let ok = c.in_ok-make_slots.ensures.ok in
    let f = c.make_first.ensures in
    let none = places_none c.make_slots.new.spare.items (omega (arith, c.make_slots.new.spare.ok.0, c.len.ensures, c.if-len-eq0.true)) in
    let count = ap length e.blocks.0 in
    let ends = ends_long c.args.base c.args.blocks.now.items c.args.ends.now.items v.chunked.stops in
    record {
      sound = slots_sound c.args.base c.args.blocks.now c.make_slots.new.blocks c.args.ends.now c.make_slots.new.ends c.args.spare.now c.make_first.new.spare v e.blocks.0 e.ends.0 f.spares (omega (arith, f.most, ok.0, count)) (omega (arith, f.most, ok.1, ends, ap length e.ends.0));
      items = e.blocks.0;
      kept = omega (arith, none, ap places_of e.spare.0);
      rings = (omega (arith, c.make_slots.new.spare.ok.0, c.len.ensures, c.if-len-eq0.true, ap length e.spare.0), omega (arith, f.most));
      ok = f.ok;
      refused = f.refused;
    }

pub grow_at-requires : goal.grow_at-requires
grow_at-requires g c = record { at = omega (arith, c.make_slots.new.spare.ok.0, c.len.ensures, c.if-len-eq0.false) }

pub returns : goal.returns
returns g c =
    let v = c.requires.sound in
    let e = c.make_slots.ensures in
    let ss = c.make_slots.new.spare.items in
    let cs = c.grow_at.new.rings.items in
    let h : 0 < length ss = omega (arith, c.make_slots.new.spare.ok.0, c.len.ensures, c.if-len-eq0.false) in
    let s = spare_grows ss cs 0 h (subst EachSpare (sym e.spare.0) v.spares) c.grow_at.ensures.grown in
    let same = ap length e.spare.0 in
    record {
      sound = slots_sound c.args.base c.args.blocks.now c.make_slots.new.blocks c.args.ends.now c.make_slots.new.ends c.args.spare.now c.grow_at.new.rings v e.blocks.0 e.ends.0 s.spares (omega (arith, s.count, same, v.blocks_fit, e.blocks.1)) (omega (arith, s.count, same, v.ends_fit, e.ends.1));
      items = e.blocks.0;
      kept = omega (arith, s.places, ap places_of e.spare.0);
      rings = (omega (arith, s.count, same), omega (arith, s.count, same));
      ok = on_ok_weaker c.grow_at.result (λ w. first_fits cs c.args.additional (omega (arith, s.count, h)) w c.requires.fits) c.grow_at.ensures.ok;
      refused = c.grow_at.ensures.refused;
    }
