use Rattle.std.proofs.Common.{length, ap, sym, subst, arith}
use Rattle.amqp_memory.proofs.RefusalLemmas.{err_within, on_err_within}
use Rattle.amqp_blocks.specs.Chunked.{EachSpare, places_of, end_room}
use Rattle.amqp_blocks.proofs.PlaceLemmas.{ends_long}
use Rattle.amqp_blocks.proofs.RoomLemmas.{slots_sound}
use Rattle.amqp_blocks.proofs.room.make_room_in_spares.Goals as goal

pub returns-in_err-make_slots-clause-sound : goal.returns-in_err-make_slots-clause-sound
returns-in_err-make_slots-clause-sound g c =
    let v = c.requires.sound in
    let e = c.make_slots.ensures in
    let same = ap length e.spare.0 in
    slots_sound c.args.base c.args.blocks.now c.make_slots.new.blocks c.args.ends.now c.make_slots.new.ends c.args.spare.now c.make_slots.new.spare v e.blocks.0 e.ends.0 (subst EachSpare (sym e.spare.0) v.spares) (omega (arith, same, v.blocks_fit, e.blocks.1)) (omega (arith, same, v.ends_fit, e.ends.1))

pub returns-in_err-make_slots-clause-kept : goal.returns-in_err-make_slots-clause-kept
returns-in_err-make_slots-clause-kept g c = omega (arith, ap places_of c.make_slots.ensures.spare.0)

pub returns-in_err-make_slots-clause-refused : goal.returns-in_err-make_slots-clause-refused
returns-in_err-make_slots-clause-refused g c = err_within c.from_residual.result (omega arith) c.in_err-make_slots.ensures.refused

pub widen-requires : goal.widen-requires
widen-requires g c = record { spares = subst EachSpare (sym c.make_slots.ensures.spare.0) c.requires.sound.spares }

pub returns-in_err-widen-clause-sound : goal.returns-in_err-widen-clause-sound
returns-in_err-widen-clause-sound g c =
    let v = c.requires.sound in
    let e = c.make_slots.ensures in
    let w = c.widen.ensures in
    let same = ap length e.spare.0 in
    slots_sound c.args.base c.args.blocks.now c.make_slots.new.blocks c.args.ends.now c.make_slots.new.ends c.args.spare.now c.widen.new.spare v e.blocks.0 e.ends.0 w.spares (omega (arith, w.count, same, v.blocks_fit, e.blocks.1)) (omega (arith, w.count, same, v.ends_fit, e.ends.1))

pub returns-in_err-widen-clause-kept : goal.returns-in_err-widen-clause-kept
returns-in_err-widen-clause-kept g c = omega (arith, ap places_of c.make_slots.ensures.spare.0, c.widen.ensures.places)

pub returns-in_err-widen-clause-refused : goal.returns-in_err-widen-clause-refused
returns-in_err-widen-clause-refused g c = err_within c.from_residual-in_err-widen.result (omega arith) c.in_err-widen.ensures.refused

pub make_spares-requires : goal.make_spares-requires
make_spares-requires g c = record {
  spares = c.widen.ensures.spares;
  room = omega (arith, c.in_ok-make_slots.ensures.ok.2, c.widen.ensures.capacity);
  wide = c.in_ok-widen.ensures.ok;
}

pub returns : goal.returns
returns g c =
    let v = c.requires.sound in
    let e = c.make_slots.ensures in
    let ok = c.in_ok-make_slots.ensures.ok in
    let w = c.widen.ensures in
    let m = c.make_spares.ensures in
    let same = ap length e.spare.0 in
    let count = ap length e.blocks.0 in
    let ends = ends_long c.args.base c.args.blocks.now.items c.args.ends.now.items v.chunked.stops in
    record {
      sound = slots_sound c.args.base c.args.blocks.now c.make_slots.new.blocks c.args.ends.now c.make_slots.new.ends c.args.spare.now c.make_spares.new.spare v e.blocks.0 e.ends.0 m.spares (omega (arith, m.most, w.count, same, v.blocks_fit, e.blocks.1, ok.0, count)) (omega (arith, m.most, w.count, same, v.ends_fit, e.ends.1, ok.1, ends, ap length e.ends.0));
      items = e.blocks.0;
      kept = omega (arith, m.places, w.places, ap places_of e.spare.0);
      rings = record {
        blocks = count;
        at_end = omega (arith, ap end_room e.blocks.0);
        kept = omega (arith, m.kept, w.count, same);
        few = omega (arith, m.most, w.count, same);
        wide = λ h. omega (arith, m.places, w.places, w.count, same, ap places_of e.blocks.0, ap places_of e.spare.0);
      };
      ok = m.ok;
      refused = on_err_within c.make_spares.result (omega arith) m.refused;
    }
