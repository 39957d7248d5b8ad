use Rattle.std.proofs.Common.{arith}
use Rattle.amqp_blocks.proofs.RoomLemmas.{places_none}
use Rattle.amqp_blocks.proofs.EndLemmas.{end_full, not_full}
use Rattle.amqp_blocks.proofs.inserting.put_at.Goals as goal

pub returns-then-has_place-clause-sound : goal.returns-then-has_place-clause-sound
returns-then-has_place-clause-sound g c =
    let v = c.requires.sound in
    let e = c.put_in.ensures in
    record {
      chunked = e.chunked;
      spares = v.spares;
      blocks_fit = omega (arith, e.count, v.blocks_fit, e.capacity.0);
      ends_fit = omega (arith, e.count, v.ends_fit, e.capacity.1);
    }

pub returns-then-has_place-clause-kept : goal.returns-then-has_place-clause-kept
returns-then-has_place-clause-kept g c =
    let e = c.put_in.ensures in
    record { rings = omega (arith, e.count); places = omega (arith, e.places) }

pub cascade-requires-clause-room : goal.cascade-requires-clause-room
cascade-requires-clause-room g c =
    let none = places_none c.args.spare.now.items (omega (arith, c.args.spare.now.ok.0, c.len.ensures, c.if-len-eq0.true)) in
    omega (arith, none, c.requires.room)

pub returns-then-len-eq0-clause-sound : goal.returns-then-len-eq0-clause-sound
returns-then-len-eq0-clause-sound g c =
    let v = c.requires.sound in
    let e = c.cascade.ensures in
    record {
      chunked = e.chunked;
      spares = v.spares;
      blocks_fit = omega (arith, e.count, v.blocks_fit, e.capacity.0);
      ends_fit = omega (arith, e.count, v.ends_fit, e.capacity.1);
    }

pub returns-then-len-eq0-clause-kept : goal.returns-then-len-eq0-clause-kept
returns-then-len-eq0-clause-kept g c =
    let e = c.cascade.ensures in
    record { rings = omega (arith, e.count); places = omega (arith, e.places) }

pub put_with_spare-requires-clause-spare : goal.put_with_spare-requires-clause-spare
put_with_spare-requires-clause-spare g c = omega (arith, c.args.spare.now.ok.0, c.len.ensures, c.if-len-eq0.false)

pub returns-then-len-eq0-clause-at_end : goal.returns-then-len-eq0-clause-at_end
returns-then-len-eq0-clause-at_end g c = λ e.
    let none = end_full c.args.blocks.now.items c.args.place.block e (c.has_place.ensures.full c.if-has_place.false) in
    omega (arith, none)

pub returns-clause-begun : goal.returns-clause-begun
returns-clause-begun g c = λ p. absurd (not_full c.args.blocks.now.items c.args.place.block c.requires.block p (c.has_place.ensures.full c.if-has_place.false))

pub returns-clause-at_end : goal.returns-clause-at_end
returns-clause-at_end g c = λ e.
    let none = end_full c.args.blocks.now.items c.args.place.block e (c.has_place.ensures.full c.if-has_place.false) in
    omega (arith, none)

pub returns-then-has_place-clause-taken : goal.returns-then-has_place-clause-taken
returns-then-has_place-clause-taken g c = λ f. absurd (not_full c.args.blocks.now.items c.args.place.block c.requires.block (c.has_place.ensures.place c.if-has_place.true) f)
