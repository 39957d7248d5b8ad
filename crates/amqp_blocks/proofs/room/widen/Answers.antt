use Rattle.std.proofs.Common.{◌<◌, length, ◌∙◌, arith}
use Rattle.amqp_blocks.proofs.RoomLemmas.{spare_grows, wide_more}
use Rattle.amqp_blocks.proofs.room.widen.Goals as goal

pub returns-in_err-grow_at-clause-spares : goal.returns-in_err-grow_at-clause-spares
returns-in_err-grow_at-clause-spares g c =
    let v = c.loop-at.invariant in
    let h : c.loop-at.at < length c.loop-at.spare.items = omega (arith, v.count, c.loop-at-test.true, c.len-at-end.ensures, c.args.spare.now.ok.0) in
    (spare_grows c.loop-at.spare.items c.grow_at.new.rings.items c.loop-at.at h v.spares c.grow_at.ensures.grown).spares

pub returns-in_err-grow_at-clause-places : goal.returns-in_err-grow_at-clause-places
returns-in_err-grow_at-clause-places g c =
    let v = c.loop-at.invariant in
    let h : c.loop-at.at < length c.loop-at.spare.items = omega (arith, v.count, c.loop-at-test.true, c.len-at-end.ensures, c.args.spare.now.ok.0) in
    let s = spare_grows c.loop-at.spare.items c.grow_at.new.rings.items c.loop-at.at h v.spares c.grow_at.ensures.grown in
    omega (arith, s.places, v.places)

pub loop-at-preserved : goal.loop-at-preserved
loop-at-preserved g c =
    let v = c.loop-at.invariant in
    let h : c.loop-at.at < length c.loop-at.spare.items = omega (arith, v.count, c.loop-at-test.true, c.len-at-end.ensures, c.args.spare.now.ok.0) in
    let s = spare_grows c.loop-at.spare.items c.grow_at.new.rings.items c.loop-at.at h v.spares c.grow_at.ensures.grown in
    record {
      spares = s.spares;
      count = s.count ∙ v.count;
      places = omega (arith, s.places, v.places);
      wide = wide_more c.loop-at.spare.items c.grow_at.new.rings.items c.loop-at.at h c.grow_at.ensures.grown c.in_ok-grow_at.ensures.ok v.wide;
      capacity = c.grow_at.ensures.capacity ∙ v.capacity;
    }
