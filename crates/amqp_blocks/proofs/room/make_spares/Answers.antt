use Rattle.std.proofs.Common.{◌≡◌, ◌∷◌, ◌++◌, [], length, ap, sym, subst, ◌∙◌, arith, length-append}
use Rattle.amqp_blocks.specs.Chunked.{EachSpare, places_of}
use Rattle.amqp_blocks.proofs.RoomLemmas.{spares_push, places_append}
use Rattle.amqp_blocks.proofs.room.make_spares.Goals as goal

pub loop-alloc-preserved : goal.loop-alloc-preserved
loop-alloc-preserved g c =
    let v = c.loop-alloc.invariant in
    let old = c.loop-alloc.spare.items in
    let q = c.in_ok-queue_with.field-0 in
    let e = c.in_ok-queue_with.ensures in
    let p : c.push_reserved.new.self.items ≡ old ++ q ∷ [] = c.push_reserved.ensures.items in
    let long = ap length p ∙ length-append old (q ∷ []) in
    let wide = ap places_of p ∙ places_append old (q ∷ []) in
    record {
      spares = subst EachSpare (sym p) (spares_push old q v.spares e.items (omega (arith, e.exact)));
      kept = omega (arith, long, v.kept);
      most = omega (arith, long, v.kept, c.loop-alloc-test.true, c.len.ensures, c.loop-alloc.spare.ok.0);
      places = omega (arith, wide, long, e.exact, v.kept, v.places);
      wide = omega (arith, wide, long, e.exact, v.wide);
      capacity = c.push_reserved.ensures.capacity ∙ v.capacity;
    }
