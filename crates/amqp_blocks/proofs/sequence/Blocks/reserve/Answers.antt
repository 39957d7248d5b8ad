use Rattle.std.proofs.Common.{length, ap, sym, ◌∙◌, arith}
use Rattle.std.proofs.lemmas.Result.{on_ok_weaker, on_err_weaker}
use Rattle.amqp_blocks.specs.Chunked.{Sequence}
use Rattle.amqp_blocks.proofs.RoomLemmas.{items_fit, spares_count}
use Rattle.amqp_blocks.proofs.sequence.Blocks.reserve.Goals as goal

pub returns-then-additional-len-clause-room : goal.returns-then-additional-len-clause-room
returns-then-additional-len-clause-room g c =
    let v = c.self.invariant.0 in
    let fit = items_fit c.self.inside.blocks.items v.chunked.some in
    let spare = spares_count c.self.inside.spare.items v.spares in
    let room = ap (λ (s : Sequence _). s.room) c.self.view_is in
    omega (arith, fit, spare, room, c.if-additional-len.true, c.len.ensures, c.self.inside.spare.ok.0)

pub make_lacking-requires : goal.make_lacking-requires
make_lacking-requires g c = record { sound = c.self.invariant.0; some = omega (arith, c.if-additional-len.false) }

pub invariant_of-self : goal.invariant_of-self
invariant_of-self g c = (c.make_lacking.ensures.sound, c.self.invariant.1 ∙ sym (ap length c.make_lacking.ensures.items))

pub returns : goal.returns
returns g c =
    let e = c.make_lacking.ensures in
    let r = e.rings in
    let fit = items_fit c.self.inside.blocks.items c.self.invariant.0.chunked.some in
    let blocks = ap (λ (s : Sequence _). s.blocks) c.self.view_is in
    let spare = ap (λ (s : Sequence _). s.spare) c.self.view_is in
    let at_end = ap (λ (s : Sequence _). s.at_end) c.self.view_is in
    let room = ap (λ (s : Sequence _). s.room) c.self.view_is in
    record {
      items = e.items ∙ ap (λ (s : Sequence _). s.items) c.self.view_is;
      kept = omega (arith, room, e.kept, ap length e.items);
      room = on_ok_weaker c.make_lacking.result (λ w. omega (arith, w)) e.ok;
      lacking = on_err_weaker c.make_lacking.result (λ w. omega (arith, w, room, e.kept, ap length e.items)) e.lacking;
      refused = e.refused;
      at_once = λ h. absurd (omega (arith, h, spare, c.if-additional-len.false, c.len.ensures, c.self.inside.spare.ok.0));
      blocks = r.blocks ∙ blocks;
      spare = omega (arith, r.kept, spare);
      most = omega (arith, r.few, spare);
      alone = λ o f. let s = e.alone (omega (arith, o, blocks)) (omega (arith, f, ap (λ (s : Sequence _). length s.items) c.self.view_is)) in omega (arith, s, spare);
      wide = λ h. omega (arith, r.wide (omega (arith, h, blocks)), room, spare, fit, ap length e.items);
      at_end = omega (arith, r.at_end, at_end);
    }
