use Rattle.std.proofs.Common.{length, ◌≤◌, ◌+◌, ◌*◌, arith, ap, ◌∙◌}
use Rattle.amqp_frames.specs.Piece.{PieceParts}
use Rattle.amqp_frames.proofs.PayloadCutLemmas.{adds_more, enough}
use Rattle.amqp_frames.proofs.cut.put_parts.Goals as goal

pub loop-i-preserved : goal.loop-i-preserved
loop-i-preserved c =
    let a = c.loop-i.invariant.adds in
    let copy = c.in_ok-copy.ensures.ok in
    let le : c.args.step ≤ length c.loop-i.rest = enough c.args.step c.loop-i.i c.args.count (length c.loop-i.rest) (length c.args.rest.now) a.left c.loop-i-test.true c.requires.long in
    let push = c.push_reserved.ensures.items in
    record {
      adds = adds_more c.args.head.now c.args.step c.args.pieces.now.items c.loop-i.pieces.items c.push_reserved.new.self.items c.args.rest.now c.loop-i.rest c.front_of.new.bytes
          (c.args.step * c.loop-i.i) (c.args.step * (c.loop-i.i + 1)) c.shared-in-loop-i.result a
          (ap (λ (p : PieceParts). p.head) c.shared-in-loop-i.ensures ∙ copy) (ap (λ (p : PieceParts). p.payload) c.shared-in-loop-i.ensures ∙ c.in_ok-part.ensures.front)
          le c.in_ok-part.ensures.rest push (omega arith);
      room = let l = c.push_reserved.ensures.len in
          let k = c.push_reserved.ensures.capacity in let r = c.loop-i.invariant.room in let t = c.loop-i-test.true in omega arith;
    }
