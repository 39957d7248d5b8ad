use Rattle.std.proofs.Common.{length, false, ◌≤◌, ◌+◌, ◌*◌, arith, refl}
use Rattle.amqp_types.specs.Transfer.{said_in}
use Rattle.amqp_types.specs.declared.performatives.transfer.TransferFragment.TheVariants as text
use Rattle.amqp_frames.specs.declared.split.DeliveryPart.{DeliveryPart}
use Rattle.amqp_frames.proofs.PayloadCutLemmas.{enough}
use Rattle.amqp_frames.proofs.DeliverySplitLemmas.{adds_more}
use Rattle.amqp_frames.proofs.split.put_middle.Goals as goal

pub front_of-requires : goal.front_of-requires
front_of-requires c = enough c.args.step c.loop-i.i c.args.count (length c.loop-i.rest) (length c.args.rest.now) c.loop-i.invariant.adds.left c.loop-i-test.true c.requires.long

pub loop-i-preserved : goal.loop-i-preserved
loop-i-preserved c =
    let a = c.loop-i.invariant.adds in
    let le : c.args.step ≤ length c.loop-i.rest = enough c.args.step c.loop-i.i c.args.count (length c.loop-i.rest) (length c.args.rest.now) a.left c.loop-i-test.true c.requires.long in
    let push = c.push_reserved.ensures.items in
    let part : DeliveryPart = record { transfer = c.in_ok-transfer.transfer; payload = c.in_ok-payload.payload; is_first = false } in
    record {
      adds = adds_more (said_in text.Middle c.args.transfer.now) c.args.step c.args.parts.now.items c.loop-i.parts.items c.push_reserved.new.self.items c.args.rest.now c.loop-i.rest c.front_of.new.bytes
          (c.args.step * c.loop-i.i) (c.args.step * (c.loop-i.i + 1)) part a (refl, c.in_ok-transfer.ensures.part) c.in_ok-payload.ensures.front
          le c.in_ok-payload.ensures.rest push (omega arith);
      room = let l = c.push_reserved.ensures.len in
          let k = c.push_reserved.ensures.capacity in let r = c.loop-i.invariant.room in let t = c.loop-i-test.true in omega arith;
    }
