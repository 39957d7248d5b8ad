use Rattle.std.proofs.Common.{◌-◌, true, arith, inr}
use Rattle.amqp_types.specs.Transfer.{widest}
use Rattle.amqp_frames.specs.Cut.{LeavesRoom}
use Rattle.amqp_frames.specs.Split.{IsOnePiece}
use Rattle.amqp_frames.proofs.TransferLengthLemmas.{first_longer}
use Rattle.amqp_frames.proofs.DeliverySplitLemmas.{is_split}
use Rattle.amqp_frames.proofs.split.split_delivery.Goals as goal

pub in_parts-requires-clause-some : goal.in_parts-requires-clause-some
in_parts-requires-clause-some c =
    omega (arith, first_longer (widest c.args.transfer.now), c.if-whole-len.false, c.widest_len_in-whole.ensures.value, c.widest_len_in-first.ensures.value, c.len.ensures.value, c.if-room-first.false)

pub returns : goal.returns
returns c =
    let t = c.args.transfer.now in
    let r : LeavesRoom (widest t) c.args.max_piece_len =
    (omega (arith, c.widest_len_in-first.ensures.value, c.from-room.ensures, c.saturating_sub.ensures, c.if-room-first.false), omega (arith, c.encoded_len_in-later.ensures.value, c.from-room.ensures, c.saturating_sub.ensures, c.if-room-later.false)) in
    let big : ¬ IsOnePiece c.args.max_piece_len true t c.args.payload.now = λ h. omega (arith, h, c.if-whole-len.false, c.widest_len_in-whole.ensures.value, c.len.ensures.value, c.from-room.ensures, c.saturating_sub.ensures) in (
      inr r,
      is_split t c.args.payload.now c.args.max_piece_len (c.from-room.result - c.widest_len_in-first.result) (c.from-room.result - c.encoded_len_in-later.result) c.in_ok-parts-2.parts.items
          r big (omega (arith, c.widest_len_in-first.ensures.value, c.from-room.ensures, c.saturating_sub.ensures)) (omega (arith, c.encoded_len_in-later.ensures.value, c.from-room.ensures, c.saturating_sub.ensures)) c.in_ok-parts-2.ensures.parts,
    )
