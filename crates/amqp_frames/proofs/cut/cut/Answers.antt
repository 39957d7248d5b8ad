use Rattle.std.proofs.Common.{◌-◌, arith}
use Rattle.amqp_frames.specs.Cut.{IsCut, LeavesRoom}
use Rattle.amqp_frames.proofs.TransferLengthLemmas.{first_longer, middle_longer}
use Rattle.amqp_frames.proofs.PayloadCutLemmas.{is_cut}
use Rattle.amqp_frames.proofs.EncodedFrameLemmas.{transfer_is_decoded}
use Rattle.amqp_frames.proofs.cut.cut.Goals as goal

pub in_pieces-requires-clause-some : goal.in_pieces-requires-clause-some
in_pieces-requires-clause-some c = omega (arith, first_longer c.args.transfer.now, c.requires.big, c.encoded_len_in-first.ensures.value, c.from-room.ensures)

pub in_pieces-requires-clause-last : goal.in_pieces-requires-clause-last
in_pieces-requires-clause-last c = omega (arith, middle_longer c.args.transfer.now, c.encoded_len_in-middle.ensures.value, c.from-room.ensures, c.if-room-middle.false)

pub returns : goal.returns
returns c =
    let r : LeavesRoom c.args.transfer.now c.args.limit = (omega (arith, c.encoded_len_in-first.ensures.value, c.from-room.ensures), omega (arith, c.encoded_len_in-middle.ensures.value, c.from-room.ensures)) in
    let cut : IsCut c.args.channel c.args.transfer.now c.args.payload.now c.args.limit c.in_ok-pieces.pieces.items =
    is_cut c.args.channel c.args.limit (c.from-room.result - c.encoded_len_in-first.result) (c.from-room.result - c.encoded_len_in-middle.result) c.args.transfer.now c.args.payload.now c.in_ok-pieces.pieces.items
    c.requires.header r (omega (arith, c.encoded_len_in-first.ensures.value, c.from-room.ensures)) (omega (arith, c.encoded_len_in-middle.ensures.value, c.from-room.ensures)) c.in_ok-pieces.ensures.pieces in
    (r, cut, transfer_is_decoded c.args.transfer.now c.args.channel c.args.limit c.args.payload.now c.in_ok-pieces.pieces.items c.transfer_is_spelled.ensures (omega (arith, c.ranges.channel)) (omega (arith, c.ranges.limit)) cut)
