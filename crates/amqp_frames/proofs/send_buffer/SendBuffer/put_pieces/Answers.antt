use Rattle.std.proofs.Common.{ℕ, List, ◌++◌, ap, ◌∙◌}
use Rattle.amqp_frames.specs.Wire.{wire_of}
use Rattle.amqp_frames.proofs.SentFrameLemmas.{room_after}
use Rattle.amqp_frames.proofs.send_buffer.SendBuffer.put_pieces.Goals as goal

pub returns-clause-room : goal.returns-clause-room
returns-clause-room c =
    let sent = c.put_pieces.ensures.waits ∙ ap (λ (bytes : List ℕ). bytes ++ wire_of c.args.pieces.items) c.reserve_for.ensures.waits in
    rw (← c.self.view_is) (room_after c.self.inside.most c.args.pieces.items _ _ _ _ _ c.reserve_for.ensures.kept c.put_pieces.ensures.spare sent)
