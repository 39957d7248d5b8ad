use Rattle.std.proofs.Common.{◌≡◌, ◌+◌, ◌++◌, ◌≤◌, length}
use Rattle.amqp_frames.specs.Wire.{wire_of}
use Rattle.amqp_frames.specs.Inner.Woven.{pieces_room}
use Rattle.amqp_frames.proofs.laying.put_pieces.Given as goal

-- what was appended, and what the rest will append; and there is room for that; and of the room no more was taken than the others take up
abbrev pub invariant-loop-rest : goal.invariant-loop-rest
invariant-loop-rest l =
    (l.out.waits ++ wire_of l.rest.items ≡ l.fn.out.waits ++ wire_of l.fn.pieces.items)
    × (pieces_room l.most l.rest.items ≤ l.out.spare)
    × (length l.rest.items ≤ l.out.places)
    × (l.fn.out.spare + pieces_room l.most l.rest.items ≤ l.out.spare + pieces_room l.most l.fn.pieces.items)

abbrev pub decreases-loop-rest : goal.decreases-loop-rest
decreases-loop-rest l = length l.rest.items
