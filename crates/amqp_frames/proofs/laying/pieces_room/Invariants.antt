use Rattle.std.proofs.Common.{◌≡◌, ◌+◌, ◌-◌, ◌*◌, ◌≤◌, ◌<◌, ◌^◌, min, length}
use Rattle.amqp_frames.specs.Inner.Woven.{pieces_room}
use Rattle.amqp_frames.proofs.laying.pieces_room.Given as goal

-- what is counted, and what the rest takes up, as far as a number says it; and it is no more than the most that pieces take up
abbrev pub invariant-loop-rest : goal.invariant-loop-rest
invariant-loop-rest l =
    (min (l.total + pieces_room l.most l.rest) (2 ^ 64 - 1) ≡ min (pieces_room l.most l.pieces) (2 ^ 64 - 1))
    × (l.total < 2 ^ 64)
    × (l.total + 2 ^ 33 * length l.rest ≤ 2 ^ 33 * length l.pieces)

abbrev pub decreases-loop-rest : goal.decreases-loop-rest
decreases-loop-rest l = length l.rest
