use Rattle.std.proofs.Common.{◌+◌, ◌-◌, ◌*◌, ◌<◌, vec_len, vec_capacity}
use Rattle.amqp_frames.specs.Inner.Pieces.{Adds}
use Rattle.amqp_frames.proofs.cut.put_parts.Given as goal

abbrev pub invariant-loop-i : goal.invariant-loop-i
invariant-loop-i l = record {
  adds : Adds l.head l.step l.fn.pieces.items l.pieces.items l.fn.rest l.rest (l.step * l.i);
  room : vec_len l.pieces + (l.count - l.i) < vec_capacity l.pieces;
}
