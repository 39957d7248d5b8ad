use Rattle.std.proofs.Common.{◌+◌, ◌-◌, ◌*◌, ◌<◌, vec_len, vec_capacity}
use Rattle.amqp_types.specs.Transfer.{said_in}
use Rattle.amqp_types.specs.declared.performatives.transfer.TransferFragment.TheVariants as text
use Rattle.amqp_frames.specs.Inner.Parts.{AddsParts}
use Rattle.amqp_frames.proofs.split.put_middle.Given as goal

abbrev pub invariant-loop-i : goal.invariant-loop-i
invariant-loop-i l = record {
  adds : AddsParts (said_in text.Middle l.transfer) l.step l.fn.parts.items l.parts.items l.fn.rest l.rest (l.step * l.i);
  room : vec_len l.parts + (l.count - l.i) < vec_capacity l.parts;
}
