use Rattle.std.proofs.Common.{◌≡◌, ◌-◌, take}
use Rattle.amqp_blocks.specs.Inner.Changes.{free_of}
use Rattle.amqp_blocks.proofs.free.left_over.Given as goal

abbrev pub invariant-loop-at : goal.invariant-loop-at
invariant-loop-at g l = record { left : l.left ≡ l.additional - free_of (take l.at l.rings.items) }
