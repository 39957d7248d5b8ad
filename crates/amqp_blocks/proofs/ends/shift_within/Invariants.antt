use Rattle.std.proofs.Common.{◌≡◌, ◌-◌}
use Rattle.amqp_blocks.specs.Inner.Shifted.{more, over}
use Rattle.amqp_blocks.proofs.ends.shift_within.Given as goal

abbrev pub invariant-loop-i : goal.invariant-loop-i
invariant-loop-i l = l.ends ≡ over l.first (l.i - l.first) (more l.shift) l.fn.ends
