use Rattle.std.proofs.Common.{◌≡◌, ◌≤◌, ◌-◌, drop}
use Rattle.amqp_frames.proofs.woven.Woven.advance.Given as goal

-- so many bytes were taken off, and so many are left to take; and there is no less room
abbrev pub invariant-loop-left : goal.invariant-loop-left
invariant-loop-left l = (l.self.waits ≡ drop (l.count - l.left) l.fn.self.waits) × (l.left ≤ l.count) × (l.fn.self.spare ≤ l.self.spare)

abbrev pub decreases-loop-left : goal.decreases-loop-left
decreases-loop-left l = l.left
