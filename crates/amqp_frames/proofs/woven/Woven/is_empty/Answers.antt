use Rattle.amqp_frames.proofs.SharedPartLemmas.{empty_then, empty_else}
use Rattle.amqp_frames.proofs.woven.Woven.is_empty.Goals as goal

pub returns-then-is_empty : goal.returns-then-is_empty
returns-then-is_empty c =
    rw (← c.self.view_is) (empty_then c.self.inside.shared.items c.self.inside.buffer.items _ _ _ c.self.invariant.some c.self.inside.shared.ok.0 c.is_empty.ensures c.if-is_empty.true c.is_empty-then-is_empty.ensures)

pub returns-else-is_empty : goal.returns-else-is_empty
returns-else-is_empty c =
    rw (← c.self.view_is) (empty_else c.self.inside.shared.items c.self.inside.buffer.items _ c.self.invariant.some c.is_empty.ensures c.if-is_empty.false)
