use Rattle.amqp_values.proofs.SameItemsLemmas.{same_after}
use Rattle.amqp_values.proofs.value.ItemsPartialEq.eq.Goals as goal

pub returns-then-self-other : goal.returns-then-self-other
returns-then-self-other c =
    rw (← c.self.view_is, ← c.other.view_is) (same_after c.self.inside.left c.other.inside.left c.self.inside.bytes.now c.other.inside.bytes.now c.eq.result c.self.invariant c.other.invariant c.if-self-other.true c.eq.ensures)
