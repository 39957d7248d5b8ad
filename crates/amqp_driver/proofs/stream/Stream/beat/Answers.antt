use Rattle.std.proofs.Common.{sym, refl, ◌∙◌}
use Rattle.amqp_driver.proofs.StreamTakingLemmas.{not_beaten, not_beside}
use Rattle.amqp_driver.proofs.stream.Stream.beat.Goals as goal

pub returns-then-not-is_running : goal.returns-then-not-is_running
returns-then-not-is_running g c = not_beaten c.args.self.now _ refl (sym c.is_running.ensures ∙ c.if-not-is_running.true)

pub returns-else-is_empty : goal.returns-else-is_empty
returns-else-is_empty g c =
    not_beside c.args.self.now _ c.out.result.now c.out.ensures.front.0 refl c.out.ensures.front.1 (sym c.is_empty.ensures ∙ c.if-is_empty.false)
