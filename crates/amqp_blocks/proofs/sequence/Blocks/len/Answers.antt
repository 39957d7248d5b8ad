use Rattle.std.proofs.Common.{length, ap, ◌∙◌}
use Rattle.amqp_blocks.specs.Chunked.{Sequence}
use Rattle.amqp_blocks.proofs.sequence.Blocks.len.Goals as goal

pub returns : goal.returns
returns g c = c.self.invariant.1 ∙ ap (λ (s : Sequence _). length s.items) c.self.view_is
