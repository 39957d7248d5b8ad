use Rattle.std.proofs.Common.{◌≡◌, ◌+◌, ◌≤◌, [], length}
use Rattle.std.specs.Prelude.{vec_capacity}
use Rattle.amqp_engine.proofs.BufferRunLemmas.{Sending}
use Rattle.amqp_engine.proofs.engine.Engine.run_into.Given as goal

abbrev pub invariant-loop-refusals : goal.invariant-loop-refusals
invariant-loop-refusals g l =
    Sending g.R.LinkRelay.gives l.fn.self l.fn.inputs.items l.fn.out.bytes l.fn.refusals.items l.self l.inputs.items l.out.bytes l.refusals.items
    × (l.self.waiting ≡ [])
    × (l.total ≡ length l.fn.inputs.items)
    × (l.fn.out.room + length l.fn.out.bytes ≤ l.out.room + length l.out.bytes)
    × (l.out.copied ≡ l.fn.out.copied)
    × (vec_capacity l.fn.refusals ≤ vec_capacity l.refusals)

abbrev pub decreases-loop-refusals : goal.decreases-loop-refusals
decreases-loop-refusals g l = length l.inputs.items
