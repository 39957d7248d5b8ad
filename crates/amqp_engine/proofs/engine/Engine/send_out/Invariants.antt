use Rattle.std.proofs.Common.{◌≡◌, ◌+◌, ◌≤◌, length}
use Rattle.std.specs.Prelude.{vec_capacity}
use Rattle.amqp_engine.proofs.BufferRunLemmas.{SentSoFar}
use Rattle.amqp_engine.proofs.engine.Engine.send_out.Given as goal

abbrev pub invariant-loop-place : goal.invariant-loop-place
invariant-loop-place g l =
    SentSoFar l.place l.fn.self l.fn.out.bytes l.fn.refusals.items l.self l.out.bytes l.refusals.items
    × (l.fn.out.room + length l.fn.out.bytes ≤ l.out.room + length l.out.bytes)
    × (l.out.copied ≡ l.fn.out.copied)
    × (vec_capacity l.fn.refusals ≤ vec_capacity l.refusals)

abbrev pub decreases-loop-place : goal.decreases-loop-place
decreases-loop-place g l = length l.self.waiting
