use Rattle.std.proofs.Common.{◌≡◌, [], length}
use Rattle.amqp_engine.proofs.RunSoFarLemmas.{Taking}
use Rattle.amqp_engine.proofs.engine.Engine.run.Given as goal

abbrev pub invariant-loop-answers : goal.invariant-loop-answers
invariant-loop-answers g l =
    Taking g.R.LinkRelay.gives l.fn.self l.fn.inputs.items l.fn.answers.items l.self l.inputs.items l.answers.items
    × (l.self.waiting ≡ [])
    × (l.total ≡ length l.fn.inputs.items)

abbrev pub decreases-loop-answers : goal.decreases-loop-answers
decreases-loop-answers g l = length l.inputs.items
