use Rattle.std.proofs.Common.{◌≡◌, [], length}
use Rattle.std.specs.FinMap as map
use Rattle.amqp_engine.proofs.HandledRunLemmas.{HearingEnds}
use Rattle.amqp_engine.proofs.handles.HandledEngine.flush_requests.Given as goal

abbrev pub invariant-loop-self : goal.invariant-loop-self
invariant-loop-self g l = HearingEnds g.R.LinkRelay.gives l.fn.self l.fn.answers.items l.self l.answers.items × (l.self.waiting ≡ [])

abbrev pub decreases-loop-self : goal.decreases-loop-self
decreases-loop-self g l = length (map.entries l.self.wishes.ends)
