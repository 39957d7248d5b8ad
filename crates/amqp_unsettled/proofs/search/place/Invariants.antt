use Rattle.std.proofs.Common.{◌-◌}
use Rattle.amqp_unsettled.specs.Inner.Order.{HoldsPlace}
use Rattle.amqp_unsettled.specs.Inner.Rows.{fars}
use Rattle.amqp_unsettled.proofs.search.place.Given as goal

abbrev pub invariant-loop-low : goal.invariant-loop-low
invariant-loop-low g l = HoldsPlace (fars g.T.Numbered.number_of l.base l.cells) l.target l.low l.high

abbrev pub decreases-loop-low : goal.decreases-loop-low
decreases-loop-low g l = l.high - l.low
