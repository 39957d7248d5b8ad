use Rattle.std.proofs.Common.{◌-◌, drop}
use Rattle.amqp_unsettled.specs.Inner.Rows.{Alike, FirstGone, IsRow, used}
use Rattle.amqp_unsettled.proofs.cells.Cells.join.Given as goal

abbrev pub invariant-loop-at : goal.invariant-loop-at
invariant-loop-at g l = record {
  row : IsRow g.T.Numbered.number_of l.self;
  alike : Alike (used l.fn.self) (used l.self);
  gone : FirstGone (l.to - l.at) (drop l.at (used l.self));
}

abbrev pub decreases-loop-at : goal.decreases-loop-at
decreases-loop-at g l = l.to - l.at
