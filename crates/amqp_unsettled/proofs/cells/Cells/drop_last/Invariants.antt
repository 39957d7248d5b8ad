use Rattle.std.proofs.Common.{◌≡◌, ◌-◌, ◌<◌, length, take}
use Rattle.amqp_unsettled.specs.Inner.Rows.{IsLoose, IsThereAt, items_in, there, used}
use Rattle.amqp_unsettled.proofs.cells.Cells.drop_last.Given as goal

abbrev pub invariant-loop-self : goal.invariant-loop-self
invariant-loop-self g l = record {
  row : IsLoose g.T.Numbered.number_of l.self;
  front : IsThereAt (used l.self) 0;
  some : 0 < length (used l.self);
  items : items_in l.self ≡ there (take (length (used l.fn.self) - 1) (used l.fn.self));
}

abbrev pub decreases-loop-self : goal.decreases-loop-self
decreases-loop-self g l = length l.self.cells.items
