use Rattle.std.proofs.Common.{◌≡◌, ◌-◌, ◌+◌, ℕ, length, drop}
use Rattle.amqp_unsettled.specs.Inner.Rows.{IsLoose, IsThereAt, items_in, there, used}
use Rattle.amqp_unsettled.proofs.cells.Cells.drop_first.Given as goal

abbrev pub invariant-loop-self : goal.invariant-loop-self
invariant-loop-self g l = record {
  row : IsLoose g.T.Numbered.number_of l.self;
  back : (i : ℕ) → i + 1 ≡ length (used l.self) → IsThereAt (used l.self) i;
  items : items_in l.self ≡ there (drop 1 (used l.fn.self));
  cells : l.self.cells.items ≡ l.fn.self.cells.items;
}

abbrev pub decreases-loop-self : goal.decreases-loop-self
decreases-loop-self g l = length l.self.cells.items - l.self.head
