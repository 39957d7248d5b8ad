use Rattle.std.proofs.Common.{◌≡◌, ◌-◌, ◌≤◌, take, drop, length}
use Rattle.amqp_unsettled.specs.Inner.Rows.{live}
use Rattle.amqp_unsettled.proofs.cells.move_down.Given as goal

abbrev pub invariant-loop-at : goal.invariant-loop-at
invariant-loop-at g l = record {
  order : l.kept ≤ l.at;
  len : length l.cells ≡ length l.fn.cells;
  rest : drop l.at l.cells ≡ drop l.at l.fn.cells;
  done : take l.kept l.cells ≡ live (take (l.at - l.head) (drop l.head l.fn.cells));
}
