use Rattle.std.proofs.Common.{◌≡◌, ℕ, ◌+◌, ◌-◌, ◌^◌, ◌<◌, ◌≤◌}
use Rattle.amqp_session.specs.Deliveries.{compared, IsRising}
use Rattle.amqp_session.proofs.SortedTableLemmas.{IsPart}
use Rattle.amqp_session.proofs.deliveries.table.Deliveries.place_in.Given as goal

abbrev pub invariant-loop-left : goal.invariant-loop-left
invariant-loop-left l = record {
  rising : IsRising l.fn.self.rows;
  part : IsPart l.fn.self.rows l.first l.left.low l.left.high;
  enough : l.left.high - l.left.low < l.half;
  few : l.half ≤ 2 ^ 34;
  cost : (k : ℕ) × (c : ℕ) × (l.self ≡ compared k l.fn.self) × (l.half ≡ 2 ^ c) × (2 ^ (k + c) ≡ l.fn.places);
}

abbrev pub decreases-loop-left : goal.decreases-loop-left
decreases-loop-left l = l.half
