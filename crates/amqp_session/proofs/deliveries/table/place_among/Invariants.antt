use Rattle.std.proofs.Common.{◌≡◌, ℕ, ◌-◌, ◌^◌, ◌<◌, ◌≤◌}
use Rattle.amqp_session.proofs.SortedTableLemmas.{IsPart}
use Rattle.amqp_session.proofs.deliveries.table.place_among.Given as goal

abbrev pub invariant-loop-left : goal.invariant-loop-left
invariant-loop-left l = record {
  kept : l.rows ≡ l.fn.rows;
  part : IsPart l.fn.rows.items l.number l.left.low l.left.high;
  enough : l.left.high - l.left.low < l.half;
  few : l.half ≤ 2 ^ 36;
  power : (c : ℕ) × (l.half ≡ 2 ^ c);
}

abbrev pub decreases-loop-left : goal.decreases-loop-left
decreases-loop-left l = l.half
