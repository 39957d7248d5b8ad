use Rattle.std.proofs.Common.{◌≡◌, ◌≤◌, List, None, map, take, true, vec_len, vec_capacity}
use Rattle.amqp_session.specs.Deliveries.{stepped}
use Rattle.amqp_session.specs.Relay.{DispositionQuestion}
use Rattle.amqp_session.specs.Disposing.{echo_of, AsksEach, AreRuns}
use Rattle.amqp_session.specs.Runs.{DeliveryRange}
use Rattle.amqp_session.specs.Inner.Walks.{turned, noted, EachMeant}
use Rattle.amqp_session.proofs.WalkLemmas.{reach}
use Rattle.amqp_session.proofs.GrowingRunLemmas.{EndBefore}
use Rattle.amqp_session.proofs.session.walk.ask_each.Given as goal

abbrev pub invariant-loop-count : goal.invariant-loop-count
invariant-loop-count g l = record {
  asked : (asked : List (DispositionQuestion g.row.R.Denot)) × AsksEach g.R.LinkRelay.gives.disposition_gives l.fn.disposition (take l.count (turned l.fn.from l.fn.rows.rows)) asked l.fn.links l.links
      × (runs : List DeliveryRange) × AreRuns l.fn.disposition.first (noted l.fn.disposition.settled asked) runs × (l.echoes.items ≡ map (echo_of None) runs)
      × EndBefore l.fn.disposition.first (reach l.fn.disposition.first 0 (take l.count (turned l.fn.from l.fn.rows.rows))) runs;
  near : EachMeant l.fn.disposition true (take l.count (turned l.fn.from l.fn.rows.rows));
  counted : l.rows ≡ stepped l.count l.fn.rows;
  few : vec_len l.echoes ≤ l.count;
  room : vec_capacity l.echoes ≡ vec_capacity l.fn.echoes;
}
