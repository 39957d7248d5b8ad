use Rattle.std.proofs.Common.{◌^◌}
use Rattle.amqp_session.proofs.SortedTableLemmas.{few_rows}
use Rattle.amqp_session.proofs.deliveries.table.Deliveries.find.Goals as goal

pub place_among-requires-clause-few : goal.place_among-requires-clause-few
place_among-requires-clause-few c = few_rows (2 ^ 32) c.self.inside.rows.items c.self.invariant.0 c.self.invariant.1
