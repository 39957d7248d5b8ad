use Rattle.std.proofs.Common.{◌^◌, arith, ap}
use Rattle.amqp_session.specs.Deliveries.{TableView}
use Rattle.amqp_session.proofs.SortedTableLemmas.{few_rows}
use Rattle.amqp_session.proofs.deliveries.table.Deliveries.len.Goals as goal

pub returns-clause-few : goal.returns-clause-few
returns-clause-few c =
    let few = few_rows (2 ^ 32) c.self.inside.rows.items c.self.invariant.0 c.self.invariant.1 in
    omega (arith, few, c.len.ensures)

pub returns-clause-turns : goal.returns-clause-turns
returns-clause-turns c = let e = ap (λ (t : TableView). t.reads.turns) c.self.view_is in omega (arith, e)

pub returns-clause-comparisons : goal.returns-clause-comparisons
returns-clause-comparisons c = let e = ap (λ (t : TableView). t.reads.comparisons) c.self.view_is in omega (arith, e)
