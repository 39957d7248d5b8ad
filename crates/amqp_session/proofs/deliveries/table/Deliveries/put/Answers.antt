use Rattle.std.proofs.Common.{◌^◌, sym, subst, arith}
use Rattle.amqp_blocks.specs.Chunked.{Sequence}
use Rattle.amqp_session.specs.Deliveries.{IsTable}
use Rattle.amqp_session.specs.declared.deliveries.Delivery.{Delivery}
use Rattle.amqp_session.proofs.SortedTableLemmas.{few_rows, recorded_table}
use Rattle.amqp_session.proofs.deliveries.table.Deliveries.put.Goals as goal

pub invariant_of-self : goal.invariant_of-self
invariant_of-self c =
    let table = subst (λ (s : Sequence Delivery). IsTable s.items) (sym c.place_among-place.ensures.kept) c.self.invariant in
    subst IsTable (sym c.put_at.ensures.items) (recorded_table c.args.delivery c.place_among-place.new.rows.items (omega arith) table)

pub place_among-place-requires-clause-few : goal.place_among-place-requires-clause-few
place_among-place-requires-clause-few c = few_rows (2 ^ 32) c.self.inside.rows.items c.self.invariant.0 c.self.invariant.1
