use Rattle.std.proofs.Common.{sym, subst}
use Rattle.amqp_session.specs.Deliveries.{IsTable}
use Rattle.amqp_session.proofs.TableCutLemmas.{table_without}
use Rattle.amqp_session.proofs.deliveries.table.Deliveries.remove.Goals as goal

pub invariant_of-self : goal.invariant_of-self
invariant_of-self c = subst IsTable (sym c.cut_out.ensures.items) (table_without c.args.from c.args.count c.self.inside.rows.items c.self.invariant)
