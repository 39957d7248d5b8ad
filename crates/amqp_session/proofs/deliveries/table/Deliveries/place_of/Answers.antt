use Rattle.std.proofs.Common.{arith}
use Rattle.amqp_session.proofs.SortedTableLemmas.{above_place}
use Rattle.amqp_session.proofs.deliveries.table.Deliveries.place_of.Goals as goal

pub returns-then-first-front-clause-above : goal.returns-then-first-front-clause-above
returns-then-first-front-clause-above c = above_place c.args.self.now.rows 0 c.args.first c.len-len.ensures.rising (omega (arith, c.first_number-front.ensures.value, c.if-first-front.true))
