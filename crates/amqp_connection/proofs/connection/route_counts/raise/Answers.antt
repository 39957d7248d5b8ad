use Rattle.std.proofs.Common.{◌+◌, ap}
use Rattle.amqp_connection.proofs.RouteCountLemmas.{put_writes, raised}
use Rattle.amqp_connection.proofs.connection.route_counts.raise.Goals as goal

pub returns-clause-raised : goal.returns-clause-raised
returns-clause-raised c = raised _ _ c.args.number _ (put_writes _ _ c.args.number _ c.put.ensures.put) (ap (λ n. n + 1) c.count_of-count.ensures)
