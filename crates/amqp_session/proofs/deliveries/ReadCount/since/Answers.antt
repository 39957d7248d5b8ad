use Rattle.std.proofs.Common.{arith}
use Rattle.amqp_session.proofs.ReadCountLemmas.{walk_since}
use Rattle.amqp_session.proofs.deliveries.ReadCount.since.Goals as goal

pub returns : goal.returns
returns c = λ w t k e. walk_since w c.args.self c.args.before (omega arith) (omega arith) t k e
