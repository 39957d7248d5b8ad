use Rattle.std.proofs.Common.{rules}
use Rattle.amqp_session.proofs.PairTallyLemmas.{pair_holds}
use Rattle.amqp_session.proofs.pair.SessionPair.allocate_link.Goals as goal

pub returns-in-A-clause-holds : goal.returns-in-A-clause-holds
returns-in-A-clause-holds g c = pair_holds _ (search rules)

pub returns-in-B-clause-holds : goal.returns-in-B-clause-holds
returns-in-B-clause-holds g c = pair_holds _ (search rules)
