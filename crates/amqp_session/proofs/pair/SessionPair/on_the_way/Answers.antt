use Rattle.amqp_session.proofs.PairTallyLemmas.{pair_holds}
use Rattle.amqp_session.proofs.pair.SessionPair.on_the_way.Goals as goal

pub returns-in-A-clause-holds : goal.returns-in-A-clause-holds
returns-in-A-clause-holds g c = rw (← c.self.view_is) (pair_holds _ c.self.invariant)

pub returns-in-B-clause-holds : goal.returns-in-B-clause-holds
returns-in-B-clause-holds g c = rw (← c.self.view_is) (pair_holds _ c.self.invariant)
