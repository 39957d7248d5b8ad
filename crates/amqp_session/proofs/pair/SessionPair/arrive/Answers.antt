use Rattle.amqp_session.proofs.PairRunLemmas.{leads_known}
use Rattle.amqp_session.proofs.PairArrivalLemmas.{arrive_step}
use Rattle.amqp_session.proofs.PairTallyLemmas.{turned, pair_holds}
use Rattle.amqp_session.proofs.pair.SessionPair.arrive.Goals as goal

pub arrive_at-requires : goal.arrive_at-requires
arrive_at-requires g c = leads_known _ _ _ _ c.self.invariant.ledger.a_comes

pub arrive_at-requires-in-B : goal.arrive_at-requires-in-B
arrive_at-requires-in-B g c = leads_known _ _ _ _ c.self.invariant.ledger.b_comes

pub invariant_of-self : goal.invariant_of-self
invariant_of-self g c =
    arrive_step g.R.LinkRelay.gives c.self.inside.a.view c.arrive_at.new.me.view _ c.self.inside.to_a.items c.self.inside.to_b.items
    c.arrive_at.new.coming.items c.arrive_at.new.going.items _ c.self.invariant c.arrive_at.ensures

pub invariant_of-self-in-B : goal.invariant_of-self-in-B
invariant_of-self-in-B g c =
    turned _ _ _ _ (arrive_step g.R.LinkRelay.gives c.self.inside.b.view c.arrive_at-in-B.new.me.view _ c.self.inside.to_b.items
    c.self.inside.to_a.items c.arrive_at-in-B.new.coming.items c.arrive_at-in-B.new.going.items _ (turned _ _ _ _ c.self.invariant)
    c.arrive_at-in-B.ensures)

pub returns-in-A-clause-holds : goal.returns-in-A-clause-holds
returns-in-A-clause-holds g c = pair_holds _ (invariant_of-self g c)

pub returns-in-B-clause-holds : goal.returns-in-B-clause-holds
returns-in-B-clause-holds g c = pair_holds _ (invariant_of-self-in-B g c)
