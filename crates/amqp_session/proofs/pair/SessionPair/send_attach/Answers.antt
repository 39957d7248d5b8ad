use Rattle.amqp_session.proofs.PairStepLemmas.{attach_step}
use Rattle.amqp_session.proofs.PairTallyLemmas.{turned, pair_holds}
use Rattle.amqp_session.proofs.pair.SessionPair.send_attach.Goals as goal

pub invariant_of-self : goal.invariant_of-self
invariant_of-self g c = attach_step g.R.LinkRelay.gives c.self.inside.a.view c.self.inside.a.view _ c.args.attach c.self.inside.to_a.items
    c.self.inside.to_b.items c.attach_at.new.going.items _ c.self.invariant c.attach_at.ensures

pub invariant_of-self-in-B : goal.invariant_of-self-in-B
invariant_of-self-in-B g c =
    turned _ _ _ _ (attach_step g.R.LinkRelay.gives c.self.inside.b.view c.self.inside.b.view _ c.args.attach c.self.inside.to_b.items
    c.self.inside.to_a.items c.attach_at-in-B.new.going.items _ (turned _ _ _ _ c.self.invariant) c.attach_at-in-B.ensures)

pub returns-in-A-clause-holds : goal.returns-in-A-clause-holds
returns-in-A-clause-holds g c = pair_holds _ (invariant_of-self g c)

pub returns-in-B-clause-holds : goal.returns-in-B-clause-holds
returns-in-B-clause-holds g c = pair_holds _ (invariant_of-self-in-B g c)
