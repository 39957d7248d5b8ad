use Rattle.amqp_engine.proofs.engine.Engine.encode_first_to.Goals as goal

pub returns-clause-sent : goal.returns-clause-sent
returns-clause-sent g c =
    let is = rw c.unwrap-frame.ensures at c.first.ensures.first in
    rw (← c.self.view_is) (c.unwrap-frame.result.now, is, c.encode_to.ensures.sent)
