use Rattle.amqp_session.proofs.FiniteMapLemmas.{name_put}
use Rattle.amqp_session.proofs.link.names.put.Goals as goal

pub returns-clause-put : goal.returns-clause-put
returns-clause-put g c = let updates = rw c.unwrap.ensures at c.insert.ensures.updates in name_put c.args.names.now c.insert.new.self _ c.args.link updates
