use Rattle.amqp_engine.proofs.BegunSessionLemmas.{begun_short}
use Rattle.amqp_engine.proofs.engine.requested.begun.Goals as goal

pub returns-in-Err-clause-begun : goal.returns-in-Err-clause-begun
returns-in-Err-clause-begun g c =
    begun_short c.args.hash c.args.settings c.args.channel.0 c.args.stop c.keyed-session.result.view c.send_begin.new.self.view c.in-Err.error
    c.keyed-session.ensures.view c.in-Err.ensures.step
