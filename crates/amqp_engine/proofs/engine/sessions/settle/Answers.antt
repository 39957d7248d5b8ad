use Rattle.std.proofs.Common.{refl, [], ◌∷◌}
use Rattle.amqp_session.specs.History as session
use Rattle.amqp_engine.proofs.engine.sessions.settle.Goals as goal

pub returns : goal.returns
returns g c = record {
  calls = session.Settles c.args.role c.args.first c.args.last c.settle.result ∷ [];
  asked = (c.settle.result, refl, refl);
  steps = (c.settle.new.self.view, c.settle.ensures.step, refl);
  handed_out = refl;
}
