use Rattle.std.proofs.Common.{ap, ◌∙◌}
use Rattle.std.specs.FinMap as map
use Rattle.amqp_session.proofs.FiniteMapLemmas.{inserted}
use Rattle.amqp_endpoints.specs.Endpoint.{InputTable}
use Rattle.amqp_endpoints.proofs.inputs.Inputs.put.Goals as goal

pub returns-clause-ok : goal.returns-clause-ok
returns-clause-ok c = inserted _ _ c.args.input c.args.handle c.in_ok-index.ensures.updates.0
    ∙ ap (λ (m : InputTable). map.insert m c.args.input c.args.handle) c.self.view_is
