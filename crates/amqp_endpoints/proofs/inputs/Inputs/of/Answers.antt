use Rattle.std.proofs.Common.{ap, sym, ◌∙◌}
use Rattle.std.specs.FinMap as map
use Rattle.amqp_session.proofs.FiniteMapLemmas.{get_at}
use Rattle.amqp_endpoints.specs.Endpoint.{InputTable}
use Rattle.amqp_endpoints.proofs.inputs.Inputs.of.Goals as goal

pub returns : goal.returns
returns c = c.copied.ensures ∙ c.get.ensures.value ∙ sym (get_at c.self.inside.handles.entries c.args.input)
    ∙ ap (λ (m : InputTable). map.get m c.args.input) c.self.view_is
