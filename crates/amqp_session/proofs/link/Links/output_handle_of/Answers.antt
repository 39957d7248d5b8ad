use Rattle.std.proofs.Common.{ap, sym, ◌∙◌}
use Rattle.amqp_session.specs.Links.{attached_at}
use Rattle.amqp_session.specs.Linking.{live_output}
use Rattle.amqp_session.proofs.FiniteMapLemmas.{get_at}
use Rattle.amqp_session.proofs.link.Links.output_handle_of.Goals as goal

pub returns-in-None : goal.returns-in-None
returns-in-None g c = ap (λ o. live_output o c.args.self.now)
    (c.in-None.ensures.value ∙ sym (get_at c.self.inside.inputs.entries c.args.input.0) ∙ ap (λ l. attached_at c.args.input.0 l) c.self.view_is)

pub returns-in-Some : goal.returns-in-Some
returns-in-Some g c = c.while_live.ensures ∙ ap (λ o. live_output o c.args.self.now)
    (c.in-Some.ensures.value ∙ sym (get_at c.self.inside.inputs.entries c.args.input.0) ∙ ap (λ l. attached_at c.args.input.0 l) c.self.view_is)
