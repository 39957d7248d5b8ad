use Rattle.std.proofs.Common.{ap, sym, ◌∙◌, is_some}
use Rattle.amqp_session.specs.Links.{attached_at}
use Rattle.amqp_session.proofs.FiniteMapLemmas.{get_at}
use Rattle.amqp_session.proofs.link.Links.is_attached.Goals as goal

pub returns : goal.returns
returns g c = c.is_some.ensures ∙ c.get.ensures.found ∙ ap is_some (sym (get_at c.self.inside.inputs.entries c.args.input.0)) ∙ ap (λ l. is_some (attached_at c.args.input.0 l)) c.self.view_is
