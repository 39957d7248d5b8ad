use Rattle.std.proofs.Common.{is_some, ap, ◌∙◌}
use Rattle.std.specs.FinMap as map
use Rattle.amqp_engine.proofs.ForgottenSessionLemmas.{wish_at}
use Rattle.amqp_engine.proofs.engine.handle_state.HandleState.is_wished.Goals as goal

pub returns : goal.returns
returns c = c.is_noted.ensures ∙ wish_at c.self.inside.places.entries c.args.number.0 ∙ ap (λ v. is_some (map.get v.wishes.ends c.args.number.0)) c.self.view_is
