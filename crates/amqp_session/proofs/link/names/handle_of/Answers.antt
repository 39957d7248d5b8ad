use Rattle.std.proofs.Common.{ap, sym, ◌∙◌}
use Rattle.std.specs.Option.{option_map}
use Rattle.amqp_session.specs.declared.link.LiveLink.{LiveLink}
use Rattle.amqp_session.proofs.FiniteMapLemmas.{text_at}
use Rattle.amqp_session.proofs.link.names.handle_of.Goals as goal

pub returns-in-None : goal.returns-in-None
returns-in-None g c = ap (option_map (λ (n : LiveLink _). n.handle)) (c.in-None.ensures.value ∙ sym (text_at _ _))

pub returns-in-Some : goal.returns-in-Some
returns-in-Some g c = ap (option_map (λ (n : LiveLink _). n.handle)) (c.in-Some.ensures.value ∙ sym (text_at _ _))
