use Rattle.std.proofs.Common.{Option, sym, subst, ◌∙◌}
use Rattle.amqp_session.specs.declared.link.LiveLink.{LiveLink}
use Rattle.amqp_session.specs.declared.error.SessionInnerError.TheVariants as Refused
use Rattle.amqp_session.specs.Linking.{AttachRefused, IsWaited}
use Rattle.amqp_session.proofs.AbsenceLemmas.{none_there}
use Rattle.amqp_session.proofs.FiniteMapLemmas.{text_at}
use Rattle.amqp_session.proofs.link.names.refusal.Goals as goal

pub returns-in-None-clause-some : goal.returns-in-None-clause-some
returns-in-None-clause-some g c = λ old. subst (λ (o : Option (LiveLink _)). AttachRefused old o Refused.RemoteAttachingLinkNameNotFound) (c.in-None.ensures.value ∙ sym (text_at c.args.names.now.entries c.args.name.now)) tt

pub returns-then-is_waited-clause-none : goal.returns-then-is_waited-clause-none
returns-then-is_waited-clause-none g c =
    subst (λ (o : Option (LiveLink _)). IsWaited o) (c.in-Some.ensures.value ∙ sym (text_at c.args.names.now.entries c.args.name.now)) (sym c.is_waited.ensures ∙ c.if-is_waited.true)

pub returns-else-is_waited-clause-some : goal.returns-else-is_waited-clause-some
returns-else-is_waited-clause-some g c = λ old.
    subst (λ (o : Option (LiveLink _)). AttachRefused old o Refused.HandleInUse) (c.in-Some.ensures.value ∙ sym (text_at c.args.names.now.entries c.args.name.now)) (none_there _ (sym c.is_waited.ensures ∙ c.if-is_waited.false))
