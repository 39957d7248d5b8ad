use Rattle.std.proofs.Common.{inr, subst}
use Rattle.amqp_driver.specs.contracts.plain.PlainRelayLinkRelay.TheImpl.{ghosts}
use Rattle.amqp1.specs.LinkCalls.{AttachesLinkOf}
use Rattle.amqp1.proofs.occupant.Occupant.attach_text.Goals as goal

pub returns-in-Ok : goal.returns-in-Ok
returns-in-Ok c = inr (inr (
  c.in-Ok.attach,
  c.in-Ok.ensures.0,
  c.attach-attached.result,
  subst (λ rule. AttachesLinkOf ghosts.gives c.args.session c.args.name.now c.in-Ok.attach rule c.args.self.now c.attach-attached.result c.attach-attached.new.self)
      c.renewal_of.ensures c.attach-attached.ensures,
  c.tell_link.ensures,
))
