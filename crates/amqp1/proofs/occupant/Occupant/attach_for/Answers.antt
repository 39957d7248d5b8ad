use Rattle.std.proofs.Common.{subst}
use Rattle.amqp_driver.specs.contracts.plain.PlainRelayLinkRelay.TheImpl.{ghosts}
use Rattle.amqp1.specs.LinkNumbers.{AttachesFor, renewal_of}
use Rattle.amqp1.proofs.occupant.Occupant.attach_for.Goals as goal

pub returns-in-Ok : goal.returns-in-Ok
returns-in-Ok c = subst (λ n. AttachesFor ghosts.gives c.args.session c.args.text.now n (renewal_of c.args.low c.args.high) c.args.link.now c.args.self.now
    c.attach_text.result c.attach_text.new.link c.attach_text.new.self) c.in-Ok.ensures.cases.0 c.attach_text.ensures
