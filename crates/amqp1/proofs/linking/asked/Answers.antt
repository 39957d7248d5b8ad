use Rattle.std.proofs.Common.{subst, sym}
use Rattle.amqp1.specs.Linking.{FindsLink}
use Rattle.amqp1.proofs.LinkingLemmas.{link_found, link_on_found}
use Rattle.amqp1.proofs.linking.asked.Goals as goal

pub returns-in-Link : goal.returns-in-Link
returns-in-Link c = subst (λ o. FindsLink o c.args.input.now c.named.result) (sym c.in-Link.is)
    (link_found c.args.input.now c.in_ok-session.rest.now c.in_ok-session.session c.named.result (sym c.in_ok-session.ensures) c.named.ensures)

pub returns-in_ok-handle-in-LinkOn : goal.returns-in_ok-handle-in-LinkOn
returns-in_ok-handle-in-LinkOn c = subst (λ o. FindsLink o c.args.input.now c.named-in-LinkOn.result) (sym c.in-LinkOn.is)
    (link_on_found c.args.input.now c.in_ok-session.rest.now c.in_ok-handle-in-LinkOn.rest.now c.in_ok-session.session c.in_ok-handle-in-LinkOn.handle
    c.named-in-LinkOn.result (sym c.in_ok-session.ensures) (sym c.in_ok-handle-in-LinkOn.ensures) c.named-in-LinkOn.ensures)
