use Rattle.std.proofs.Common.{Some, refl, sym, subst}
use Rattle.amqp_driver.specs.contracts.plain.PlainRelayLinkRelay.TheImpl.{ghosts}
use Rattle.amqp1.specs.ClientView.{ClientView}
use Rattle.amqp1.specs.LinkCalls.{LinksSettle, last_settled, settling_by}
use Rattle.amqp1.proofs.client.Client.settle_by.Goals as goal

pub returns : goal.returns
returns c = subst (λ (x : ClientView). LinksSettle (settling_by ghosts.gives c.args.disposition) c.args.links.now c.args.self.now c.note_settled.result x)
    (sym c.note_settled.ensures.noted)
    (subst (λ (o : ClientView). LinksSettle (settling_by ghosts.gives c.args.disposition) c.args.links.now o c.note_settled.result
    (record {
      stream = c.settle_by-asked.new.stream;
      last = last_settled c.self.inside.last c.settle_by-asked.new.stream.driver.engine.connection.state (Some c.settle_by-asked.result);
    })) c.self.view_is
    (Some c.settle_by-asked.result, (c.settle_by-asked.result, refl, c.settle_by-asked.ensures), c.note_settled.ensures.status, refl))
