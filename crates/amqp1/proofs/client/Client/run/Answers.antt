use Rattle.amqp_driver.specs.contracts.plain.PlainRelayLinkRelay.TheImpl.{ghosts}
use Rattle.amqp1.specs.ClientView.{ClientView}
use Rattle.amqp1.proofs.RequestLemmas.{runs_one}
use Rattle.amqp1.proofs.client.Client.run.Goals as goal

pub returns : goal.returns
returns c = rw (← c.self.view_is) (
    let was : ClientView = record { stream = c.self.inside.stream; last = c.self.inside.last } in
    runs_one ghosts.gives was c.args.input c.request-asked.result c.request-asked.new.self _ _ c.request-asked.ensures c.note.ensures.status
    c.note.ensures.noted)
