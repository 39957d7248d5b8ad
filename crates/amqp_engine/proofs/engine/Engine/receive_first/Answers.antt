use Rattle.amqp_engine.specs.declared.engine.input.Input.TheVariants as given
use Rattle.amqp_engine.proofs.RunSoFarLemmas.{carried}
use Rattle.amqp_engine.proofs.engine.Engine.receive_first.Goals as goal

pub returns : goal.returns
returns g c =
    let taken = rw c.in-Some-Received.is at c.pop_front.ensures.items in
    let popped = rw c.in-Some-Received.field-0-is at taken in
    (given.Received c.in-Some-Received.bytes, popped, carried g.R.LinkRelay.gives _ _ (given.Received c.in-Some-Received.bytes) _ c.requires.idle c.receive.ensures)
