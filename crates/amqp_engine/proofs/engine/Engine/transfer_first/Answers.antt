use Rattle.amqp_engine.specs.declared.engine.input.Input.TheVariants as given
use Rattle.amqp_engine.proofs.RunSoFarLemmas.{carried}
use Rattle.amqp_engine.proofs.engine.Engine.transfer_first.Goals as goal

pub returns : goal.returns
returns g c =
    let t = c.in-Some-Transfer in
    let input = given.Transfer t.number t.input t.transfer t.payload t.is_first in
    let taken = rw t.is at c.pop_front.ensures.items in
    let popped = rw t.field-0-is at taken in
    (input, popped, carried g.R.LinkRelay.gives _ _ input _ c.requires.idle c.request_transfer-done.ensures.carried)
