use Rattle.amqp_engine.proofs.RunSoFarLemmas.{carried}
use Rattle.amqp_engine.proofs.engine.Engine.step_first.Goals as goal

pub returns : goal.returns
returns g c =
    let popped = rw c.unwrap-input.ensures at c.pop_front.ensures.items in
    (_, popped, carried g.R.LinkRelay.gives _ _ _ _ c.requires.idle c.dispatch_any.ensures)
