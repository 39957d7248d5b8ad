use Rattle.amqp_engine.proofs.OneFrameLemmas.{are_frames}
use Rattle.amqp_engine.proofs.laws.law_of_transfer_frames.Goals as goal

pub returns : goal.returns
returns g c = are_frames g.R.LinkRelay.gives c.law_of_views.ensures
