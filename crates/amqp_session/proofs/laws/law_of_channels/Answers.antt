use Rattle.amqp_session.proofs.ChannelLemmas.{channels_law}
use Rattle.amqp_session.proofs.laws.law_of_channels.Goals as goal

pub returns : goal.returns
returns g c = channels_law g.R.LinkRelay.gives
