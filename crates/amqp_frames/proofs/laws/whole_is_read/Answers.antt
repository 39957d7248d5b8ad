use Rattle.amqp_frames.proofs.RoundTripLemmas.{piece_is_decoded}
use Rattle.amqp_frames.proofs.laws.whole_is_read.Goals as goal

pub returns : goal.returns
returns c = λ short p w. piece_is_decoded c.args.frame.now p c.is_channel.ensures (c.body_is_spelled.ensures short) w
