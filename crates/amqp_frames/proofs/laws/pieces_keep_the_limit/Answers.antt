use Rattle.amqp_frames.proofs.RoundTripLemmas.{keeps_limit, carries_payload}
use Rattle.amqp_frames.proofs.laws.pieces_keep_the_limit.Goals as goal

pub returns : goal.returns
returns c = record { limit = keeps_limit; payload = carries_payload }
