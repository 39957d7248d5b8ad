use Rattle.amqp_frames.proofs.RoundTripLemmas.{wholes_are_read, cuts_are_read, frames_are_decoded}
use Rattle.amqp_frames.proofs.laws.pieces_are_read.Goals as goal

pub returns : goal.returns
returns c = record { whole = wholes_are_read; cut = cuts_are_read; decoded = frames_are_decoded }
