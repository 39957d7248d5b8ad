use Rattle.amqp_types.proofs.KindLemmas.{kind_found, kind_again}
use Rattle.amqp_types.proofs.laws.kinds_are_read.Goals as goal

pub returns : goal.returns
returns c = record { found = kind_found; again = kind_again }
