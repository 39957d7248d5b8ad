use Rattle.amqp_idle.proofs.DueLemmas.{beats_where_idle}
use Rattle.amqp_idle.proofs.InTimeLemmas.{beats_in_time}
use Rattle.amqp_idle.proofs.laws.law_of_beats.Goals as goal

pub returns-clause-idle : goal.returns-clause-idle
returns-clause-idle c = beats_where_idle

pub returns-clause-in_time : goal.returns-clause-in_time
returns-clause-in_time c = beats_in_time
