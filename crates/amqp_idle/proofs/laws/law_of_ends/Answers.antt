use Rattle.amqp_idle.proofs.DueLemmas.{silent_where_idle, silent_at_once}
use Rattle.amqp_idle.proofs.DueLemmas.{late_openings, quiet_after_end, over_as_ended}
use Rattle.amqp_idle.proofs.InTimeLemmas.{silent_in_time}
use Rattle.amqp_idle.proofs.laws.law_of_ends.Goals as goal

pub returns-clause-silent : goal.returns-clause-silent
returns-clause-silent c = silent_where_idle

pub returns-clause-at_once : goal.returns-clause-at_once
returns-clause-at_once c = silent_at_once

pub returns-clause-in_time : goal.returns-clause-in_time
returns-clause-in_time c = silent_in_time

pub returns-clause-late : goal.returns-clause-late
returns-clause-late c = late_openings

pub returns-clause-quiet : goal.returns-clause-quiet
returns-clause-quiet c = quiet_after_end

pub returns-clause-over : goal.returns-clause-over
returns-clause-over c = over_as_ended
