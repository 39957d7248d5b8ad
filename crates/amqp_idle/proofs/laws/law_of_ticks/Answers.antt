use Rattle.amqp_idle.proofs.DueLemmas.{opens_once, tells}
use Rattle.amqp_idle.proofs.laws.law_of_ticks.Goals as goal

pub returns-clause-opened : goal.returns-clause-opened
returns-clause-opened c = opens_once

pub returns-clause-due : goal.returns-clause-due
returns-clause-due c = tells
