use Rattle.amqp_collector.proofs.WholeLemmas.{held_within, whole_is_parts}
use Rattle.amqp_collector.proofs.laws.law_of_wholes.Goals as goal

pub returns-clause-parts : goal.returns-clause-parts
returns-clause-parts c = whole_is_parts

pub returns-clause-bound : goal.returns-clause-bound
returns-clause-bound c = held_within
