use Rattle.amqp_credit.proofs.SenderLemmas.{begun_within_credit, taken_within_credit, answers_by_history, used_up_once}
use Rattle.amqp_credit.proofs.SenderLemmas.{count_is_exact, limit_is_kept}
use Rattle.amqp_credit.proofs.laws.law_of_senders.Goals as goal

pub returns-clause-begun : goal.returns-clause-begun
returns-clause-begun c = begun_within_credit

pub returns-clause-taken : goal.returns-clause-taken
returns-clause-taken c = taken_within_credit

pub returns-clause-answers : goal.returns-clause-answers
returns-clause-answers c = answers_by_history

pub returns-clause-once : goal.returns-clause-once
returns-clause-once c = used_up_once

pub returns-clause-count : goal.returns-clause-count
returns-clause-count c = count_is_exact

pub returns-clause-limit : goal.returns-clause-limit
returns-clause-limit c = limit_is_kept
