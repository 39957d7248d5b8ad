use Rattle.amqp_links.proofs.ReceivingHistoryLemmas.{stands_by, told_where_attached, is_assembly_of, is_credit_of}
use Rattle.amqp_links.proofs.laws.law_of_receiving.Goals as goal

pub returns-clause-stands : goal.returns-clause-stands
returns-clause-stands c = stands_by

pub returns-clause-told : goal.returns-clause-told
returns-clause-told c = told_where_attached

pub returns-clause-parts : goal.returns-clause-parts
returns-clause-parts c = is_assembly_of

pub returns-clause-credit : goal.returns-clause-credit
returns-clause-credit c = is_credit_of
