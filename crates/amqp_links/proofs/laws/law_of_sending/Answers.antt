use Rattle.amqp_links.proofs.SendingLemmas.{stands_by, sent_where_attached, is_credit_of}
use Rattle.amqp_links.proofs.laws.law_of_sending.Goals as goal

pub returns-clause-stands : goal.returns-clause-stands
returns-clause-stands c = stands_by

pub returns-clause-sent : goal.returns-clause-sent
returns-clause-sent c = sent_where_attached

pub returns-clause-credit : goal.returns-clause-credit
returns-clause-credit c = is_credit_of
