use Rattle.amqp_links.proofs.SendingCreditLemmas.{begun_before_limit, credit_is, flows_say, none_begun_before}
use Rattle.amqp_links.proofs.laws.law_of_limits.Goals as goal

pub returns-clause-limit : goal.returns-clause-limit
returns-clause-limit c = begun_before_limit

pub returns-clause-none : goal.returns-clause-none
returns-clause-none c = none_begun_before

pub returns-clause-credit : goal.returns-clause-credit
returns-clause-credit c = credit_is

pub returns-clause-flows : goal.returns-clause-flows
returns-clause-flows c = flows_say
