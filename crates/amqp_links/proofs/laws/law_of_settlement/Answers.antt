use Rattle.amqp_links.proofs.UnsettledLawLemmas.{are_tables}
use Rattle.amqp_links.proofs.laws.law_of_settlement.Goals as goal

pub returns : goal.returns
returns c = are_tables
