use Rattle.amqp_links.proofs.SessionLawLemmas.{each_is_alone}
use Rattle.amqp_links.proofs.laws.law_of_session_links.Goals as goal

pub returns : goal.returns
returns c = each_is_alone
