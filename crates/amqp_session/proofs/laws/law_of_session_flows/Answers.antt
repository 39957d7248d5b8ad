use Rattle.amqp_session.proofs.SessionFlowLemmas.{flows_law}
use Rattle.amqp_session.proofs.laws.law_of_session_flows.Goals as goal

pub returns : goal.returns
returns g c = flows_law
