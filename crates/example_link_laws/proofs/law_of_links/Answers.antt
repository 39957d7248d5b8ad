use Rattle.amqp_links.specs.Ends.{end_at}
use Rattle.amqp_links.specs.SessionHistory.{nobody, owner_by}
use Rattle.example_link_laws.proofs.LimitsLemmas.{of_owner}
use Rattle.example_link_laws.proofs.law_of_links.Goals as goal

pub returns : goal.returns
returns c = λ H v leads h initial K is.
    of_owner (owner_by h nobody H) (end_at v.ends h) initial K is (c.law_of_session_links.ensures H v leads h)
    (λ s own. c.law_of_limits.ensures.limit initial K s own)
