-- What holds of a link that is alone holds of each link of a session.
use Rattle.std.proofs.Common.{◌≡◌, ℕ, List, Option, Some, None, subst}
use Rattle.amqp_links.specs.declared.end.End.{End}
use Rattle.amqp_links.specs.declared.end.End.TheVariants.{Sending, Receiving}
use Rattle.amqp_links.specs.Sending.{SendingView}
use Rattle.amqp_links.specs.SendingCredit.{BegunBeforeLimit}
use Rattle.amqp_links.specs.SendingHistory.{SendingCall, SendingLeadsTo}
use Rattle.amqp_links.specs.SessionHistory.{IsOwn, Owner, a_sender}

by_end : (e : Option End) (initial : ℕ) (K : List SendingCall) → IsOwn (a_sender initial K) e
    → ((v : SendingView) → SendingLeadsTo initial K v → BegunBeforeLimit initial K) → BegunBeforeLimit initial K
by_end None initial K own law = absurd own
by_end (Some (Sending s)) initial K own law = law s own
by_end (Some (Receiving r)) initial K own law = absurd own

pub of_owner : (o : Owner) (e : Option End) (initial : ℕ) (K : List SendingCall) → o ≡ a_sender initial K → IsOwn o e
    → ((v : SendingView) → SendingLeadsTo initial K v → BegunBeforeLimit initial K) → BegunBeforeLimit initial K
of_owner o e initial K is own law = by_end e initial K (subst (λ x. IsOwn x e) is own) law
