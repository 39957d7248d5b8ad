-- Part: other calls.
-- On a session's links no delivery is begun past what its receiver gave.
use Rattle.std.specs.Prelude.{ℕ, ◌≡◌, List}
use Rattle.amqp_links.specs.SendingCredit.{BegunBeforeLimit}
use Rattle.amqp_links.specs.SendingHistory.{SendingCall}
use Rattle.amqp_links.specs.SessionHistory.{LinksCall, a_sender, nobody, owner_by}

-- Each handle that a sending end has, with its calls since it was added: none of its deliveries was begun past the
-- limit.
abbrev pub EachBeforeLimit : List LinksCall → Type 0
EachBeforeLimit H =
    (h initial : ℕ) (K : List SendingCall) → owner_by h nobody H ≡ a_sender initial K → BegunBeforeLimit initial K
