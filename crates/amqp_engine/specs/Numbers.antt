-- Part: other calls.
-- Of each session of an engine: the number of a delivery is known as its first transfer is accepted, also while it is held back (AMQP 1.0
-- part 2, section 2.6.12). A session's own history is the calls that entries made of it.
use Rattle.std.specs.Prelude.{◌≡◌, ℕ, List, Some, nat_eq}
use Rattle.std.specs.Map.{lookup}
use Rattle.amqp_types.specs.declared.states.ConnectionState.{ConnectionState}
use Rattle.amqp_types.specs.Open.{OpenModel}
use Rattle.amqp_session.specs.History.{Made}
use Rattle.amqp_session.specs.Numbers.{NumbersAreKnown, number_after}
use Rattle.amqp_session.specs.Relay.{Relays}
use Rattle.amqp_session.specs.Sending.{number_shown}
use Rattle.amqp_session.specs.Session.{SessionView}
use Rattle.amqp_engine.specs.ByHistory.{begun, live, of_session}
use Rattle.amqp_engine.specs.EngineView.{EngineView}
use Rattle.amqp_engine.specs.Entry.{Entry}
use Rattle.amqp_engine.specs.Legal.{Legal}

-- of each session that was begun, also where it was forgotten since
abbrev pub EngineKnows : {R : Type 0} → Relays R → Type 0
EngineKnows g = (s : ConnectionState) (o : OpenModel) (H : List (Entry _)) (v : EngineView _) → Legal g s o H v
    → (n : ℕ) (m : Made) → begun s n H ≡ Some m → NumbersAreKnown m (of_session n H)

-- each session that is there shows the number that the next delivery gets
abbrev pub EngineShows : {R : Type 0} → Relays R → Type 0
EngineShows g = (s : ConnectionState) (o : OpenModel) (H : List (Entry _)) (v : EngineView _) → Legal g s o H v
    → (n : ℕ) (m : Made) → live s n H ≡ Some m
    → (t : SessionView _) × (lookup (nat_eq n) v.sessions ≡ Some t) × (number_shown t.sending ≡ number_after (of_session n H))
