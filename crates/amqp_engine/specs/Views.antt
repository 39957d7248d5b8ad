-- Part: every call exactly.
-- What contracts see of an engine is what its history gives.
use Rattle.std.specs.Prelude.{ℕ, ◌≡◌, List, ◌++◌, Some, None, is_some, nat_eq, fold}
use Rattle.std.specs.Map.{lookup}
use Rattle.std.specs.FinMap as map
use Rattle.amqp_types.specs.declared.states.ConnectionState.{ConnectionState}
use Rattle.amqp_types.specs.Open.{OpenModel}
use Rattle.amqp_frames.specs.declared.frame.Frame.{Frame}
use Rattle.amqp_session.specs.Session.{SessionView}
use Rattle.amqp_session.specs.History as session
use Rattle.amqp_session.specs.Headline as single
use Rattle.amqp_session.specs.Relay.{Relays}
use Rattle.amqp_engine.specs.Kept.{Outcomes, outcomes_after}
use Rattle.amqp_engine.specs.EngineView.{EngineView, own_limit}
use Rattle.amqp_engine.specs.Entry.{Entry}
use Rattle.amqp_engine.specs.Legal.{Legal}
use Rattle.amqp_engine.specs.ByHistory.{of_session, live, is_forgotten, state_from, stop_reason, remote_open, channel_max, limit_after, route, held, last_frames}

pub record Stands {R : Type 0} (s : ConnectionState) (o : OpenModel) (H : List (Entry R)) (v : EngineView R) : Type 0 where
  -- each session that was begun and not forgotten, and no other
  pub sessions_are : (n : ℕ) (m : session.Made) → live s n H ≡ Some m →
      (t : SessionView R) × (lookup (nat_eq n) v.sessions ≡ Some t) × single.Stands m (of_session n H) t
  pub no_other : (n : ℕ) → live s n H ≡ None → lookup (nat_eq n) v.sessions ≡ None
  pub forgotten_are : (n : ℕ) → is_some (map.get v.forgotten n) ≡ is_forgotten n H
  -- the connection
  pub state_is : v.connection.state ≡ state_from s H
  pub stop_reason_is : v.connection.stop_reason ≡ stop_reason s H
  pub local_open_is : v.connection.local_open ≡ o
  pub remote_open_is : v.connection.remote_open ≡ remote_open H
  pub channel_max_is : v.connection.agreed_channel_max ≡ channel_max o H
  pub held_is : (c : ℕ) → map.get v.connection.session_by_outgoing_channel c ≡ held c H
  pub routes_are : (c : ℕ) → map.get v.connection.session_by_incoming_channel c ≡ route c H
  -- the limit of a piece
  pub limit_is : v.limit ≡ limit_after (own_limit o) H
  -- what waits is the end of the last entry's frames: others left from the front
  pub waiting_is : (gone : List Frame) × (last_frames H ≡ gone ++ v.waiting)

-- the outcomes that entries leave
abbrev pub outcomes_from : {R : Type 0} → Outcomes → List (Entry R) → Outcomes
outcomes_from o H = fold (λ old e. outcomes_after e.input e.received e.reached e.refusal old) o H

-- Whatever legal history led to the view after, the view is what it gives. And the outcomes are those that the entries left: no
-- handle takes one meanwhile.
pub record Views {R : Type 0} (g : Relays R) (es : List (Entry R)) (v v' : EngineView R) : Type 0 where
  pub stands : (s : ConnectionState) (o : OpenModel) (H : List (Entry R)) → Legal g s o H v' → Stands s o H v'
  pub outcomes_are : v'.outcomes ≡ outcomes_from v.outcomes es
