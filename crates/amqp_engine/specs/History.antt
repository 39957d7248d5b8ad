-- Part: every call exactly; inner.
-- Histories of an engine: chains of its steps.
use Rattle.std.specs.Prelude.{◌≡◌, ◌⊎◌, ℕ, List, [], ◌∷◌, ◌++◌, Some, None, nat_eq}
use Rattle.std.specs.Map.{lookup}
use Rattle.std.specs.FinMap as map
use Rattle.amqp_types.specs.declared.states.SessionState.TheVariants.{Unmapped}
use Rattle.amqp_types.specs.declared.states.ConnectionState.TheVariants.{End}
use Rattle.amqp_types.specs.declared.states.ConnectionState.{ConnectionState}
use Rattle.amqp_types.specs.Open.{OpenModel}
use Rattle.amqp_frames.specs.declared.frame.Frame.{Frame}
use Rattle.amqp_session.specs.declared.keys.KeyHash.{KeyHash}
use Rattle.amqp_session.specs.Relay.{Relays}
use Rattle.amqp_session.specs.Session.{SessionView}
use Rattle.amqp_engine.specs.EngineView.{EngineView, new_engine}
use Rattle.amqp_engine.specs.Engine.{Step, Keeps}
use Rattle.amqp_engine.specs.Entry.{Entry}

-- the connection is closed at both ends, and session n is ended at both
abbrev pub IsClosed : {R : Type 0} → EngineView R → Type 0
IsClosed v = v.connection.state ≡ End

abbrev pub IsEnded : {R : Type 0} → ℕ → EngineView R → Type 0
IsEnded n v = (s : SessionView _) × (lookup (nat_eq n) v.sessions ≡ Some s) × (s.state ≡ Unmapped)

-- Outcomes stay, or a handle took them.
pub record OutcomesTaken {R : Type 0} (v w : EngineView R) : Type 0 where
  pub close : (w.outcomes.connection ≡ v.outcomes.connection) ⊎ (IsClosed v × (w.outcomes.connection ≡ None))
  pub ends : (n : ℕ) →
      (map.get w.outcomes.sessions n ≡ map.get v.outcomes.sessions n) ⊎ (IsEnded n v × (map.get w.outcomes.sessions n ≡ None))

-- Frames that waited left from the front, and handles took outcomes; connection and sessions stayed. Wishes are no part of it.
pub record OutputTaken {R : Type 0} (v w : EngineView R) : Type 0 where
  pub gone : List Frame
  pub left : v.waiting ≡ gone ++ w.waiting
  pub connection_is : w.connection ≡ v.connection
  pub sessions_is : w.sessions ≡ v.sessions
  pub forgotten_is : w.forgotten ≡ v.forgotten
  pub limit_is : w.limit ≡ v.limit
  pub outcomes_are : OutcomesTaken v w

-- frames that waited left from the front, and nothing else changed
pub record OnlyLeft {R : Type 0} (v w : EngineView R) : Type 0 where
  pub taken : OutputTaken v w
  pub outcomes_stay : w.outcomes ≡ v.outcomes
  pub wishes_stay : w.wishes ≡ v.wishes

-- a chain of steps, of each of which the outcome is kept; between and after them waiting frames leave from the front, and
-- handles take outcomes
abbrev pub Chain : {R : Type 0} → Relays R → EngineView R → List (Entry R) → EngineView R → Type 0
Chain g v [] w = OutputTaken v w
Chain g v (e ∷ es) w = (u : EngineView _) × (m : EngineView _) × (n : EngineView _)
    × OutputTaken v u × Step g u e m × Keeps e m n × Chain g n es w

-- a legal history of an engine that was new in this state and with this Open, by whatever hash it finds what the peer names
abbrev pub LeadsTo : {R : Type 0} → Relays R → ConnectionState → OpenModel → List (Entry R) → EngineView R → Type 0
LeadsTo g state o H w = (hash : KeyHash) × Chain g (new_engine hash state o) H w
