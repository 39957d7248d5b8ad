-- Part: the promise; every call exactly; other calls; inner.
-- What contracts see of an engine.
use Rattle.std.specs.Prelude.{◌-◌, ℕ, List, [], map, max, Option, Some, None}
use Rattle.std.specs.Option.{option_map}
use Rattle.amqp_types.specs.declared.states.ConnectionState.{ConnectionState}
use Rattle.amqp_types.specs.Open.{OpenModel}
use Rattle.amqp_session.specs.declared.deliveries.WalkCount.{WalkCount}
use Rattle.amqp_session.specs.declared.keys.KeyHash.{KeyHash}
use Rattle.amqp_session.specs.Session.{SessionView, SessionModel}
use Rattle.amqp_session.specs.declared.numbers.OutputHandle.{OutputHandle}
use Rattle.amqp_session.specs.Linking.{named_at}
use Rattle.amqp_frames.specs.declared.frame.Frame.{Frame}
use Rattle.amqp_connection.specs.Connection.{ConnectionView, new_connection}
use Rattle.std.specs.FinMap as map
use Rattle.amqp_numbers.specs.Ranges.{Numbers}
use Rattle.amqp_engine.specs.Kept.{Outcomes, Wishes, no_outcomes, no_wishes}

pub record EngineView (R : Type 0) : Type 0 where
  pub connection : ConnectionView
  -- those that were begun and not forgotten, by their numbers, in no order
  pub sessions : List (ℕ × SessionView R)
  -- the counts of the latest walk of each session
  pub walks : List (ℕ × WalkCount)
  -- the numbers of the sessions that were forgotten
  pub forgotten : Numbers
  -- how many bytes a piece may have
  pub limit : ℕ
  -- frames that are not yet put out, oldest first
  pub waiting : List Frame
  -- kept for handles
  pub outcomes : Outcomes
  pub wishes : Wishes

-- the sessions without the counts of their walks
abbrev pub views_of : {R : Type 0} → List (ℕ × SessionModel R) → List (ℕ × SessionView R)
views_of es = map (λ e. (e.0, e.1.view)) es

-- those counts
abbrev pub walks_of : {R : Type 0} → List (ℕ × SessionModel R) → List (ℕ × WalkCount)
walks_of es = map (λ e. (e.0, e.1.last_walk)) es

-- ---- the limit of a piece: the size that a side allows, without the size field; no peer may ask for less than 512 bytes

abbrev pub own_limit : OpenModel → ℕ
own_limit o = max (o.max_frame_size - 4) 4

abbrev pub peer_limit : OpenModel → ℕ
peer_limit o = max o.max_frame_size 512 - 4

abbrev pub new_engine : {R : Type 0} → KeyHash → ConnectionState → OpenModel → EngineView R
new_engine hash s o = record {
  connection = new_connection hash s o;
  sessions = [];
  walks = [];
  forgotten = map.empty;
  limit = own_limit o;
  waiting = [];
  outcomes = no_outcomes;
  wishes = no_wishes;
}

-- the output handle of the live link of this name, in the session that was found
abbrev pub output_handle_at : {R : Type 0} → List ℕ → Option (SessionView R) → Option OutputHandle
output_handle_at name None = None
output_handle_at name (Some s) = option_map (λ n. n.handle) (named_at name s.links)
