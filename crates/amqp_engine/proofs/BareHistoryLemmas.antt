-- Histories, what is kept for handles apart.
use Rattle.std.proofs.Common.{◌≡◌, List, [], ◌∷◌, ◌++◌, ap, ◌∙◌, sym}
use Rattle.amqp_types.specs.declared.states.ConnectionState.{ConnectionState}
use Rattle.amqp_types.specs.Open.{OpenModel}
use Rattle.amqp_frames.specs.declared.frame.Frame.{Frame}
use Rattle.amqp_session.specs.declared.keys.KeyHash.{KeyHash}
use Rattle.amqp_session.specs.Relay.{Relays}
use Rattle.amqp_engine.specs.EngineView.{EngineView, new_engine}
use Rattle.amqp_engine.specs.Engine.{Step, Keeps}
use Rattle.amqp_engine.specs.Entry.{Entry}
use Rattle.amqp_engine.specs.History as whole

-- frames that waited left from the front, and nothing else changed but what is kept
pub record OutputTaken {R : Type 0} (v w : EngineView R) : Type 0 where
  pub gone : List Frame
  pub left : v.waiting ≡ gone ++ w.waiting
  pub connection_is : w.connection ≡ v.connection
  pub sessions_is : w.sessions ≡ v.sessions
  pub forgotten_is : w.forgotten ≡ v.forgotten
  pub limit_is : w.limit ≡ v.limit

abbrev pub Chain : {R : Type 0} → Relays R → EngineView R → List (Entry R) → EngineView R → Type 0
Chain g v [] w = OutputTaken v w
Chain g v (e ∷ es) w = (u : EngineView _) × (m : EngineView _) × OutputTaken v u × Step g u e m × Chain g m es w

abbrev pub LeadsTo : {R : Type 0} → Relays R → ConnectionState → OpenModel → List (Entry R) → EngineView R → Type 0
LeadsTo g state o H w = (hash : KeyHash) × Chain g (new_engine hash state o) H w

taken : {R : Type 0} (v w : EngineView R) → whole.OutputTaken v w → OutputTaken v w
taken v w t = record { gone = t.gone; left = t.left; connection_is = t.connection_is; sessions_is = t.sessions_is; forgotten_is = t.forgotten_is; limit_is = t.limit_is }

-- what an entry leaves to be kept, and then what leaves
later : {R : Type 0} (e : Entry R) (m n w : EngineView R) → Keeps e m n → OutputTaken n w → OutputTaken m w
later e m n w k t = record {
  gone = t.gone;
  left = sym (ap (λ (x : EngineView _). x.waiting) k) ∙ t.left;
  connection_is = t.connection_is ∙ ap (λ (x : EngineView _). x.connection) k;
  sessions_is = t.sessions_is ∙ ap (λ (x : EngineView _). x.sessions) k;
  forgotten_is = t.forgotten_is ∙ ap (λ (x : EngineView _). x.forgotten) k;
  limit_is = t.limit_is ∙ ap (λ (x : EngineView _). x.limit) k;
}

chain_later : {R : Type 0} (g : Relays R) (e : Entry R) (m n w : EngineView R) (es : List (Entry R)) → Keeps e m n → Chain g n es w → Chain g m es w
chain_later g e m n w [] k c = later e m n w k c
chain_later g e m n w (x ∷ es) k c = (c.0, c.1, later e m n c.0 k c.2, c.3, c.4)

pub apart : {R : Type 0} (g : Relays R) (es : List (Entry R)) (v w : EngineView R) → whole.Chain g v es w → Chain g v es w
apart g [] v w c = taken v w c
apart g (e ∷ es) v w c = (c.0, c.1, taken v c.0 c.3, c.4, chain_later g e c.1 c.2 w es c.5 (apart g es c.2 w c.6))
