-- A body that was read goes along its channel's route, and what its session hands out waits where the engine keeps it.
use Rattle.std.proofs.Common.{◌≡◌, ◌∙◌, ℕ, List, [], Option, Some, None, ap, sym, refl, nat_eq}
use Rattle.std.specs.FinMap.{get}
use Rattle.std.specs.Map.{lookup, set_value}
use Rattle.amqp_frames.specs.declared.frame.Frame.{Frame}
use Rattle.amqp_frames.specs.declared.frame.FrameBody.{FrameBody}
use Rattle.amqp_session.specs.Relay.{Relays}
use Rattle.amqp_session.specs.Session.{SessionModel}
use Rattle.amqp_session.specs.History as session
use Rattle.amqp_engine.specs.declared.engine.step_error.StepError.{StepError}
use Rattle.amqp_engine.specs.declared.engine.step_error.StepError.TheVariants.{NoSession, Connection}
use Rattle.amqp_connection.specs.Connection.{ConnectionView, RouteStep, not_found}
use Rattle.amqp_numbers.specs.Ranges.{Numbers}
use Rattle.amqp_engine.specs.Kept.{Outcomes, Wishes}
use Rattle.amqp_engine.specs.EngineView.{EngineView, views_of}
use Rattle.amqp_engine.specs.Calls.{Calls}
use Rattle.amqp_engine.specs.Sessions.{Answered, Reaches}
use Rattle.amqp_engine.specs.Engine.{ReceivedFrame}
use Rattle.amqp_engine.specs.Inner.Taken.{BodyStep}
use Rattle.amqp_engine.proofs.SameEngineLemmas.{parts}
use Rattle.amqp_engine.proofs.AskedSessionLemmas.{reaches, reaches_unknown, reaches_none}

module _ {R : Type 0} (g : Relays R) (asks : Calls R) (v : EngineView R) (c : ℕ) (b : FrameBody)
    (carry : (refusal : Option StepError) (w : EngineView R) (reached : Option ℕ) (calls : List (session.SessionCall R)) → Reaches g (RouteStep v.connection c) v asks reached calls refusal w
    → ReceivedFrame g v c b reached calls refusal w) where
  -- what an engine finds that is the same
  route : (u : EngineView R) (n : Option ℕ) → u ≡ v → get u.connection.session_by_incoming_channel c ≡ n → get v.connection.session_by_incoming_channel c ≡ n
  route u n same found = sym (ap (λ (x : EngineView R). get x.connection.session_by_incoming_channel c) same) ∙ found

  there : (u : EngineView R) → u ≡ v → u.connection ≡ v.connection
  there u same = ap (λ (x : EngineView R). x.connection) same

  -- the channel has no route
  pub unrouted : (u : EngineView R) → u ≡ v → get u.connection.session_by_incoming_channel c ≡ None → BodyStep g v c b (Some (Connection not_found)) v
  unrouted u same none =
      (None, [], carry _ _ _ _ (reaches_none g (RouteStep v.connection c) asks v v v.connection not_found _ refl (route u None same none, refl, refl) refl))

  -- the session that it leads to is not there
  pub unknown : {gone : Numbers} {o : Outcomes} {q : Wishes} (j : ConnectionView) (es es' : List (ℕ × SessionModel R)) (limit n : ℕ) (fs : List Frame) → parts gone o q j es limit fs ≡ v
      → get j.session_by_incoming_channel c ≡ Some n → lookup (nat_eq n) (views_of es) ≡ None → es' ≡ es → BodyStep g v c b (Some NoSession) (parts gone o q j es' limit fs)
  unknown {gone = gone} {o = o} {q = q} j es es' limit n fs same found none stays =
      let u = parts gone o q j es limit fs in
      (Some n, [], carry _ _ _ _ (reaches_unknown g (RouteStep v.connection c) asks v j j es es' limit n fs same (route u (Some n) same found, there u same) none stays))

  -- that session took it
  pub handed : {gone : Numbers} {o : Outcomes} {q : Wishes} (j : ConnectionView) (es es' : List (ℕ × SessionModel R)) (limit n : ℕ) (fs waiting frames : List Frame)
      (before after : SessionModel R) (refusal : Option StepError) → parts gone o q j es limit fs ≡ v → get j.session_by_incoming_channel c ≡ Some n
      → lookup (nat_eq n) (views_of es) ≡ Some before.view → Answered g before.view asks refusal frames after.view → waiting ≡ frames → es' ≡ set_value (nat_eq n) es after
      → BodyStep g v c b refusal (parts gone o q j es' limit waiting)
  handed {gone = gone} {o = o} {q = q} j es es' limit n fs waiting frames before after refusal same found known a out set =
      let u = parts gone o q j es limit fs in
      (Some n, a.calls, carry _ _ _ _ (reaches g (RouteStep v.connection c) asks v j j es es' limit n fs waiting frames before after refusal same (route u (Some n) same found, there u same) known a out set))
