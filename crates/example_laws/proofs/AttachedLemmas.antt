-- An Attach that is done was sent, by the steps of a run.
use Rattle.std.proofs.Common.{◌≡◌, ℕ, List, [], ◌∷◌, Some, None, refl, ap, sym, ◌∙◌, subst, inl, inr}
use Rattle.fe2o3_amqp.specs.amqp_types.Attach.{AttachModel}
use Rattle.fe2o3_amqp.specs.amqp_session.declared.frame.SessionFrame.{SessionFrame}
use Rattle.fe2o3_amqp.specs.amqp_session.History.{SendsAttach, SessionCall, SessionChain}
use Rattle.fe2o3_amqp.specs.amqp_session.OutgoingFrames.{calls_frames}
use Rattle.fe2o3_amqp.specs.amqp_session.Relay.{Relays}
use Rattle.fe2o3_amqp.specs.amqp_frames.declared.frame.Frame.{Frame}
use Rattle.fe2o3_amqp.specs.amqp_frames.declared.frame.FrameBody.TheVariants as body
use Rattle.fe2o3_amqp.specs.amqp_connection.declared.numbers.SessionNo.{SessionNo}
use Rattle.fe2o3_amqp.specs.amqp_engine.Calls.{request_calls}
use Rattle.fe2o3_amqp.specs.amqp_engine.declared.engine.input.Input.TheVariants.{Attach}
use Rattle.fe2o3_amqp.specs.amqp_engine.Engine.{InputStep, Step}
use Rattle.fe2o3_amqp.specs.amqp_engine.EngineView.{EngineView}
use Rattle.fe2o3_amqp.specs.amqp_engine.Entry.{Entry}
use Rattle.fe2o3_amqp.specs.amqp_engine.History.{Chain}
use Rattle.fe2o3_amqp.specs.amqp_engine.Sessions.{Called, Does}
use Rattle.fe2o3_amqp.specs.amqp_engine.Waits.{body_of, frame_of, sent}
use Rattle.example_laws.specs.Attached.{AttachGoesOut, AttachesGoOut}

some_none : {X : Type 0} {x : X} → Some x ≡ None → ⊥
some_none e = cc

called : {R : Type 0} (g : Relays R) (u m : EngineView R) (n : SessionNo) (e : Entry R) (a : AttachModel) → e.frames ≡ m.waiting
    → Called g u n.0 (request_calls (Attach n a)) e.calls e.refusal m → (f : SessionFrame) → e.calls ≡ SendsAttach a f ∷ []
    → (f : Frame) × (e.frames ≡ f ∷ []) × (f.body ≡ body.Attach a)
called g u m n e a frames c f calls =
    let chain = subst (λ (cs : List (SessionCall _)). SessionChain g c.before cs c.after) calls c.steps in
    (frame_of f, frames ∙ ap (λ x. x.waiting) c.put ∙ ap (λ (cs : List (SessionCall _)). sent (calls_frames cs)) calls, ap (λ (x : SessionFrame). body_of x.body) chain.1.0)

goes_out : {R : Type 0} (g : Relays R) (u m : EngineView R) (e : Entry R) → Step g u e m → AttachGoesOut e
goes_out g u m e (inl s) n a asks done = absurd (some_none (sym s.1 ∙ done))
goes_out g u m e (inr s) n a asks done = by (subst (λ i. InputStep g u i e.received e.reached e.calls e.refusal m) asks s.2).1
  where
    by : Does g u n.0 (request_calls (Attach n a)) e.reached e.calls e.refusal m → (f : Frame) × (e.frames ≡ f ∷ []) × (f.body ≡ body.Attach a)
    by (inl p) = called g u m n e a s.1 p.1 p.1.asked.0 p.1.asked.1
    by (inr p) = absurd (some_none (sym p.1.refused ∙ done))

pub all_go_out : {R : Type 0} (g : Relays R) (v : EngineView R) (es : List (Entry R)) (w : EngineView R) → Chain g v es w → AttachesGoOut es
all_go_out g v [] w c = tt
all_go_out g v (e ∷ es) w c = (goes_out g c.0 c.1 e c.4, all_go_out g c.2 es w c.6)
