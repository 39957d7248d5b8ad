-- A step leaves what is kept for handles.
use Rattle.std.proofs.Common.{◌≡◌, ◌⊎◌, ℕ, List, Option, Some, None, Result, ap, inl, inr}
use Rattle.amqp_types.specs.Error.{ErrorModel}
use Rattle.amqp_types.specs.Open.{OpenModel}
use Rattle.amqp_session.specs.Settings.{SettingsModel}
use Rattle.amqp_session.specs.declared.error.SessionStateError.TheVariants as unbegun
use Rattle.amqp_session.specs.Relay.{Relays}
use Rattle.amqp_session.specs.History as session
use Rattle.amqp_frames.specs.declared.frame.Frame.{Frame}
use Rattle.amqp_frames.specs.declared.frame.FrameBody.{FrameBody}
use Rattle.amqp_frames.specs.declared.frame.FrameBody.TheVariants as body
use Rattle.amqp_connection.specs.declared.error.ConnectionInnerError.{ConnectionInnerError}
use Rattle.amqp_engine.specs.declared.engine.input.Input.{Input}
use Rattle.amqp_engine.specs.declared.engine.input.Input.TheVariants as input
use Rattle.amqp_engine.specs.declared.engine.step_error.StepError.{StepError}
use Rattle.amqp_engine.specs.declared.engine.step_error.StepError.TheVariants as no
use Rattle.amqp_connection.specs.Connection.{ConnectionView}
use Rattle.amqp_engine.specs.EngineView.{EngineView}
use Rattle.amqp_engine.specs.Calls.{Calls}
use Rattle.amqp_engine.specs.Sessions.{Called, Unknown, Does, Reaches, BeginRequest, ReleaseRequest, ForgetRequest}
use Rattle.amqp_engine.specs.Engine.{Step, InputStep, ReceivedFrame, ReceivedOpen, OpenRequest, CloseRequest, Finds}
use Rattle.amqp_engine.specs.Entry.{Entry}

abbrev Same : {R : Type 0} → EngineView R → EngineView R → Type 0
Same v w = (w.outcomes ≡ v.outcomes) × (w.wishes ≡ v.wishes)

as_put : {R : Type 0} (v w : EngineView R) → w ≡ v → Same v w
as_put v w e = (ap (λ (x : EngineView _). x.outcomes) e, ap (λ (x : EngineView _). x.wishes) e)

opens : {R : Type 0} (v w : EngineView R) (r : Option StepError) → OpenRequest v r w → Same v w
opens v w None s = as_put _ w s.3
opens v w (Some (no.ConnectionState e)) s = as_put _ w s.2
opens v w (Some e) s = absurd s

closes : {R : Type 0} (v w : EngineView R) (error : Option ErrorModel) (r : Option StepError) → CloseRequest v error r w → Same v w
closes v w error None s = as_put _ w s.3
closes v w error (Some (no.ConnectionState e)) s = as_put _ w s.2
closes v w error (Some e) s = absurd s

begins : {R : Type 0} (g : Relays R) (v w : EngineView R) (n : ℕ) (settings : SettingsModel) (reached : Option ℕ) (calls : List (session.SessionCall R)) (r : Option StepError) → BeginRequest g v n settings reached calls r w → Same v w
begins g v w n settings reached calls None s = as_put _ w s.1.put
begins g v w n settings reached calls (Some no.SessionInUse) s = as_put _ w s.0.1
begins g v w n settings reached calls (Some (no.AllocSession e)) s = as_put _ w s.0.1
begins g v w n settings reached calls (Some (no.SessionState unbegun.OutOfMemory)) s = as_put _ w s.0.1
begins g v w n settings reached calls (Some no.OutOfMemory) s = as_put _ w s.0.1
begins g v w n settings reached calls (Some e) s = absurd s

releases : {R : Type 0} (v w : EngineView R) (n : ℕ) (reached : Option ℕ) (calls : List (session.SessionCall R)) (r : Option StepError) → ReleaseRequest v n reached calls r w → Same v w
releases v w n reached calls None s = as_put _ w s.1.3
releases v w n reached calls (Some no.NoSession) s = as_put _ w s.0.1
releases v w n reached calls (Some (no.Connection e)) s = as_put _ w s.0.1
releases v w n reached calls (Some e) s = absurd s

forgets : {R : Type 0} (v w : EngineView R) (n : ℕ) (reached : Option ℕ) (calls : List (session.SessionCall R)) (r : Option StepError) → ForgetRequest v n reached calls r w → Same v w
forgets v w n reached calls None s = as_put _ w s.2.put
forgets v w n reached calls (Some no.OutOfMemory) s = as_put _ w s.0.1
forgets v w n reached calls (Some e) s = as_put _ w s.0.1

does : {R : Type 0} (g : Relays R) (v w : EngineView R) (n : ℕ) (asks : Calls R) (reached : Option ℕ) (calls : List (session.SessionCall R)) (r : Option StepError) → Does g v n asks reached calls r w → Same v w
does g v w n asks reached calls r (inl s) = as_put _ w s.1.put
does g v w n asks reached calls r (inr s) = as_put _ w s.1.same

reaches : {R : Type 0} (g : Relays R) (finds : Result ℕ ConnectionInnerError → ConnectionView → Type 0) (v w : EngineView R) (asks : Calls R) (reached : Option ℕ) (calls : List (session.SessionCall R)) (r : Option StepError) →
    Reaches g finds v asks reached calls r w → Same v w
reaches g finds v w asks reached calls r (inl s) = as_put _ w s.6
reaches g finds v w asks reached calls r (inr s) = by s.4
  where
    by : Called g (record v { connection = s.1 }) s.0 asks calls r w ⊎ Unknown (record v { connection = s.1 }) s.0 calls r w → Same v w
    by (inl c) = as_put _ w c.put
    by (inr u) = as_put _ w u.same

takes_open : {R : Type 0} (v w : EngineView R) (o : OpenModel) (r : Option StepError) → ReceivedOpen v o r w → Same v w
takes_open v w o None s = as_put _ w s.2
takes_open v w o (Some (no.ConnectionState e)) s = as_put _ w s.2
takes_open v w o (Some e) s = absurd s

frame : {R : Type 0} (g : Relays R) (v w : EngineView R) (c : ℕ) (b : FrameBody) (reached : Option ℕ) (calls : List (session.SessionCall R)) (r : Option StepError) → ReceivedFrame g v c b reached calls r w → Same v w
frame g v w c body.Empty reached calls r s = as_put _ w s.0.1
frame g v w c (body.Open o) reached calls r s = takes_open v w o r s.1
frame g v w c (body.Close p) reached calls r s = as_put _ w s.1.4
frame g v w c (body.Begin p) reached calls r s = reaches g (Finds v.connection c (body.Begin p)) v w _ reached calls r s
frame g v w c (body.End p) reached calls r s = reaches g (Finds v.connection c (body.End p)) v w _ reached calls r s
frame g v w c (body.Attach p) reached calls r s = reaches g (Finds v.connection c (body.Attach p)) v w _ reached calls r s
frame g v w c (body.Detach p) reached calls r s = reaches g (Finds v.connection c (body.Detach p)) v w _ reached calls r s
frame g v w c (body.Disposition p) reached calls r s = reaches g (Finds v.connection c (body.Disposition p)) v w _ reached calls r s
frame g v w c (body.Flow p) reached calls r s = reaches g (Finds v.connection c (body.Flow p)) v w _ reached calls r s
frame g v w c (body.Transfer p payload) reached calls r s = reaches g (Finds v.connection c (body.Transfer p payload)) v w _ reached calls r s

carries : {R : Type 0} (g : Relays R) (v w : EngineView R) (i : Input R) (received : Option Frame) (reached : Option ℕ) (calls : List (session.SessionCall R)) (r : Option StepError) → InputStep g v i received reached calls r w → Same v w
carries g v w (input.Received bytes) received reached calls r (inl s) = as_put _ w s.2.1
carries g v w (input.Received bytes) received reached calls r (inr s) = frame g v w s.0.channel s.0.body reached calls r s.4
carries g v w input.Open received reached calls r s = opens v w r s.2
carries g v w (input.Close error) received reached calls r s = closes v w error r s.2
carries g v w (input.Begin n settings) received reached calls r s = begins g v w n.0 settings reached calls r s.1
carries g v w (input.Release n) received reached calls r s = releases v w n.0 reached calls r s.1
carries g v w (input.Forget n) received reached calls r s = forgets v w n.0 reached calls r s.1
carries g v w (input.End n error) received reached calls r s = does g v w n.0 _ reached calls r s.1
carries g v w (input.AllocateLink n name relay) received reached calls r s = does g v w n.0 _ reached calls r s.1
carries g v w (input.AllocateIncomingLink n name relay h) received reached calls r s = does g v w n.0 _ reached calls r s.1
carries g v w (input.Attach n a) received reached calls r s = does g v w n.0 _ reached calls r s.1
carries g v w (input.Detach n d echo) received reached calls r s = does g v w n.0 _ reached calls r s.1
carries g v w (input.Flow n l) received reached calls r s = does g v w n.0 _ reached calls r s.1
carries g v w (input.Transfer n h t payload first) received reached calls r s = does g v w n.0 _ reached calls r s.1
carries g v w (input.Disposition n d) received reached calls r s = does g v w n.0 _ reached calls r s.1
carries g v w (input.Settle n role first last) received reached calls r s = does g v w n.0 _ reached calls r s.1
carries g v w (input.Stop n reason) received reached calls r s = does g v w n.0 _ reached calls r s.1

same : {R : Type 0} (g : Relays R) (v w : EngineView R) (e : Entry R) → Step g v e w → Same v w
same g v w e (inl s) = as_put _ w s.3.1
same g v w e (inr s) = carries g v w e.input e.received e.reached e.calls e.refusal s.2

pub step_outcomes : {R : Type 0} (g : Relays R) (v w : EngineView R) (e : Entry R) → Step g v e w → w.outcomes ≡ v.outcomes
step_outcomes g v w e s = (same g v w e s).0

pub step_wishes : {R : Type 0} (g : Relays R) (v w : EngineView R) (e : Entry R) → Step g v e w → w.wishes ≡ v.wishes
step_wishes g v w e s = (same g v w e s).1

pub frame_wishes : {R : Type 0} (g : Relays R) (v w : EngineView R) (c : ℕ) (b : FrameBody) (reached : Option ℕ) (calls : List (session.SessionCall R)) (r : Option StepError) → ReceivedFrame g v c b reached calls r w → w.wishes ≡ v.wishes
frame_wishes g v w c b reached calls r s = (frame g v w c b reached calls r s).1
