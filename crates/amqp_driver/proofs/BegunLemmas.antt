-- The steps of an engine that begin a session: its own Begin, and the peer's as the answer to it.
use Rattle.std.proofs.Common.{◌≡◌, inl, inr, ℕ, List, [], ◌∷◌, ◌++◌, true, nat_eq, cond, Option, Some, None, Result, Ok, Err, refl, ap, sym, subst, ◌∙◌, arith}
use Rattle.std.proofs.lemmas.Bool.Decides.{nat_tests}
use Rattle.std.specs.Map.{lookup}
use Rattle.std.specs.FinMap as map
use Rattle.amqp_types.specs.declared.states.ConnectionState.TheVariants.{Opened}
use Rattle.amqp_types.specs.declared.states.SessionState.{SessionState}
use Rattle.amqp_types.specs.declared.states.SessionState.TheVariants.{BeginSent, Mapped, Unmapped}
use Rattle.amqp_types.specs.Begin.{BeginModel}
use Rattle.amqp_session.specs.Relay.{Relays}
use Rattle.amqp_session.specs.History as session
use Rattle.amqp_session.specs.OutgoingFrames.{calls_frames}
use Rattle.amqp_session.specs.Session.{SessionView, new_session}
use Rattle.amqp_session.specs.Settings.{SettingsModel}
use Rattle.amqp_session.specs.States.{sends_begin, takes_begin}
use Rattle.amqp_session.specs.Step.{SendBeginStep, TakeBeginStep}
use Rattle.amqp_session.specs.declared.error.SessionStateError.{SessionStateError}
use Rattle.amqp_session.specs.declared.error.SessionStateError.TheVariants as unbegun
use Rattle.amqp_session.specs.declared.frame.SessionFrame.{SessionFrame}
use Rattle.amqp_connection.specs.Connection.{BeginRouteStep, ConnectionView}
use Rattle.amqp_connection.specs.declared.error.ConnectionInnerError.{ConnectionInnerError}
use Rattle.amqp_connection.specs.declared.error.ConnectionInnerError.TheVariants as routes
use Rattle.amqp_connection.specs.declared.numbers.SessionNo.{SessionNo}
use Rattle.amqp_frames.specs.declared.frame.FrameBody.TheVariants as body
use Rattle.amqp_engine.specs.declared.engine.input.Input.TheVariants as input
use Rattle.amqp_engine.specs.declared.engine.step_error.StepError.{StepError}
use Rattle.amqp_engine.specs.declared.engine.step_error.StepError.TheVariants as no
use Rattle.amqp_engine.specs.Calls.{state_refusal}
use Rattle.amqp_engine.specs.Engine.{ReceivedFrame, Step, Steps}
use Rattle.amqp_engine.specs.EngineView.{EngineView}
use Rattle.amqp_engine.specs.RunFrame.{OfRelay}
use Rattle.amqp_engine.specs.Sessions.{Begun, Called}
use Rattle.amqp_engine.specs.Stepped.{Stepped}
use Rattle.amqp_engine.specs.Waits.{frame_of, sent}
use Rattle.amqp_engine.proofs.BegunSessionLemmas.{held_now, some_none}
use Rattle.amqp_engine.proofs.SessionProjectionLemmas.{at_end, put_there, same_some}
use Rattle.amqp_driver.specs.Answering.{IsMapped, own_begin}
use Rattle.amqp_driver.specs.Turn.{begin_frame}

-- ---- the engine's own Begin

-- What the step of a Begin leaves: its frame waits, on a channel that the session holds, and the session has sent it.
pub record HasBegun {R : Type 0} (v : EngineView R) (n : ℕ) (settings : SettingsModel) (w : EngineView R) : Type 0 where
  pub channel : ℕ
  pub waits : w.waiting ≡ begin_frame channel (own_begin settings) ∷ []
  pub state_stays : w.connection.state ≡ v.connection.state
  pub routes_stay : w.connection.session_by_incoming_channel ≡ v.connection.session_by_incoming_channel
  pub held : map.get w.connection.session_by_outgoing_channel channel ≡ Some n
  pub session : SessionView R
  pub there : lookup (nat_eq n) w.sessions ≡ Some session
  pub begun : session.state ≡ BeginSent
  pub channel_is : session.outgoing_channel ≡ channel

put_at_end : {X : Type 0} (es : List (ℕ × X)) (n : ℕ) (x : X) → lookup (nat_eq n) es ≡ None → lookup (nat_eq n) (es ++ (n, x) ∷ []) ≡ Some x
put_at_end es n x none =
    let here : nat_eq n n ≡ true = grind (arith, nat_tests) in
    at_end es n n x none ∙ ap (λ b. cond b (Some x) None) here

state_is : (s : SessionState) → sends_begin Unmapped ≡ Some s → s ≡ BeginSent
state_is s e = let k : Some BeginSent ≡ Some s = e in cc

by_begun : {R : Type 0} (g : Relays R) (v w : EngineView R) (n : ℕ) (settings : SettingsModel) (calls : List (session.SessionCall R))
    → Begun g v n settings calls w → HasBegun v n settings w
by_begun g v w n settings calls b =
    let f : SessionFrame = b.asked.0 in
    let new : SessionView _ = new_session v.connection.hash settings b.channel Unmapped v.connection.stop_reason in
    let chain : session.SessionChain g new (session.SendsBegin (Ok f) ∷ []) b.after =
    subst (λ (cs : List (session.SessionCall _)). session.SessionChain g new cs b.after) b.asked.1 b.steps in
    let one : SendBeginStep new (Ok f) chain.0 = chain.1 in
    let after : b.after ≡ record new { state = chain.0.state } = chain.2 ∙ one.2 in
    record {
      channel = b.channel;
      waits = ap (λ (x : EngineView _). x.waiting) b.put ∙ ap (λ (cs : List (session.SessionCall _)). sent (calls_frames cs)) b.asked.1
          ∙ ap (λ (x : SessionFrame). frame_of x ∷ []) one.1;
      state_stays = ap (λ (x : EngineView _). x.connection.state) b.put ∙ ap (λ (x : ConnectionView). x.state) b.allocated.3;
      routes_stay = ap (λ (x : EngineView _). x.connection.session_by_incoming_channel) b.put
          ∙ ap (λ (x : ConnectionView). x.session_by_incoming_channel) b.allocated.3;
      held = ap (λ (x : EngineView _). map.get x.connection.session_by_outgoing_channel b.channel) b.put
          ∙ ap (λ (x : ConnectionView). map.get x.session_by_outgoing_channel b.channel) b.allocated.3
          ∙ held_now v.connection.session_by_outgoing_channel b.channel n;
      session = b.after;
      there = ap (λ (x : EngineView _). lookup (nat_eq n) x.sessions) b.put ∙ put_at_end v.sessions n b.after b.unknown;
      begun = ap (λ (x : SessionView _). x.state) after ∙ state_is chain.0.state one.0;
      channel_is = ap (λ (x : SessionView _). x.outgoing_channel) after;
    }

by_steps : {R : Type 0} (g : Relays R) (v w : EngineView R) (n : SessionNo) (settings : SettingsModel) → Steps g v (input.Begin n settings) None w
    → HasBegun v n.0 settings w
by_steps g v w n settings s = by_step s.step
  where
    by_step : Step g v (record { input = input.Begin n settings; received = s.received; reached = s.reached; calls = s.calls; refusal = None; frames = s.frames }) s.done
        → HasBegun v n.0 settings w
    by_step (inl x) = let e : None ≡ Some no.OutputWaiting = x.1 in absurd cc
    by_step (inr x) =
        let h : HasBegun v n.0 settings s.done = by_begun g v s.done n.0 settings s.calls x.2.1.1 in
        let k = s.keeps in
        record {
          channel = h.channel;
          waits = ap (λ (y : EngineView _). y.waiting) k ∙ h.waits;
          state_stays = ap (λ (y : EngineView _). y.connection.state) k ∙ h.state_stays;
          routes_stay = ap (λ (y : EngineView _). y.connection.session_by_incoming_channel) k ∙ h.routes_stay;
          held = ap (λ (y : EngineView _). map.get y.connection.session_by_outgoing_channel h.channel) k ∙ h.held;
          session = h.session;
          there = ap (λ (y : EngineView _). lookup (nat_eq n.0) y.sessions) k ∙ h.there;
          begun = h.begun;
          channel_is = h.channel_is;
        }

pub has_begun : {R : Type 0} (g : Relays R) (v w : EngineView R) (n : SessionNo) (settings : SettingsModel) → Stepped g v (input.Begin n settings) None w
    → HasBegun v n.0 settings w
has_begun g v w n settings s = by_steps g v w n settings s.step

-- ---- the peer's Begin, as the answer to it

same_number : (n k : ℕ) (o : Option ℕ) → o ≡ Some n → o ≡ Some k → n ≡ k
same_number n k o p q = cc

-- the session takes it, and is mapped then
maps : {R : Type 0} (s after : SessionView R) (c : ℕ) (b : BeginModel) (a : Result (Unit {0}) SessionStateError) → s.state ≡ BeginSent
    → TakeBeginStep s c b a after → (state_refusal a ≡ None) × (after.state ≡ Mapped)
maps s after c b (Ok u) is t =
    let k : Some after.state ≡ Some Mapped = sym t.0 ∙ ap takes_begin is in (refl, let e : after.state ≡ Mapped = cc in e)
maps s after c b (Err unbegun.IllegalState) is t = let k : Some Mapped ≡ None = sym (ap takes_begin is) ∙ t.0 in absurd (some_none k)
maps s after c b (Err e) is t = absurd t

-- the connection finds the session
finds : (v w : ConnectionView) (c channel n : ℕ) (e : ConnectionInnerError) → v.state ≡ Opened → map.get v.session_by_outgoing_channel channel ≡ Some n
    → ¬ (e ≡ routes.OutOfMemory) → BeginRouteStep v c (Some channel) (Err e) w → ⊥
finds v w c channel n routes.IllegalState opened held m s = s.0 opened
finds v w c channel n (routes.NotImplemented text) opened held m s = some_none s.1
finds v w c channel n (routes.NotFound text) opened held m s =
    let same : channel ≡ s.1.0 = let k : Some channel ≡ Some s.1.0 = s.1.1 in cc in
    some_none (sym held ∙ ap (λ k. map.get v.session_by_outgoing_channel k) same ∙ s.1.2)
finds v w c channel n routes.OutOfMemory opened held m s = m refl
finds v w c channel n e opened held m s = s

found_is : (v w : ConnectionView) (c channel n k : ℕ) → map.get v.session_by_outgoing_channel channel ≡ Some n → BeginRouteStep v c (Some channel) (Ok k) w → k ≡ n
found_is v w c channel n k held s =
    let same : channel ≡ s.1.0 = let e : Some channel ≡ Some s.1.0 = s.1.1 in cc in
    same_number k n (map.get v.session_by_outgoing_channel channel) (ap (λ x. map.get v.session_by_outgoing_channel x) same ∙ s.1.2) held

called : {R : Type 0} (g : Relays R) (u m : EngineView R) (c : ℕ) (b : BeginModel) (n : ℕ) (s : SessionView R) (calls : List (session.SessionCall R))
    (refusal : Option StepError) → lookup (nat_eq n) u.sessions ≡ Some s → s.state ≡ BeginSent
    → Called g u n (λ state cs r. (a : Result (Unit {0}) SessionStateError) × (cs ≡ session.TakesBegin c b a ∷ []) × (r ≡ state_refusal a)) calls refusal m
    → (refusal ≡ None) × IsMapped m n
called g u m c b n s calls refusal there begun x =
    let chain : session.SessionChain g x.before (session.TakesBegin c b x.asked.0 ∷ []) x.after =
    subst (λ (cs : List (session.SessionCall _)). session.SessionChain g x.before cs x.after) x.asked.1 x.steps in
    let same : x.before ≡ s = same_some x.before s (lookup (nat_eq n) u.sessions) x.known there in
    let one = maps x.before chain.0 c b x.asked.0 (ap (λ (y : SessionView _). y.state) same ∙ begun) chain.1 in
    let put : lookup (nat_eq n) m.sessions ≡ Some x.after =
    ap (λ (y : EngineView _). lookup (nat_eq n) y.sessions) x.put ∙ put_there u.sessions n x.before x.after x.known in
    (x.asked.2 ∙ one.0, (x.after, put, ap (λ (y : SessionView _). y.state) chain.2 ∙ one.1))

pub takes_begin_in : {R : Type 0} (g : Relays R) (u m : EngineView R) (c : ℕ) (b : BeginModel) (channel n : ℕ) (s : SessionView R) (reached : Option ℕ)
    (calls : List (session.SessionCall R)) (refusal : Option StepError) → ReceivedFrame g u c (body.Begin b) reached calls refusal m
    → b.remote_channel ≡ Some channel → u.connection.state ≡ Opened → map.get u.connection.session_by_outgoing_channel channel ≡ Some n
    → lookup (nat_eq n) u.sessions ≡ Some s → s.state ≡ BeginSent → OfRelay g (body.Begin b) refusal → (refusal ≡ None) × IsMapped m n
takes_begin_in g u m c b channel n s reached calls refusal (inl (e, k, found, r, cs, refused, put)) remote opened held there begun memory =
    let route : BeginRouteStep u.connection c (Some channel) (Err e) k = subst (λ (o : Option ℕ). BeginRouteStep u.connection c o (Err e) k) remote found in
    let known : ¬ (e ≡ routes.OutOfMemory) = subst (λ (r : Option StepError). OfRelay g (body.Begin b) r) refused memory in
    absurd (finds u.connection k c channel n e opened held known route)
takes_begin_in g u m c b channel n s reached calls refusal (inr (j, k, found, r, inl x)) remote opened held there begun memory =
    let route : BeginRouteStep u.connection c (Some channel) (Ok j) k = subst (λ (o : Option ℕ). BeginRouteStep u.connection c o (Ok j) k) remote found in
    let same : j ≡ n = found_is u.connection k c channel n j held route in
    let y = called g (record u { connection = k }) m c b j s calls refusal (ap (λ i. lookup (nat_eq i) u.sessions) same ∙ there) begun x in
    (y.0, subst (λ i. IsMapped m i) same y.1)
takes_begin_in g u m c b channel n s reached calls refusal (inr (j, k, found, r, inr x)) remote opened held there begun memory =
    let route : BeginRouteStep u.connection c (Some channel) (Ok j) k = subst (λ (o : Option ℕ). BeginRouteStep u.connection c o (Ok j) k) remote found in
    let same : j ≡ n = found_is u.connection k c channel n j held route in
    absurd (some_none (sym there ∙ sym (ap (λ i. lookup (nat_eq i) u.sessions) same) ∙ x.unknown))
