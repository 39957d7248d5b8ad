-- What each request of the connection does, where it is carried out: an Open, a Close, a Begin, a Release and a Forget.
use Rattle.std.proofs.Common.{◌≡◌, ℕ, List, [], ◌∷◌, Option, Some, None, IsSome, Ok, Err, refl, ap, sym, subst, ◌∙◌, inl, inr, true}
use Rattle.amqp_types.specs.declared.states.SessionState.TheVariants.{Unmapped}
use Rattle.amqp_types.specs.Error.{ErrorModel}
use Rattle.amqp_types.specs.Open.{OpenModel}
use Rattle.amqp_session.specs.declared.stop.ConnectionStopReason.{ConnectionStopReason}
use Rattle.amqp_session.specs.declared.frame.SessionFrame.{SessionFrame}
use Rattle.amqp_session.specs.declared.error.SessionStateError.TheVariants as unbegun
use Rattle.amqp_session.specs.Settings.{SettingsModel}
use Rattle.amqp_session.specs.Relay.{Relays}
use Rattle.amqp_session.specs.declared.keys.KeyHash.{KeyHash}
use Rattle.amqp_session.specs.Session.{SessionView, new_session}
use Rattle.amqp_session.specs.OutgoingFrames.{calls_frames}
use Rattle.amqp_session.specs.History as session
use Rattle.amqp_frames.specs.declared.frame.Frame.{Frame}
use Rattle.amqp_connection.specs.declared.error.ConnectionStateError.{ConnectionStateError}
use Rattle.amqp_connection.specs.declared.error.ConnectionStateError.TheVariants as state
use Rattle.amqp_connection.specs.declared.numbers.SessionNo.{SessionNo}
use Rattle.amqp_engine.specs.declared.engine.input.Input.{Input}
use Rattle.amqp_engine.specs.declared.engine.input.Input.TheVariants as input
use Rattle.amqp_engine.specs.declared.engine.step_error.StepError.{StepError}
use Rattle.amqp_engine.specs.declared.engine.step_error.StepError.TheVariants as no
use Rattle.amqp_connection.specs.Connection.{ConnectionView, Holds, SendOpenStep, SendCloseStep, IncomingOpenStep, AllocateStep, open_frame, close_frame, given_back, stopped}
use Rattle.amqp_connection.specs.History as connection
use Rattle.amqp_engine.specs.EngineView.{EngineView}
use Rattle.amqp_engine.specs.Waits.{sent}
use Rattle.amqp_engine.specs.Sessions.{Untouched, Begun, BeginRequest, ReleaseRequest, ForgetRequest}
use Rattle.amqp_engine.specs.Engine.{OpenRequest, CloseRequest}
use Rattle.amqp_engine.specs.Entry.{Entry}
use Rattle.amqp_engine.specs.ByHistory.{close_reason}
use Rattle.amqp_engine.specs.Event.{Quiet, SentOpen, SentClose, Began, Released, channel_of}
use Rattle.amqp_engine.proofs.BegunSessionLemmas.{some_none}
use Rattle.amqp_engine.proofs.StepEffectLemmas.{Moved, Deed, alone, same_engine, one_moved, at_connection, refuses}

-- an entry of these
abbrev pub of : {R : Type 0} → Input R → Option Frame → Option ℕ → List (session.SessionCall R) → Option StepError → List Frame → Entry R
of i received reached calls refusal frames = record { input = i; received = received; reached = reached; calls = calls; refusal = refusal; frames = frames }

none_waiting : ¬ (None ≡ Some no.OutputWaiting)
none_waiting x = cc

-- ---- requests of the connection

refused_open : (v k : ConnectionView) (e : ConnectionStateError) → SendOpenStep v (Err e) k → k ≡ v
refused_open v k state.IllegalState s = s.1
refused_open v k state.OutOfMemory s = s.1
refused_open v k e s = absurd s

refused_close : (v k : ConnectionView) (error : Option ErrorModel) (e : ConnectionStateError) → SendCloseStep v error (Err e) k → k ≡ v
refused_close v k error state.IllegalState s = s.1
refused_close v k error e s = absurd s

pub refused_peer : (v k : ConnectionView) (o : OpenModel) (e : ConnectionStateError) → IncomingOpenStep v o (Some e) k → k ≡ v
refused_peer v k o state.IllegalState s = s.1
refused_peer v k o e s = absurd s

pub opens : {R : Type 0} (g : Relays R) (v w : EngineView R) (received : Option Frame) (reached : Option ℕ) (calls : List (session.SessionCall R)) (r : Option StepError) (frames : List Frame) →
    v.waiting ≡ [] → frames ≡ w.waiting → Untouched reached calls → OpenRequest v r w → Deed g v (of input.Open received reached calls r frames) w
opens g v w received reached calls None frames idle fe u s = alone g v w _ SentOpen refl none_waiting u (record {
  moved = record {
    calls = connection.SendOpen (Ok (open_frame v.connection.local_open)) ∷ [];
    happens = refl;
    chain = (s.1, (s.2.0, s.2.1, refl, s.2.3), ap (λ (x : EngineView _). x.connection) s.3);
  };
  none_moves = tt;
  sessions_is = ap (λ (x : EngineView _). x.sessions) s.3;
  forgotten_is = ap (λ (x : EngineView _). x.forgotten) s.3;
  limit_is = ap (λ (x : EngineView _). x.limit) s.3;
  frames_are = fe ∙ ap (λ (x : EngineView _). x.waiting) s.3 ∙ ap (λ (f : Frame). f ∷ []) s.2.2;
})
opens g v w received reached calls (Some (no.ConnectionState e)) frames idle fe u s =
    let same = at_connection v w s.0 s.2 (refused_open v.connection s.0 e s.1) in
    alone g v w _ Quiet refl (λ x. cc) u (same_engine v w frames same (fe ∙ ap (λ (x : EngineView _). x.waiting) same ∙ idle))
opens g v w received reached calls (Some e) frames idle fe u s = absurd s

pub closes : {R : Type 0} (g : Relays R) (v w : EngineView R) (error : Option ErrorModel) (received : Option Frame) (reached : Option ℕ) (calls : List (session.SessionCall R)) (r : Option StepError) (frames : List Frame) →
    v.waiting ≡ [] → frames ≡ w.waiting → Untouched reached calls → CloseRequest v error r w → Deed g v (of (input.Close error) received reached calls r frames) w
closes g v w error received reached calls None frames idle fe u s = alone g v w _ (SentClose error) refl none_waiting u (record {
  moved = record {
    calls = connection.SendClose error (Ok (close_frame error)) ∷ connection.Stop (close_reason error) ∷ [];
    happens = refl;
    chain = (s.1, (s.2.0, s.2.1, refl, s.2.3), (stopped s.1 (close_reason error), refl, ap (λ (x : EngineView _). x.connection) s.3));
  };
  none_moves = tt;
  sessions_is = ap (λ (x : EngineView _). x.sessions) s.3;
  forgotten_is = ap (λ (x : EngineView _). x.forgotten) s.3;
  limit_is = ap (λ (x : EngineView _). x.limit) s.3;
  frames_are = fe ∙ ap (λ (x : EngineView _). x.waiting) s.3 ∙ ap (λ (f : Frame). f ∷ []) s.2.2;
})
closes g v w error received reached calls (Some (no.ConnectionState e)) frames idle fe u s =
    let same = at_connection v w s.0 s.2 (refused_close v.connection s.0 error e s.1) in
    alone g v w _ Quiet refl (λ x. cc) u (same_engine v w frames same (fe ∙ ap (λ (x : EngineView _). x.waiting) same ∙ idle))
closes g v w error received reached calls (Some e) frames idle fe u s = absurd s

-- ---- a session comes, and gives its channel back

-- the channel of a Begin that goes out
begin_channel : {R : Type 0} (g : Relays R) (hash : KeyHash) (settings : SettingsModel) (channel : ℕ) (stop : Option ConnectionStopReason) (f : SessionFrame) (after : SessionView R) →
    session.SessionChain g (new_session hash settings channel Unmapped stop) (session.SendsBegin (Ok f) ∷ []) after → f.channel ≡ channel
begin_channel g hash settings channel stop f after c = ap (λ (x : SessionFrame). x.channel) c.1.1

pub begins : {R : Type 0} (g : Relays R) (v w : EngineView R) (k : SessionNo) (settings : SettingsModel) (received : Option Frame) (reached : Option ℕ) (calls : List (session.SessionCall R)) (r : Option StepError) (frames : List Frame) →
    v.waiting ≡ [] → frames ≡ w.waiting → BeginRequest g v k.0 settings reached calls r w → Deed g v (of (input.Begin k settings) received reached calls r frames) w
begins g v w k settings received reached calls None frames idle fe s =
    let b : Begun g v k.0 settings calls w = s.1 in
    let shown : frames ≡ sent (calls_frames calls) = fe ∙ ap (λ (x : EngineView _). x.waiting) b.put in
    let chain = subst (λ (cs : List (session.SessionCall _)). session.SessionChain g (new_session v.connection.hash settings b.channel Unmapped v.connection.stop_reason) cs b.after) b.asked.1 b.steps in
    let channel : channel_of frames ≡ b.channel = ap channel_of (shown ∙ ap (λ (cs : List (session.SessionCall _)). sent (calls_frames cs)) b.asked.1)
    ∙ begin_channel g v.connection.hash settings b.channel v.connection.stop_reason b.asked.0 b.after chain in
    record {
      taken = none_waiting;
      moved = record {
        calls = connection.Allocate k.0 (Ok (channel_of frames)) ∷ [];
        happens = refl;
        chain = (b.connection, subst (λ c. AllocateStep v.connection k.0 (Ok c) b.connection) (sym channel) b.allocated, ap (λ (x : EngineView _). x.connection) b.put);
      };
      effect = inr (inl (record {
        number = k.0;
        settings = settings;
        channel = b.channel;
        after = b.after;
        event_is = ap (λ c. Began k.0 settings c) channel;
        accepted = refl;
        reached_is = s.0;
        absent = b.unknown;
        unused = b.unused;
        fits = b.fits;
        asked = b.asked;
        chain = b.steps;
        sessions_is = ap (λ (x : EngineView _). x.sessions) b.put;
      }));
      forgotten_is = ap (λ (x : EngineView _). x.forgotten) b.put;
      limit_is = ap (λ (x : EngineView _). x.limit) b.put;
      frames_are = shown;
      session_frames = λ m r. shown;
    }
begins g v w k settings received reached calls (Some no.SessionInUse) frames idle fe s = refuses g v w _ refl (λ x. cc) idle fe s.0
begins g v w k settings received reached calls (Some (no.AllocSession e)) frames idle fe s = refuses g v w _ refl (λ x. cc) idle fe s.0
begins g v w k settings received reached calls (Some (no.SessionState unbegun.OutOfMemory)) frames idle fe s = refuses g v w _ refl (λ x. cc) idle fe s.0
begins g v w k settings received reached calls (Some no.OutOfMemory) frames idle fe s = refuses g v w _ refl (λ x. cc) idle fe s.0
begins g v w k settings received reached calls (Some e) frames idle fe s = absurd s

released : (v : ConnectionView) (c n : ℕ) → Holds v c n → Moved v (Released n) (given_back v c)
released v c n h = record {
  calls = connection.Deallocate c true ∷ [];
  happens = (c, h, refl);
  chain = (given_back v c, (subst (λ (x : Option ℕ). IsSome x) (sym h) refl, refl), refl);
}

pub releases : {R : Type 0} (g : Relays R) (v w : EngineView R) (k : SessionNo) (received : Option Frame) (reached : Option ℕ) (calls : List (session.SessionCall R)) (r : Option StepError) (frames : List Frame) →
    v.waiting ≡ [] → frames ≡ w.waiting → ReleaseRequest v k.0 reached calls r w → Deed g v (of (input.Release k) received reached calls r frames) w
releases g v w k received reached calls None frames idle fe s =
    alone g v w _ (Released k.0) refl none_waiting s.0
    (one_moved v w (given_back v.connection s.1.0.outgoing_channel) (Released k.0) frames s.1.3 (released v.connection s.1.0.outgoing_channel k.0 s.1.2) tt refl refl (fe ∙ ap (λ (x : EngineView _). x.waiting) s.1.3 ∙ idle))
releases g v w k received reached calls (Some no.NoSession) frames idle fe s = refuses g v w _ refl (λ x. cc) idle fe s.0
releases g v w k received reached calls (Some (no.Connection e)) frames idle fe s = refuses g v w _ refl (λ x. cc) idle fe s.0
releases g v w k received reached calls (Some e) frames idle fe s = absurd s

-- a session is let go
pub forgets : {R : Type 0} (g : Relays R) (v w : EngineView R) (k : SessionNo) (received : Option Frame) (reached : Option ℕ) (calls : List (session.SessionCall R)) (r : Option StepError) (frames : List Frame) →
    v.waiting ≡ [] → frames ≡ w.waiting → ForgetRequest v k.0 reached calls r w → Deed g v (of (input.Forget k) received reached calls r frames) w
forgets g v w k received reached calls None frames idle fe s =
    let put = s.2.put in
    let sent_none : sent (calls_frames calls) ≡ [] = ap (λ (cs : List (session.SessionCall _)). sent (calls_frames cs)) s.0.1 in
    record {
      taken = none_waiting;
      moved = record { calls = []; happens = refl; chain = ap (λ (x : EngineView _). x.connection) put };
      effect = inr (inr (record {
        number = k.0;
        before = s.1.0;
        event_is = refl;
        accepted = refl;
        unreached = s.0.0;
        no_calls = s.0.1;
        known = s.1.1;
        over = s.1.2;
        without = s.2.sessions;
      }));
      forgotten_is = ap (λ (x : EngineView _). x.forgotten) put;
      limit_is = ap (λ (x : EngineView _). x.limit) put;
      frames_are = fe ∙ ap (λ (x : EngineView _). x.waiting) put ∙ idle ∙ sym sent_none;
      session_frames = λ m r. absurd (some_none (sym r ∙ s.0.0));
    }
forgets g v w k received reached calls (Some no.OutOfMemory) frames idle fe s = refuses g v w _ refl (λ x. cc) idle fe s.0
forgets g v w k received reached calls (Some no.NoSession) frames idle fe s = refuses g v w _ refl (λ x. cc) idle fe s.0
forgets g v w k received reached calls (Some no.SessionInUse) frames idle fe s = refuses g v w _ refl (λ x. cc) idle fe s.0
forgets g v w k received reached calls (Some (no.SessionState e)) frames idle fe s = refuses g v w _ refl (λ x. cc) idle fe s.0
forgets g v w k received reached calls (Some e) frames idle fe s = absurd s.1
