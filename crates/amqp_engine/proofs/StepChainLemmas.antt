-- What each step does, also where output waits, and what that gives for a chain of steps.
use Rattle.std.proofs.Common.{◌≡◌, ◌++◌, ℕ, List, [], ◌∷◌, Option, Some, None, refl, ap, sym, subst, ◌∙◌, inl, inr}
use Rattle.amqp_types.specs.declared.states.ConnectionState.{ConnectionState}
use Rattle.amqp_types.specs.declared.states.ConnectionState.TheVariants as at
use Rattle.amqp_types.specs.Error.{ErrorModel}
use Rattle.amqp_types.specs.Open.{OpenModel}
use Rattle.amqp_types.specs.Close.{CloseModel}
use Rattle.amqp_session.specs.declared.stop.ConnectionStopReason.{ConnectionStopReason}
use Rattle.amqp_session.specs.Relay.{Relays}
use Rattle.amqp_session.specs.OutgoingFrames.{calls_frames}
use Rattle.amqp_session.specs.History as session
use Rattle.amqp_frames.specs.declared.frame.Frame.{Frame}
use Rattle.amqp_engine.specs.declared.engine.input.Input.{Input}
use Rattle.amqp_engine.specs.declared.engine.input.Input.TheVariants as input
use Rattle.amqp_engine.specs.declared.engine.step_error.StepError.{StepError}
use Rattle.amqp_engine.specs.declared.engine.step_error.StepError.TheVariants as no
use Rattle.amqp_connection.specs.States.{takes_close}
use Rattle.amqp_connection.specs.Connection.{ConnectionView}
use Rattle.amqp_connection.specs.History as connection
use Rattle.amqp_connection.proofs.HistoryLemmas.{after, after_all, went}
use Rattle.amqp_engine.specs.EngineView.{EngineView}
use Rattle.amqp_engine.specs.Waits.{sent}
use Rattle.amqp_engine.specs.Engine.{Step}
use Rattle.amqp_engine.specs.Entry.{Entry}
use Rattle.amqp_engine.specs.Event.{Event, Quiet, SentOpen, SentClose, AcceptedOpen, CameClose, Began, Released, Forgot, Routed, Unrouted, event, event_by}
use Rattle.amqp_engine.proofs.BareHistoryLemmas.{OutputTaken, Chain}
use Rattle.amqp_engine.specs.ByHistory.{remote_close_reason, state_by, state_from, reason_by, reason_from, remote_open_by, channel_max_by, limit_by, limit_after, numbers_by, waiting_by}
use Rattle.amqp_engine.specs.Inner.ByHistory.{remote_open_from, channel_max_from, last_frames_from}
use Rattle.amqp_engine.specs.Headline.{own_frames}
use Rattle.amqp_engine.proofs.BegunSessionLemmas.{some_none}
use Rattle.amqp_engine.proofs.StepEffectLemmas.{Moved, NoneMoves, Effect, after_close, close_refusal, stops, quiet}
use Rattle.amqp_engine.proofs.InputStepLemmas.{deed}

pub record Passage {R : Type 0} (g : Relays R) (v : EngineView R) (e : Entry R) (w : EngineView R) : Type 0 where
  pub moved : Moved v.connection (event e) w.connection
  pub effect : Effect g v e w
  pub forgotten_is : w.forgotten ≡ numbers_by (event e) v.forgotten
  pub limit_is : w.limit ≡ limit_by v.limit (event e)
  pub frames_are : e.frames ≡ own_frames v.connection.local_open (event e) ++ sent (calls_frames e.calls)
  pub session_frames : (n : ℕ) → e.reached ≡ Some n → e.frames ≡ sent (calls_frames e.calls)
  pub waiting_is : w.waiting ≡ waiting_by e.refusal e v.waiting

-- what waits stops all else
waiting_event : {R : Type 0} (i : Input R) (reached : Option ℕ) (frames : List Frame) → event_by i None reached (Some no.OutputWaiting) frames ≡ Quiet
waiting_event (input.Received bytes) reached frames = refl
waiting_event i reached frames = refl

waits_still : {R : Type 0} (e : Entry R) (r : Option StepError) (old : List Frame) → r ≡ Some no.OutputWaiting → waiting_by r e old ≡ old
waits_still e r old is = ap (λ x. waiting_by x e old) is

waits_now : {R : Type 0} (e : Entry R) (r : Option StepError) (old : List Frame) → ¬ (r ≡ Some no.OutputWaiting) → waiting_by r e old ≡ e.frames
waits_now e None old h = refl
waits_now e (Some no.OutputWaiting) old h = absurd (h refl)
waits_now e (Some x) old h = refl

pub passage : {R : Type 0} (g : Relays R) (v w : EngineView R) (e : Entry R) → Step g v e w → Passage g v e w
passage g v w e (inl s) =
    let is : event e ≡ Quiet = ap (λ x. event_by e.input x e.reached e.refusal e.frames) s.2 ∙ ap (λ r. event_by e.input None e.reached r e.frames) s.1 ∙ waiting_event e.input e.reached e.frames in
    let same : w ≡ v = s.3.1 in
    record {
      moved = subst (λ x. Moved v.connection x w.connection) (sym is) (quiet v.connection w.connection (ap (λ (x : EngineView _). x.connection) same));
      effect = inl (subst NoneMoves (sym is) tt, inl (record { sessions_is = ap (λ (x : EngineView _). x.sessions) same; no_calls = s.3.0.1; none_reached = inl s.3.0.0 }));
      forgotten_is = ap (λ (x : EngineView _). x.forgotten) same ∙ ap (λ x. numbers_by x v.forgotten) (sym is);
      limit_is = ap (λ (x : EngineView _). x.limit) same ∙ ap (limit_by v.limit) (sym is);
      frames_are = s.4 ∙ sym (ap (λ x. own_frames v.connection.local_open x ++ sent (calls_frames e.calls)) is ∙ ap (λ (cs : List (session.SessionCall _)). sent (calls_frames cs)) s.3.0.1);
      session_frames = λ n r. absurd (some_none (sym r ∙ s.3.0.0));
      waiting_is = ap (λ (x : EngineView _). x.waiting) same ∙ sym (waits_still e e.refusal v.waiting s.1);
    }
passage g v w e (inr s) =
    let d = deed g v w e s.0 s.1 s.2 in
    record {
      moved = d.moved;
      effect = d.effect;
      forgotten_is = d.forgotten_is;
      limit_is = d.limit_is;
      frames_are = d.frames_are;
      session_frames = d.session_frames;
      waiting_is = sym s.1 ∙ sym (waits_now e e.refusal v.waiting d.taken);
    }

-- where nothing waits, the input is taken, and what waits then is what it hands out
pub taken : {R : Type 0} (g : Relays R) (v w : EngineView R) (e : Entry R) → v.waiting ≡ [] → Step g v e w → (¬ (e.refusal ≡ Some no.OutputWaiting)) × (e.frames ≡ w.waiting)
taken g v w e idle (inl s) = absurd (s.0 idle)
taken g v w e idle (inr s) = ((deed g v w e s.0 s.1 s.2).taken, s.1)

-- ---- a value of the view that each step moves is what the history gives

pub by_history : {R X : Type 0} (g : Relays R) (get : EngineView R → X) (by : Entry R → X → X) (from : X → List (Entry R) → X) →
    ((x : X) → from x [] ≡ x) → ((x : X) (e : Entry R) (es : List (Entry R)) → from x (e ∷ es) ≡ from (by e x) es) →
    ((v w : EngineView R) → OutputTaken v w → get w ≡ get v) → ((v w : EngineView R) (e : Entry R) → Passage g v e w → get w ≡ by e (get v)) →
    (es : List (Entry R)) (v w : EngineView R) → Chain g v es w → get w ≡ from (get v) es
by_history g get by from none more left step [] v w c = left v w c ∙ sym (none (get v))
by_history g get by from none more left step (e ∷ es) v w c =
    by_history g get by from none more left step es c.1 w c.4
    ∙ ap (λ x. from x es) (step c.0 c.1 e (passage g c.0 c.1 e c.3) ∙ ap (by e) (left v c.0 c.2))
    ∙ sym (more (get v) e es)

-- ---- the connection's state and the reason why it stopped

-- what no channel and no route moves
record Settled : Type 0 where
  state : ConnectionState
  stop_reason : Option ConnectionStopReason
  local_open : OpenModel
  remote_open : Option OpenModel
  agreed_channel_max : ℕ

abbrev settled : ConnectionView → Settled
settled k = record { state = k.state; stop_reason = k.stop_reason; local_open = k.local_open; remote_open = k.remote_open; agreed_channel_max = k.agreed_channel_max }

-- the connection after the peer's Close
stopped_by : (next : Option ConnectionState) (error : Option ErrorModel) (v : ConnectionView) → after_all v (stops next error) ≡ record v { stop_reason = remote_close_reason next error v.stop_reason }
stopped_by None error v = refl
stopped_by (Some at.CloseReceived) error v = refl
stopped_by (Some s) error v = refl

pub came : (v w : ConnectionView) (c : CloseModel) → Moved v (CameClose c) w → w ≡ after_close v c
came v w c m = went v w m.calls _ m.happens m.chain ∙ stopped_by (takes_close v.state) c.error (after v (connection.IncomingClose c (close_refusal (takes_close v.state) c.error)))

settles : (v w : ConnectionView) (ev : Event) → Moved v ev w → ◌≡◌ {A = Settled} (settled w) (record {
  state = state_by v.state ev;
  stop_reason = reason_by v.state ev v.stop_reason;
  local_open = v.local_open;
  remote_open = remote_open_by ev v.remote_open;
  agreed_channel_max = channel_max_by v.local_open ev v.agreed_channel_max;
})
settles v w Quiet m = ap settled (went v w m.calls _ m.happens m.chain)
settles v w SentOpen m = ap settled (went v w m.calls _ m.happens m.chain)
settles v w (SentClose error) m = ap settled (went v w m.calls _ m.happens m.chain)
settles v w (AcceptedOpen o) m = ap settled (went v w m.calls _ m.happens m.chain)
settles v w (CameClose c) m = ap settled (came v w c m)
settles v w (Began n settings c) m = ap settled (went v w m.calls _ m.happens m.chain)
settles v w (Released n) m = ap settled (went v w m.calls _ m.happens.2 m.chain)
settles v w (Forgot n) m = ap settled (went v w m.calls _ m.happens m.chain)
settles v w (Routed c n) m = ap settled (went v w m.calls _ m.happens.2 m.chain)
settles v w (Unrouted c) m = ap settled (went v w m.calls _ m.happens.1 m.chain)

pub moved_state : (v w : ConnectionView) (ev : Event) → Moved v ev w → w.state ≡ state_by v.state ev
moved_state v w ev m = ap (λ (k : Settled). k.state) (settles v w ev m)

pub moved_reason : (v w : ConnectionView) (ev : Event) → Moved v ev w → w.stop_reason ≡ reason_by v.state ev v.stop_reason
moved_reason v w ev m = ap (λ (k : Settled). k.stop_reason) (settles v w ev m)

pub state_law : {R : Type 0} (g : Relays R) (es : List (Entry R)) (v w : EngineView R) → Chain g v es w → w.connection.state ≡ state_from v.connection.state es
state_law g = by_history g (λ v. v.connection.state) (λ e s. state_by s (event e)) state_from (λ x. refl) (λ x e es. refl)
    (λ v w t. ap (λ (k : ConnectionView). k.state) t.connection_is) (λ v w e p. moved_state v.connection w.connection (event e) p.moved)

Standing : Type 0
Standing = ConnectionState × Option ConnectionStopReason

standing : ConnectionView → Standing
unfolding Standing
standing k = (k.state, k.stop_reason)

standing_by : {R : Type 0} → Entry R → Standing → Standing
unfolding Standing
standing_by e x = (state_by x.0 (event e), reason_by x.0 (event e) x.1)

standing_from : {R : Type 0} → Standing → List (Entry R) → Standing
unfolding Standing
standing_from x es = (state_from x.0 es, reason_from x.0 x.1 es)

both : (v w : ConnectionView) (ev : Event) → Moved v ev w → ◌≡◌ {A = ConnectionState × Option ConnectionStopReason} (w.state, w.stop_reason) (state_by v.state ev, reason_by v.state ev v.stop_reason)
both v w ev m = ap (λ s. (s, w.stop_reason)) (moved_state v w ev m) ∙ ap (λ r. (state_by v.state ev, r)) (moved_reason v w ev m)

standing_law : {R : Type 0} (g : Relays R) (es : List (Entry R)) (v w : EngineView R) → Chain g v es w → standing w.connection ≡ standing_from (standing v.connection) es
unfolding standing standing_by standing_from Standing
standing_law g = by_history g (λ v. standing v.connection) standing_by standing_from (λ x. refl) (λ x e es. refl)
    (λ v w t. ap standing t.connection_is) (λ v w e p. both v.connection w.connection (event e) p.moved)

pub reason_law : {R : Type 0} (g : Relays R) (es : List (Entry R)) (v w : EngineView R) → Chain g v es w → w.connection.stop_reason ≡ reason_from v.connection.state v.connection.stop_reason es
unfolding standing standing_from Standing
reason_law g es v w c = ap (λ (x : Standing). x.1) (standing_law g es v w c)

-- ---- the Open of this side, and the channel maximum

moved_open : (v w : ConnectionView) (ev : Event) → Moved v ev w → w.local_open ≡ v.local_open
moved_open v w ev m = ap (λ (k : Settled). k.local_open) (settles v w ev m)

moved_remote : (v w : ConnectionView) (ev : Event) → Moved v ev w → w.remote_open ≡ remote_open_by ev v.remote_open
moved_remote v w ev m = ap (λ (k : Settled). k.remote_open) (settles v w ev m)

moved_max : (v w : ConnectionView) (ev : Event) → Moved v ev w → w.agreed_channel_max ≡ channel_max_by v.local_open ev v.agreed_channel_max
moved_max v w ev m = ap (λ (k : Settled). k.agreed_channel_max) (settles v w ev m)

pub open_law : {R : Type 0} (g : Relays R) (es : List (Entry R)) (v w : EngineView R) → Chain g v es w → w.connection.local_open ≡ v.connection.local_open
open_law g = by_history g (λ v. v.connection.local_open) (λ e o. o) (λ o es. o) (λ x. refl) (λ x e es. refl)
    (λ v w t. ap (λ (k : ConnectionView). k.local_open) t.connection_is) (λ v w e p. moved_open v.connection w.connection (event e) p.moved)

pub remote_open_law : {R : Type 0} (g : Relays R) (es : List (Entry R)) (v w : EngineView R) → Chain g v es w → w.connection.remote_open ≡ remote_open_from v.connection.remote_open es
remote_open_law g = by_history g (λ v. v.connection.remote_open) (λ e o. remote_open_by (event e) o) remote_open_from (λ x. refl) (λ x e es. refl)
    (λ v w t. ap (λ (k : ConnectionView). k.remote_open) t.connection_is) (λ v w e p. moved_remote v.connection w.connection (event e) p.moved)

pub channel_max_law : {R : Type 0} (g : Relays R) (own : OpenModel) (es : List (Entry R)) (v w : EngineView R) → v.connection.local_open ≡ own → Chain g v es w → w.connection.agreed_channel_max ≡ channel_max_from own v.connection.agreed_channel_max es
channel_max_law g own [] v w is c = ap (λ (k : ConnectionView). k.agreed_channel_max) c.connection_is
channel_max_law g own (e ∷ es) v w is c =
    let p = passage g c.0 c.1 e c.3 in
    let was : c.0.connection.local_open ≡ own = ap (λ (k : ConnectionView). k.local_open) c.2.connection_is ∙ is in
    channel_max_law g own es c.1 w (moved_open c.0.connection c.1.connection (event e) p.moved ∙ was) c.4
    ∙ ap (λ m. channel_max_from own m es) (moved_max c.0.connection c.1.connection (event e) p.moved ∙ ap (λ o. channel_max_by o (event e) c.0.connection.agreed_channel_max) was
    ∙ ap (λ (k : ConnectionView). channel_max_by own (event e) k.agreed_channel_max) c.2.connection_is)

-- ---- the limit, and what waits

pub limit_law : {R : Type 0} (g : Relays R) (es : List (Entry R)) (v w : EngineView R) → Chain g v es w → w.limit ≡ limit_after v.limit es
limit_law g = by_history g (λ v. v.limit) (λ e k. limit_by k (event e)) limit_after (λ x. refl) (λ x e es. refl) (λ v w t. t.limit_is) (λ v w e p. p.limit_is)

abbrev Left : List Frame → List Frame → Type 0
Left all waiting = (gone : List Frame) × (all ≡ gone ++ waiting)

append_assoc : {X : Type 0} (xs ys zs : List X) → (xs ++ ys) ++ zs ≡ xs ++ (ys ++ zs)
append_assoc [] ys zs = refl
append_assoc (x ∷ xs) ys zs = ap (λ as'. x ∷ as') (append_assoc xs ys zs)

left_taken : {R : Type 0} (all : List Frame) (v w : EngineView R) → OutputTaken v w → Left all v.waiting → Left all w.waiting
left_taken all v w t l = (l.0 ++ t.gone, l.1 ∙ ap (λ (fs : List Frame). l.0 ++ fs) t.left ∙ sym (append_assoc l.0 t.gone w.waiting))

waits_by : {R : Type 0} (e : Entry R) (r : Option StepError) (all waiting : List Frame) → Left all waiting → Left (waiting_by r e all) (waiting_by r e waiting)
waits_by e (Some no.OutputWaiting) all waiting l = l
waits_by e None all waiting l = ([], refl)
waits_by e (Some x) all waiting l = ([], refl)

pub waiting_law : {R : Type 0} (g : Relays R) (all : List Frame) (es : List (Entry R)) (v w : EngineView R) → Left all v.waiting → Chain g v es w → Left (last_frames_from all es) w.waiting
waiting_law g all [] v w l c = left_taken all v w c l
waiting_law g all (e ∷ es) v w l c =
    let p = passage g c.0 c.1 e c.3 in
    let u = waits_by e e.refusal all c.0.waiting (left_taken all v c.0 c.2 l) in
    waiting_law g (waiting_by e.refusal e all) es c.1 w (subst (λ (fs : List Frame). Left (waiting_by e.refusal e all) fs) (sym p.waiting_is) u) c.4

-- ---- a history in two parts

pub chain_split : {R : Type 0} (g : Relays R) (xs ys : List (Entry R)) (v w : EngineView R) → Chain g v (xs ++ ys) w → (m : EngineView R) × Chain g v xs m × Chain g m ys w
chain_split g [] ys v w c = (v, record { gone = []; left = refl; connection_is = refl; sessions_is = refl; forgotten_is = refl; limit_is = refl }, c)
chain_split g (e ∷ xs) ys v w c = let r = chain_split g xs ys c.1 w c.4 in (r.0, (c.0, c.1, c.2, c.3, r.1), r.2)
