-- What each input does, where it is carried out.
use Rattle.std.proofs.Common.{◌≡◌, ◌⊎◌, ℕ, List, [], ◌∷◌, Option, Some, None, Ok, Err, refl, ap, sym, subst, ◌∙◌, inl, inr}
use Rattle.std.specs.Option.{option_map}
use Rattle.amqp_types.specs.declared.states.ConnectionState.{ConnectionState}
use Rattle.amqp_types.specs.declared.states.ConnectionState.TheVariants as at
use Rattle.amqp_types.specs.declared.states.SessionState.{SessionState}
use Rattle.amqp_types.specs.Error.{ErrorModel}
use Rattle.amqp_types.specs.Open.{OpenModel}
use Rattle.amqp_types.specs.Begin.{BeginModel}
use Rattle.amqp_types.specs.End.{EndModel}
use Rattle.amqp_types.specs.Close.{CloseModel}
use Rattle.amqp_session.specs.Relay.{Relays}
use Rattle.amqp_session.specs.History as session
use Rattle.amqp_frames.specs.declared.frame.Frame.{Frame}
use Rattle.amqp_frames.specs.declared.frame.FrameBody.{FrameBody}
use Rattle.amqp_frames.specs.declared.frame.FrameBody.TheVariants as body
use Rattle.amqp_connection.specs.declared.error.ConnectionStateError.{ConnectionStateError}
use Rattle.amqp_connection.specs.declared.error.ConnectionStateError.TheVariants as state
use Rattle.amqp_connection.specs.declared.error.ConnectionInnerError.{ConnectionInnerError}
use Rattle.amqp_connection.specs.declared.error.ConnectionInnerError.TheVariants as inner
use Rattle.amqp_engine.specs.declared.engine.input.Input.{Input}
use Rattle.amqp_engine.specs.declared.engine.input.Input.TheVariants as input
use Rattle.amqp_engine.specs.declared.engine.step_error.StepError.{StepError}
use Rattle.amqp_engine.specs.declared.engine.step_error.StepError.TheVariants as no
use Rattle.amqp_connection.specs.States.{takes_close}
use Rattle.amqp_connection.specs.Connection.{ConnectionView, IncomingCloseStep, BeginRouteStep, EndRouteStep, RouteStep, stopped}
use Rattle.amqp_connection.specs.History as connection
use Rattle.amqp_engine.specs.EngineView.{EngineView}
use Rattle.amqp_engine.specs.Calls.{Calls, received_calls}
use Rattle.amqp_engine.specs.Sessions.{Untouched, Called, Unknown, Reaches}
use Rattle.amqp_engine.specs.Engine.{InputStep, Received, ReceivedFrame, ReceivedOpen, ReceivedClose, Finds, recorded, NoneReceived}
use Rattle.amqp_engine.specs.Entry.{Entry}
use Rattle.amqp_engine.specs.ByHistory.{remote_reason}
use Rattle.amqp_engine.specs.Event.{Event, Quiet, AcceptedOpen, CameClose, event, event_by, received_event}
use Rattle.amqp_engine.specs.ByHistory.{limit_by}
use Rattle.amqp_engine.specs.Headline.{own_frames, asked_calls}
use Rattle.amqp_engine.proofs.StepEffectLemmas.{Moved, NoneMoves, IsPlain, Deed, close_refusal, stops, close_calls, quiet, request_plain, received_plain, alone, same_engine, one_moved, at_connection, refuses, calls_one, calls_none, does}
use Rattle.amqp_engine.proofs.RequestStepLemmas.{of, opens, closes, begins, releases, forgets, refused_peer}

-- ---- received frames of the connection

-- the event of a frame that was received
received_is : (R : Type 0) (bytes : List ℕ) (f : Frame) (received : Option Frame) (reached : Option ℕ) (r : Option StepError) (frames : List Frame) → received ≡ Some f →
    event_by {R = R} (input.Received bytes) received reached r frames ≡ received_event f.channel f.body reached r
received_is R bytes f received reached r frames is = ap (λ x. event_by {R = R} (input.Received bytes) x reached r frames) is

took_open : {R : Type 0} (g : Relays R) (v w : EngineView R) (e : Entry R) (c : ℕ) (o : OpenModel) (r : Option StepError) → event e ≡ received_event c (body.Open o) e.reached r → e.refusal ≡ r → v.waiting ≡ [] → e.frames ≡ w.waiting → Untouched e.reached e.calls →
    ReceivedOpen v o r w → Deed g v e w
took_open g v w e c o None is told idle fe u s = alone g v w e (AcceptedOpen o) is (λ x. let y = sym told ∙ x in cc) u (record {
  moved = record { calls = connection.IncomingOpen o None ∷ []; happens = refl; chain = (s.0, s.1, ap (λ (x : EngineView _). x.connection) s.2) };
  none_moves = tt;
  sessions_is = ap (λ (x : EngineView _). x.sessions) s.2;
  forgotten_is = ap (λ (x : EngineView _). x.forgotten) s.2;
  limit_is = ap (λ (x : EngineView _). x.limit) s.2;
  frames_are = fe ∙ ap (λ (x : EngineView _). x.waiting) s.2 ∙ idle;
})
took_open g v w e c o (Some (no.ConnectionState x)) is told idle fe u s =
    let same = at_connection v w s.0 s.2 (refused_peer v.connection s.0 o x s.1) in
    alone g v w e Quiet is (λ y. let z = sym told ∙ y in cc) u (same_engine v w e.frames same (fe ∙ ap (λ (y : EngineView _). y.waiting) same ∙ idle))
took_open g v w e c o (Some x) is told idle fe u s = absurd s

-- how a Close was refused, by the table
refused_so : (v k : ConnectionView) (c : CloseModel) (r : Option ConnectionStateError) → IncomingCloseStep v c r k → r ≡ close_refusal (takes_close v.state) c.error
refused_so v k c (Some state.IllegalState) s = sym (ap (λ n. close_refusal n c.error) s.0)
refused_so v k c r s = s.2 ∙ sym (ap (λ n. close_refusal n c.error) s.1)

recorded_by : (next : Option ConnectionState) (error : Option ErrorModel) (u k : ConnectionView) → k ≡ recorded next (remote_reason error) u → connection.Chain u (stops next error) k
recorded_by None error u k e = e
recorded_by (Some at.CloseReceived) error u k e = (stopped u (remote_reason error), refl, e)
recorded_by (Some s) error u k e = e

came_close : (v u k : ConnectionView) (c : CloseModel) (r : Option ConnectionStateError) → IncomingCloseStep v c r u → k ≡ recorded (takes_close v.state) (remote_reason c.error) u → Moved v (CameClose c) k
came_close v u k c r s e = record {
  calls = close_calls v c;
  happens = refl;
  chain = (u, subst (λ x. IncomingCloseStep v c x u) (refused_so v u c r s) s, recorded_by (takes_close v.state) c.error u k e);
}

no_close_waits : (told : Option ConnectionStateError) (r : Option StepError) → r ≡ option_map (λ e. no.ConnectionState e) told → (¬ (r ≡ Some no.OutputWaiting)) × (¬ (r ≡ Some no.OutOfMemory))
no_close_waits None r is = (λ x. let y = sym is ∙ x in cc, λ x. let y = sym is ∙ x in cc)
no_close_waits (Some e) r is = (λ x. let y = sym is ∙ x in cc, λ x. let y = sym is ∙ x in cc)

close_event : (c : ℕ) (p : CloseModel) (reached : Option ℕ) (r : Option StepError) → ¬ (r ≡ Some no.OutOfMemory) → received_event c (body.Close p) reached r ≡ CameClose p
close_event c p reached (Some no.OutOfMemory) h = absurd (h refl)
close_event c p reached r h = refl

took_close : {R : Type 0} (g : Relays R) (v w : EngineView R) (e : Entry R) (c : ℕ) (p : CloseModel) → event e ≡ received_event c (body.Close p) e.reached e.refusal → v.waiting ≡ [] → e.frames ≡ w.waiting → Untouched e.reached e.calls → ReceivedClose v p e.refusal w → Deed g v e w
took_close g v w e c p is idle fe u s =
    let no = no_close_waits s.0 e.refusal s.3 in
    alone g v w e (CameClose p) (is ∙ close_event c p e.reached e.refusal no.1) no.0 u (one_moved v w s.1 (CameClose p) e.frames s.4 (came_close v.connection s.2.0 s.1 p s.0 s.2.1 s.2.2) tt refl refl (fe ∙ ap (λ (x : EngineView _). x.waiting) s.4 ∙ idle))

-- ---- received frames of sessions

-- how the connection changes where it finds a session, and where it does not
abbrev Found : ConnectionView → ℕ → FrameBody → Type 0
Found v c b = (n : ℕ) (k : ConnectionView) (r : Option StepError) → Finds v c b (Ok n) k → ¬ (r ≡ Some no.OutOfMemory) → Moved v (received_event c b (Some n) r) k

abbrev Lost : ConnectionView → ℕ → FrameBody → Type 0
Lost v c b = (e : ConnectionInnerError) (k : ConnectionView) → Finds v c b (Err e) k → k ≡ v

lost_begin : (v : ConnectionView) (c : ℕ) (remote : Option ℕ) (e : ConnectionInnerError) (k : ConnectionView) → BeginRouteStep v c remote (Err e) k → k ≡ v
lost_begin v c remote inner.IllegalState k s = s.1
lost_begin v c remote (inner.NotImplemented t) k s = s.3
lost_begin v c remote (inner.NotFound t) k s = s.3
lost_begin v c remote inner.OutOfMemory k s = s.2
lost_begin v c remote e k s = absurd s

lost_end : (v : ConnectionView) (c : ℕ) (e : ConnectionInnerError) (k : ConnectionView) → EndRouteStep v c (Err e) k → k ≡ v
lost_end v c inner.IllegalState k s = s.1
lost_end v c (inner.NotFound t) k s = s.3
lost_end v c e k s = absurd s

lost : (v : ConnectionView) (c : ℕ) (e : ConnectionInnerError) (k : ConnectionView) → RouteStep v c (Err e) k → k ≡ v
lost v c (inner.NotFound t) k s = s.2
lost v c e k s = absurd s

found_begin : (v : ConnectionView) (c : ℕ) (p : BeginModel) → Found v c (body.Begin p)
found_begin v c p n k (Some no.OutOfMemory) f h = absurd (h refl)
found_begin v c p n k r f h = record { calls = connection.IncomingBegin c (Some f.1.0) (Ok n) ∷ []; happens = (f.1.0, f.1.2, refl); chain = (k, (f.0, (f.1.0, refl, f.1.2), f.2), refl) }

found_end : (v : ConnectionView) (c : ℕ) (p : EndModel) → Found v c (body.End p)
found_end v c p n k (Some no.OutOfMemory) f h = absurd (h refl)
found_end v c p n k r f h = record { calls = connection.IncomingEnd c (Ok n) ∷ []; happens = (n, refl); chain = (k, f, refl) }

-- the events of frames that are a session's
abbrev IsSession : FrameBody → Type 0
IsSession (body.Begin p) = Unit {0}
IsSession (body.End p) = Unit {0}
IsSession (body.Attach p) = Unit {0}
IsSession (body.Detach p) = Unit {0}
IsSession (body.Disposition p) = Unit {0}
IsSession (body.Flow p) = Unit {0}
IsSession (body.Transfer p payload) = Unit {0}
IsSession b = ⊥

found : (v : ConnectionView) (c : ℕ) (b : FrameBody) → IsSession b → Found v c b
found v c (body.Begin p) i n k r f h = found_begin v c p n k r f h
found v c (body.End p) i n k r f h = found_end v c p n k r f h
found v c (body.Attach p) i n k (Some no.OutOfMemory) f h = absurd (h refl)
found v c (body.Attach p) i n k r f h = quiet v k f.1
found v c (body.Detach p) i n k (Some no.OutOfMemory) f h = absurd (h refl)
found v c (body.Detach p) i n k r f h = quiet v k f.1
found v c (body.Disposition p) i n k (Some no.OutOfMemory) f h = absurd (h refl)
found v c (body.Disposition p) i n k r f h = quiet v k f.1
found v c (body.Flow p) i n k (Some no.OutOfMemory) f h = absurd (h refl)
found v c (body.Flow p) i n k r f h = quiet v k f.1
found v c (body.Transfer p payload) i n k (Some no.OutOfMemory) f h = absurd (h refl)
found v c (body.Transfer p payload) i n k r f h = quiet v k f.1
found v c b i n k r f h = absurd i

unfound : (v : ConnectionView) (c : ℕ) (b : FrameBody) → IsSession b → Lost v c b
unfound v c (body.Begin p) i = lost_begin v c p.remote_channel
unfound v c (body.End p) i = lost_end v c
unfound v c (body.Attach p) i = lost v c
unfound v c (body.Detach p) i = lost v c
unfound v c (body.Disposition p) i = lost v c
unfound v c (body.Flow p) i = lost v c
unfound v c (body.Transfer p payload) i = lost v c
unfound v c b i = absurd i

-- what such an event leaves
pub record IsSessionEvent (v : ConnectionView) (limit : ℕ) (ev : Event) : Type 0 where
  pub none_moves : NoneMoves ev
  pub limit_is : limit_by limit ev ≡ limit
  pub no_frames : own_frames v.local_open ev ≡ []

session_event : (v : ConnectionView) (limit c : ℕ) (b : FrameBody) (reached : Option ℕ) (r : Option StepError) → IsSession b → IsSessionEvent v limit (received_event c b reached r)
session_event v limit c b reached (Some no.OutOfMemory) i = record { none_moves = tt; limit_is = refl; no_frames = refl }
session_event v limit c (body.Begin p) (Some n) r i = record { none_moves = tt; limit_is = refl; no_frames = refl }
session_event v limit c (body.Begin p) None r i = record { none_moves = tt; limit_is = refl; no_frames = refl }
session_event v limit c (body.End p) (Some n) r i = record { none_moves = tt; limit_is = refl; no_frames = refl }
session_event v limit c (body.End p) None r i = record { none_moves = tt; limit_is = refl; no_frames = refl }
session_event v limit c (body.Attach p) reached r i = record { none_moves = tt; limit_is = refl; no_frames = refl }
session_event v limit c (body.Detach p) reached r i = record { none_moves = tt; limit_is = refl; no_frames = refl }
session_event v limit c (body.Disposition p) reached r i = record { none_moves = tt; limit_is = refl; no_frames = refl }
session_event v limit c (body.Flow p) reached r i = record { none_moves = tt; limit_is = refl; no_frames = refl }
session_event v limit c (body.Transfer p payload) reached r i = record { none_moves = tt; limit_is = refl; no_frames = refl }
session_event v limit c b reached r i = absurd i

-- where no session is reached
none_event : (c : ℕ) (b : FrameBody) (r : Option StepError) → IsSession b → received_event c b None r ≡ Quiet
none_event c b (Some no.OutOfMemory) i = refl
none_event c (body.Begin p) r i = refl
none_event c (body.End p) r i = refl
none_event c (body.Attach p) r i = refl
none_event c (body.Detach p) r i = refl
none_event c (body.Disposition p) r i = refl
none_event c (body.Flow p) r i = refl
none_event c (body.Transfer p payload) r i = refl
none_event c b r i = absurd i

plain_short : (r : Option StepError) → IsPlain r → ¬ (r ≡ Some no.OutOfMemory)
plain_short None p x = cc
plain_short (Some (no.SessionState y)) p x = cc
plain_short (Some (no.Session y)) p x = cc
plain_short (Some (no.AllocLink y)) p x = cc
plain_short (Some y) p x = absurd p

reaches : {R : Type 0} (g : Relays R) (v w : EngineView R) (e : Entry R) (c : ℕ) (b : FrameBody) → IsSession b → event e ≡ received_event c b e.reached e.refusal → ((s : SessionState) → received_calls c b s e.calls e.refusal → asked_calls e.input e.received s e.calls e.refusal) →
    v.waiting ≡ [] → e.frames ≡ w.waiting → Reaches g (Finds v.connection c b) v (received_calls c b) e.reached e.calls e.refusal w → Deed g v e w
reaches g v w e c b i is carry idle fe (inl s) =
    let same = at_connection v w s.1 s.6 (unfound v.connection c b i s.0 s.1 s.2) in
    refuses g v w e (is ∙ ap (λ o. received_event c b o e.refusal) s.3 ∙ none_event c b e.refusal i) (λ x. let y = sym s.5 ∙ x in cc) idle fe ((s.3, s.4), same)
reaches g v w e c b i is carry idle fe (inr s) = by s.4
  where
    ev : Event
    ev = received_event c b e.reached e.refusal

    q : IsSessionEvent v.connection v.limit ev
    q = session_event v.connection v.limit c b e.reached e.refusal i

    m : ¬ (e.refusal ≡ Some no.OutOfMemory) → Moved v.connection ev s.1
    m h = subst (λ o. Moved v.connection (received_event c b o e.refusal) s.1) (sym s.3) (found v.connection c b i s.0 s.1 e.refusal s.2 h)

    by : Called g (record v { connection = s.1 }) s.0 (received_calls c b) e.calls e.refusal w ⊎ Unknown (record v { connection = s.1 }) s.0 e.calls e.refusal w → Deed g v e w
    by (inl x) = calls_one g v w s.1 e ev s.0 (received_calls c b) is (m (plain_short e.refusal (received_plain c b x.before.state e.calls e.refusal x.asked))) q.none_moves q.limit_is q.no_frames (received_plain c b) carry s.3 fe x
    by (inr x) = calls_none g v w s.1 e ev s.0 is (m (λ y. let z = sym x.refused ∙ y in cc)) q.none_moves q.limit_is q.no_frames idle fe x

-- ---- received frames

frame : {R : Type 0} (g : Relays R) (v w : EngineView R) (e : Entry R) (c : ℕ) (b : FrameBody) → event e ≡ received_event c b e.reached e.refusal → ((s : SessionState) → received_calls c b s e.calls e.refusal → asked_calls e.input e.received s e.calls e.refusal) →
    v.waiting ≡ [] → e.frames ≡ w.waiting → ReceivedFrame g v c b e.reached e.calls e.refusal w → Deed g v e w
frame g v w e c body.Empty is carry idle fe s =
    refuses g v w e (is ∙ ap (λ r. received_event c body.Empty e.reached r) s.1) (λ x. let y = sym s.1 ∙ x in cc) idle fe s.0
frame g v w e c (body.Open o) is carry idle fe s = took_open g v w e c o e.refusal is refl idle fe s.0 s.1
frame g v w e c (body.Close p) is carry idle fe s = took_close g v w e c p is idle fe s.0 s.1
frame g v w e c (body.Attach p) is carry idle fe s = reaches g v w e c (body.Attach p) tt is carry idle fe s
frame g v w e c (body.Disposition p) is carry idle fe s = reaches g v w e c (body.Disposition p) tt is carry idle fe s
frame g v w e c (body.Detach p) is carry idle fe s = reaches g v w e c (body.Detach p) tt is carry idle fe s
frame g v w e c (body.Begin p) is carry idle fe s = reaches g v w e c (body.Begin p) tt is carry idle fe s
frame g v w e c (body.End p) is carry idle fe s = reaches g v w e c (body.End p) tt is carry idle fe s
frame g v w e c (body.Flow p) is carry idle fe s = reaches g v w e c (body.Flow p) tt is carry idle fe s
frame g v w e c (body.Transfer p payload) is carry idle fe s = reaches g v w e c (body.Transfer p payload) tt is carry idle fe s

none_waits : (bytes : List ℕ) (r : Option StepError) → NoneReceived bytes r → ¬ (r ≡ Some no.OutputWaiting)
none_waits bytes (Some (no.Frame e)) n = λ x. cc
none_waits bytes (Some no.OutOfMemory) n = λ x. cc
none_waits bytes r n = absurd n

arrives : {R : Type 0} (g : Relays R) (v w : EngineView R) (bytes : List ℕ) (received : Option Frame) (reached : Option ℕ) (calls : List (session.SessionCall R)) (r : Option StepError) (frames : List Frame) →
    v.waiting ≡ [] → frames ≡ w.waiting → Received g v bytes received reached calls r w → Deed g v (of (input.Received bytes) received reached calls r frames) w
arrives {R = R} g v w bytes received reached calls r frames idle fe (inl s) =
    refuses g v w _ (ap (λ x. event_by {R = R} (input.Received bytes) x reached r frames) s.1) (none_waits bytes r s.0) idle fe s.2
arrives {R = R} g v w bytes received reached calls r frames idle fe (inr s) =
    frame g v w _ s.0.channel s.0.body (received_is R bytes s.0 received reached r frames s.3)
    (λ t a. subst (λ (x : Calls _). x t calls r) (sym (ap (λ x. asked_calls (input.Received bytes) x) s.3)) a) idle fe s.4

-- ---- a step

carries : {R : Type 0} (g : Relays R) (v w : EngineView R) (i : Input R) (received : Option Frame) (reached : Option ℕ) (calls : List (session.SessionCall R)) (r : Option StepError) (frames : List Frame) →
    v.waiting ≡ [] → frames ≡ w.waiting → InputStep g v i received reached calls r w → Deed g v (of i received reached calls r frames) w
carries g v w (input.Received bytes) received reached calls r frames idle fe s = arrives g v w bytes received reached calls r frames idle fe s
carries g v w input.Open received reached calls r frames idle fe s = opens g v w received reached calls r frames idle fe s.1 s.2
carries g v w (input.Close error) received reached calls r frames idle fe s = closes g v w error received reached calls r frames idle fe s.1 s.2
carries g v w (input.Begin k settings) received reached calls r frames idle fe s = begins g v w k settings received reached calls r frames idle fe s.1
carries g v w (input.Release k) received reached calls r frames idle fe s = releases g v w k received reached calls r frames idle fe s.1
carries g v w (input.Forget k) received reached calls r frames idle fe s = forgets g v w k received reached calls r frames idle fe s.1
carries g v w (input.End k error) received reached calls r frames idle fe s = does g v w _ k.0 _ refl (request_plain (input.End k error)) (λ t a. a) idle fe s.1
carries g v w (input.AllocateLink k name relay) received reached calls r frames idle fe s = does g v w _ k.0 _ refl (request_plain (input.AllocateLink k name relay)) (λ t a. a) idle fe s.1
carries g v w (input.AllocateIncomingLink k name relay h) received reached calls r frames idle fe s = does g v w _ k.0 _ refl (request_plain (input.AllocateIncomingLink k name relay h)) (λ t a. a) idle fe s.1
carries g v w (input.Attach k a) received reached calls r frames idle fe s = does g v w _ k.0 _ refl (request_plain (input.Attach k a)) (λ t x. x) idle fe s.1
carries g v w (input.Detach k d expects_echo) received reached calls r frames idle fe s = does g v w _ k.0 _ refl (request_plain (input.Detach k d expects_echo)) (λ t a. a) idle fe s.1
carries g v w (input.Flow k l) received reached calls r frames idle fe s = does g v w _ k.0 _ refl (request_plain (input.Flow k l)) (λ t a. a) idle fe s.1
carries g v w (input.Transfer k h t payload first) received reached calls r frames idle fe s = does g v w _ k.0 _ refl (request_plain (input.Transfer k h t payload first)) (λ x a. a) idle fe s.1
carries g v w (input.Disposition k d) received reached calls r frames idle fe s = does g v w _ k.0 _ refl (request_plain (input.Disposition k d)) (λ t a. a) idle fe s.1
carries g v w (input.Settle k role first last) received reached calls r frames idle fe s = does g v w _ k.0 _ refl (request_plain (input.Settle k role first last)) (λ t a. a) idle fe s.1
carries g v w (input.Stop k reason) received reached calls r frames idle fe s = does g v w _ k.0 _ refl (request_plain (input.Stop k reason)) (λ t a. a) idle fe s.1

pub deed : {R : Type 0} (g : Relays R) (v w : EngineView R) (e : Entry R) → v.waiting ≡ [] → e.frames ≡ w.waiting → InputStep g v e.input e.received e.reached e.calls e.refusal w → Deed g v e w
deed g v w e idle fe s = carries g v w e.input e.received e.reached e.calls e.refusal e.frames idle fe s
