-- What a step does: to the connection, by the event of its entry; to the sessions: nothing, calls of one of them, one more or one less;
-- and what it hands out. Every law of histories goes by this.
use Rattle.std.proofs.Common.{◌≡◌, ◌⊎◌, ◌<◌, ◌^◌, ◌++◌, ℕ, List, [], ◌∷◌, Option, Some, None, Result, Ok, Err, refl, ap, sym, subst, ◌∙◌, inl, inr, nat_eq, true, unwrap_or}
use Rattle.std.specs.FinMap as map
use Rattle.std.specs.Map.{lookup, set_value}
use Rattle.amqp_types.specs.declared.states.ConnectionState.{ConnectionState}
use Rattle.amqp_types.specs.declared.states.ConnectionState.TheVariants as at
use Rattle.amqp_types.specs.Error.{ErrorModel}
use Rattle.amqp_types.specs.declared.states.SessionState.{SessionState}
use Rattle.amqp_types.specs.declared.states.SessionState.TheVariants.{Unmapped}
use Rattle.amqp_types.specs.Close.{CloseModel}
use Rattle.amqp_session.specs.declared.error.SessionStateError.{SessionStateError}
use Rattle.amqp_session.specs.declared.error.SessionInnerError.{SessionInnerError}
use Rattle.amqp_session.specs.declared.error.AllocLinkError.{AllocLinkError}
use Rattle.amqp_session.specs.Settings.{SettingsModel}
use Rattle.amqp_session.specs.Relay.{Relays}
use Rattle.amqp_session.specs.Session.{SessionView, new_session}
use Rattle.amqp_session.specs.OutgoingFrames.{calls_frames}
use Rattle.amqp_session.specs.History as session
use Rattle.amqp_frames.specs.declared.frame.Frame.{Frame}
use Rattle.amqp_frames.specs.declared.frame.FrameBody.{FrameBody}
use Rattle.amqp_frames.specs.declared.frame.FrameBody.TheVariants as body
use Rattle.amqp_engine.specs.declared.engine.input.Input.{Input}
use Rattle.amqp_engine.specs.declared.engine.input.Input.TheVariants as input
use Rattle.amqp_engine.specs.declared.engine.step_error.StepError.{StepError}
use Rattle.amqp_engine.specs.declared.engine.step_error.StepError.TheVariants as no
use Rattle.amqp_connection.specs.declared.error.ConnectionStateError.{ConnectionStateError}
use Rattle.amqp_connection.specs.declared.error.ConnectionStateError.TheVariants as state
use Rattle.amqp_connection.specs.States.{takes_close}
use Rattle.amqp_connection.specs.Connection.{ConnectionView, Holds, close_error, open_frame, close_frame}
use Rattle.amqp_connection.specs.History as connection
use Rattle.amqp_numbers.specs.Ranges.{Numbers}
use Rattle.amqp_engine.specs.EngineView.{EngineView}
use Rattle.amqp_engine.specs.Waits.{sent}
use Rattle.amqp_engine.specs.Calls.{Calls, state_refusal, session_refusal, link_refusal, request_calls, received_calls}
use Rattle.amqp_engine.specs.Sessions.{Untouched, Nothing, Called, Unknown, Does, IsOver, Without}
use Rattle.amqp_engine.specs.Entry.{Entry}
use Rattle.amqp_engine.specs.ByHistory.{close_reason, remote_reason}
use Rattle.amqp_engine.specs.Event.{Event, Quiet, SentOpen, SentClose, AcceptedOpen, CameClose, Began, Released, Forgot, Routed, Unrouted, event}
use Rattle.amqp_engine.specs.ByHistory.{remote_close_reason, limit_by, numbers_by}
use Rattle.amqp_engine.specs.Headline.{own_frames, asked_calls}
use Rattle.amqp_engine.proofs.BegunSessionLemmas.{some_none}

-- ---- the connection

-- the connection after the peer's Close
abbrev pub after_close : ConnectionView → CloseModel → ConnectionView
after_close v c = record v { state = unwrap_or (takes_close v.state) v.state; stop_reason = remote_close_reason (takes_close v.state) c.error v.stop_reason }

-- how the peer's Close is refused, by the state that it leads to, and whether the connection is then stopped
abbrev pub close_refusal : Option ConnectionState → Option ErrorModel → Option ConnectionStateError
close_refusal None error = Some state.IllegalState
close_refusal (Some s) error = close_error s error

abbrev pub stops : Option ConnectionState → Option ErrorModel → List connection.Entry
stops (Some at.CloseReceived) error = connection.Stop (remote_reason error) ∷ []
stops next error = []

abbrev pub close_calls : ConnectionView → CloseModel → List connection.Entry
close_calls v c = connection.IncomingClose c (close_refusal (takes_close v.state) c.error) ∷ stops (takes_close v.state) c.error

-- the calls of the connection by which an event happens
abbrev pub HappensBy : ConnectionView → Event → List connection.Entry → Type 0
HappensBy v Quiet calls = calls ≡ []
HappensBy v SentOpen calls = calls ≡ connection.SendOpen (Ok (open_frame v.local_open)) ∷ []
HappensBy v (SentClose error) calls = calls ≡ connection.SendClose error (Ok (close_frame error)) ∷ connection.Stop (close_reason error) ∷ []
HappensBy v (AcceptedOpen o) calls = calls ≡ connection.IncomingOpen o None ∷ []
HappensBy v (CameClose c) calls = calls ≡ close_calls v c
HappensBy v (Began n settings c) calls = calls ≡ connection.Allocate n (Ok c) ∷ []
HappensBy v (Released n) calls = (c : ℕ) × Holds v c n × (calls ≡ connection.Deallocate c true ∷ [])
HappensBy v (Forgot n) calls = calls ≡ []
HappensBy v (Routed c n) calls = (d : ℕ) × (map.get v.session_by_outgoing_channel d ≡ Some n) × (calls ≡ connection.IncomingBegin c (Some d) (Ok n) ∷ [])
HappensBy v (Unrouted c) calls = (n : ℕ) × (calls ≡ connection.IncomingEnd c (Ok n) ∷ [])

-- the event happens: these calls lead from the one view to the other
pub record Moved (v : ConnectionView) (ev : Event) (w : ConnectionView) : Type 0 where
  pub calls : List connection.Entry
  pub happens : HappensBy v ev calls
  pub chain : connection.Chain v calls w

pub quiet : (v w : ConnectionView) → w ≡ v → Moved v Quiet w
quiet v w e = record { calls = []; happens = refl; chain = e }

-- ---- the refusals of calls

abbrev pub IsPlain : Option StepError → Type 0
IsPlain None = Unit {0}
IsPlain (Some (no.SessionState e)) = Unit {0}
IsPlain (Some (no.Session e)) = Unit {0}
IsPlain (Some (no.AllocLink e)) = Unit {0}
IsPlain (Some e) = ⊥

abbrev pub Plain : {R : Type 0} → Calls R → Type 0
Plain asks = (s : SessionState) (cs : List (session.SessionCall _)) (r : Option StepError) → asks s cs r → IsPlain r

plain_state : {X : Type 0} (x : Result X SessionStateError) (r : Option StepError) → r ≡ state_refusal x → IsPlain r
plain_state (Ok x) r e = subst IsPlain (sym e) tt
plain_state (Err x) r e = subst IsPlain (sym e) tt

plain_session : {X : Type 0} (x : Result X SessionInnerError) (r : Option StepError) → r ≡ session_refusal x → IsPlain r
plain_session (Ok x) r e = subst IsPlain (sym e) tt
plain_session (Err x) r e = subst IsPlain (sym e) tt

plain_link : {X : Type 0} (x : Result X AllocLinkError) (r : Option StepError) → r ≡ link_refusal x → IsPlain r
plain_link (Ok x) r e = subst IsPlain (sym e) tt
plain_link (Err x) r e = subst IsPlain (sym e) tt

plain_none : (r : Option StepError) → r ≡ None → IsPlain r
plain_none r e = subst IsPlain (sym e) tt

pub request_plain : {R : Type 0} (i : Input R) → Plain {R = R} (request_calls i)
request_plain (input.End n error) s cs r a = plain_state a.0 r a.2
request_plain (input.AllocateLink n name relay) s cs r a = plain_link a.0 r a.2
request_plain (input.AllocateIncomingLink n name relay h) s cs r a = plain_link a.0 r a.2
request_plain (input.Attach n p) s cs r a = plain_none r a.2
request_plain (input.Detach n d expects_echo) s cs r a = plain_session a.0 r a.2
request_plain (input.Flow n l) s cs r a = plain_none r a.2
request_plain (input.Transfer n h t payload first) s cs r a = plain_session a.0 r a.2
request_plain (input.Disposition n d) s cs r a = plain_none r a.3
request_plain (input.Settle n role first last) s cs r a = plain_none r a.2
request_plain (input.Stop n reason) s cs r a = plain_none r a.1
request_plain (input.Begin n settings) s cs r a = plain_none r a.2
request_plain i s cs r a = absurd a

pub received_plain : {R : Type 0} (c : ℕ) (b : FrameBody) → Plain {R = R} (received_calls c b)
received_plain c (body.Begin p) s cs r a = plain_state a.0 r a.2
received_plain c (body.End p) s cs r a = plain_state a.0 r a.2
received_plain c (body.Attach p) s cs r a = plain_session a.1 r a.3
received_plain c (body.Detach p) s cs r a = plain_session a.1 r a.4
received_plain c (body.Disposition p) s cs r a = plain_session a.1 r a.5
received_plain c (body.Flow p) s cs r a = plain_session a.1 r a.3
received_plain c (body.Transfer p payload) s cs r a = plain_session a.1 r a.4
received_plain c b s cs r a = absurd a

-- ---- the sessions

-- no session has a call, and none comes or goes
pub record Stays {R : Type 0} (v : EngineView R) (e : Entry R) (w : EngineView R) : Type 0 where
  pub sessions_is : w.sessions ≡ v.sessions
  pub no_calls : e.calls ≡ []
  pub none_reached : (e.reached ≡ None) ⊎ (e.refusal ≡ Some no.NoSession)

pub record Changes {R : Type 0} (g : Relays R) (v : EngineView R) (e : Entry R) (w : EngineView R) : Type 0 where
  pub number : ℕ
  pub before : SessionView R
  pub after : SessionView R
  pub reached_is : e.reached ≡ Some number
  pub known : lookup (nat_eq number) v.sessions ≡ Some before
  pub asked : asked_calls e.input e.received before.state e.calls e.refusal
  pub plain : IsPlain e.refusal
  pub chain : session.SessionChain g before e.calls after
  pub put : w.sessions ≡ set_value (nat_eq number) v.sessions after

pub record Begins {R : Type 0} (g : Relays R) (v : EngineView R) (e : Entry R) (w : EngineView R) : Type 0 where
  pub number : ℕ
  pub settings : SettingsModel
  pub channel : ℕ
  pub after : SessionView R
  pub event_is : event e ≡ Began number settings channel
  pub accepted : e.refusal ≡ None
  pub reached_is : e.reached ≡ Some number
  pub absent : lookup (nat_eq number) v.sessions ≡ None
  pub unused : map.get v.forgotten number ≡ None
  pub fits : settings.next_outgoing_id < 2 ^ 32
  pub asked : asked_calls e.input e.received Unmapped e.calls e.refusal
  pub chain : session.SessionChain g (new_session v.connection.hash settings channel Unmapped v.connection.stop_reason) e.calls after
  pub sessions_is : w.sessions ≡ v.sessions ++ (number, after) ∷ []

pub record Forgets {R : Type 0} (v : EngineView R) (e : Entry R) (w : EngineView R) : Type 0 where
  pub number : ℕ
  pub before : SessionView R
  pub event_is : event e ≡ Forgot number
  pub accepted : e.refusal ≡ None
  pub unreached : e.reached ≡ None
  pub no_calls : e.calls ≡ []
  pub known : lookup (nat_eq number) v.sessions ≡ Some before
  pub over : IsOver v number before
  pub without : Without number v.sessions w.sessions

-- an event by which no session comes or goes
abbrev pub NoneMoves : Event → Type 0
NoneMoves (Began n settings c) = ⊥
NoneMoves (Forgot n) = ⊥
NoneMoves ev = Unit {0}

abbrev pub Effect : {R : Type 0} → Relays R → EngineView R → Entry R → EngineView R → Type 0
Effect g v e w = (NoneMoves (event e) × (Stays v e w ⊎ Changes g v e w)) ⊎ (Begins g v e w ⊎ Forgets v e w)

-- then no number is used up
same_numbers : (ev : Event) (old : Numbers) → NoneMoves ev → numbers_by ev old ≡ old
same_numbers (Forgot n) old m = absurd m
same_numbers ev old m = refl

-- ---- a step that carries its input out

pub record Deed {R : Type 0} (g : Relays R) (v : EngineView R) (e : Entry R) (w : EngineView R) : Type 0 where
  pub taken : ¬ (e.refusal ≡ Some no.OutputWaiting)
  pub moved : Moved v.connection (event e) w.connection
  pub effect : Effect g v e w
  pub forgotten_is : w.forgotten ≡ numbers_by (event e) v.forgotten
  pub limit_is : w.limit ≡ limit_by v.limit (event e)
  pub frames_are : e.frames ≡ own_frames v.connection.local_open (event e) ++ sent (calls_frames e.calls)
  pub session_frames : (n : ℕ) → e.reached ≡ Some n → e.frames ≡ sent (calls_frames e.calls)

-- ---- with the event named

-- what a step does that has no call
pub record Alone {R : Type 0} (v : EngineView R) (ev : Event) (frames : List Frame) (w : EngineView R) : Type 0 where
  pub moved : Moved v.connection ev w.connection
  pub none_moves : NoneMoves ev
  pub sessions_is : w.sessions ≡ v.sessions
  pub forgotten_is : w.forgotten ≡ v.forgotten
  pub limit_is : w.limit ≡ limit_by v.limit ev
  pub frames_are : frames ≡ own_frames v.connection.local_open ev

append-nil : {X : Type 0} (xs : List X) → xs ++ [] ≡ xs
append-nil [] = refl
append-nil (x ∷ xs) = ap (λ ys. x ∷ ys) (append-nil xs)

pub alone : {R : Type 0} (g : Relays R) (v w : EngineView R) (e : Entry R) (ev : Event) → event e ≡ ev → ¬ (e.refusal ≡ Some no.OutputWaiting) → Untouched e.reached e.calls → Alone v ev e.frames w → Deed g v e w
alone g v w e ev is taken u a = record {
  taken = taken;
  moved = subst (λ x. Moved v.connection x w.connection) (sym is) a.moved;
  effect = inl (subst NoneMoves (sym is) a.none_moves, inl (record { sessions_is = a.sessions_is; no_calls = u.1; none_reached = inl u.0 }));
  forgotten_is = a.forgotten_is ∙ sym (same_numbers ev v.forgotten a.none_moves) ∙ ap (λ x. numbers_by x v.forgotten) (sym is);
  limit_is = a.limit_is ∙ ap (limit_by v.limit) (sym is);
  frames_are = a.frames_are ∙ ap (own_frames v.connection.local_open) (sym is) ∙ sym (append-nil (own_frames v.connection.local_open (event e)))
      ∙ sym (ap (λ (cs : List (session.SessionCall _)). own_frames v.connection.local_open (event e) ++ sent (calls_frames cs)) u.1);
  session_frames = λ n r. absurd (some_none (sym r ∙ u.0));
}

pub same_engine : {R : Type 0} (v w : EngineView R) (frames : List Frame) → w ≡ v → frames ≡ [] → Alone v Quiet frames w
same_engine v w frames e none = record {
  moved = quiet v.connection w.connection (ap (λ (x : EngineView _). x.connection) e);
  none_moves = tt;
  sessions_is = ap (λ (x : EngineView _). x.sessions) e;
  forgotten_is = ap (λ (x : EngineView _). x.forgotten) e;
  limit_is = ap (λ (x : EngineView _). x.limit) e;
  frames_are = none;
}

-- the connection alone moves, and nothing goes out
pub one_moved : {R : Type 0} (v w : EngineView R) (k : ConnectionView) (ev : Event) (frames : List Frame) → w ≡ record v { connection = k } → Moved v.connection ev k → NoneMoves ev → limit_by v.limit ev ≡ v.limit →
    own_frames v.connection.local_open ev ≡ [] → frames ≡ [] → Alone v ev frames w
one_moved v w k ev frames e m n l o none = record {
  moved = subst (λ x. Moved v.connection ev x) (sym (ap (λ (x : EngineView _). x.connection) e)) m;
  none_moves = n;
  sessions_is = ap (λ (x : EngineView _). x.sessions) e;
  forgotten_is = ap (λ (x : EngineView _). x.forgotten) e;
  limit_is = ap (λ (x : EngineView _). x.limit) e ∙ sym l;
  frames_are = none ∙ sym o;
}

pub at_connection : {R : Type 0} (v w : EngineView R) (k : ConnectionView) → w ≡ record v { connection = k } → k ≡ v.connection → w ≡ v
at_connection v w k e same = e ∙ ap (λ x. record v { connection = x }) same

-- a refusal that changes nothing
pub refuses : {R : Type 0} (g : Relays R) (v w : EngineView R) (e : Entry R) → event e ≡ Quiet → ¬ (e.refusal ≡ Some no.OutputWaiting) → v.waiting ≡ [] → e.frames ≡ w.waiting → Nothing v e.reached e.calls w → Deed g v e w
refuses g v w e is taken idle fe n = alone g v w e Quiet is taken n.0 (same_engine v w e.frames n.1 (fe ∙ ap (λ (x : EngineView _). x.waiting) n.1 ∙ idle))

-- ---- calls of one session

-- the session is called, where the connection moved to k
pub calls_one : {R : Type 0} (g : Relays R) (v w : EngineView R) (k : ConnectionView) (e : Entry R) (ev : Event) (n : ℕ) (asks : Calls R) → event e ≡ ev → Moved v.connection ev k → NoneMoves ev → limit_by v.limit ev ≡ v.limit →
    own_frames v.connection.local_open ev ≡ [] → Plain asks → ((s : SessionState) → asks s e.calls e.refusal → asked_calls e.input e.received s e.calls e.refusal) → e.reached ≡ Some n → e.frames ≡ w.waiting → Called g (record v { connection = k }) n asks e.calls e.refusal w → Deed g v e w
calls_one g v w k e ev n asks is m nb l o plain carry reached fe c = record {
  taken = by e.refusal (plain c.before.state e.calls e.refusal c.asked);
  moved = subst (λ x. Moved v.connection x w.connection) (sym is) (subst (λ x. Moved v.connection ev x) (sym (ap (λ (x : EngineView _). x.connection) c.put)) m);
  effect = inl (
    subst NoneMoves (sym is) nb,
    inr (record {
      number = n;
      before = c.before;
      after = c.after;
      reached_is = reached;
      known = c.known;
      asked = carry c.before.state c.asked;
      plain = plain c.before.state e.calls e.refusal c.asked;
      chain = c.steps;
      put = ap (λ (x : EngineView _). x.sessions) c.put;
    }),
  );
  forgotten_is = ap (λ (x : EngineView _). x.forgotten) c.put ∙ sym (same_numbers ev v.forgotten nb) ∙ ap (λ x. numbers_by x v.forgotten) (sym is);
  limit_is = ap (λ (x : EngineView _). x.limit) c.put ∙ sym l ∙ ap (limit_by v.limit) (sym is);
  frames_are = fe ∙ ap (λ (x : EngineView _). x.waiting) c.put ∙ sym (ap (λ (fs : List Frame). fs ++ sent (calls_frames e.calls)) (ap (own_frames v.connection.local_open) is ∙ o));
  session_frames = λ m r. fe ∙ ap (λ (x : EngineView _). x.waiting) c.put;
}
  where
    by : (r : Option StepError) → IsPlain r → ¬ (r ≡ Some no.OutputWaiting)
    by None p x = cc
    by (Some (no.SessionState y)) p x = cc
    by (Some (no.Session y)) p x = cc
    by (Some (no.AllocLink y)) p x = cc
    by (Some y) p x = absurd p

-- no session has the number
pub calls_none : {R : Type 0} (g : Relays R) (v w : EngineView R) (k : ConnectionView) (e : Entry R) (ev : Event) (n : ℕ) → event e ≡ ev → Moved v.connection ev k → NoneMoves ev → limit_by v.limit ev ≡ v.limit →
    own_frames v.connection.local_open ev ≡ [] → v.waiting ≡ [] → e.frames ≡ w.waiting → Unknown (record v { connection = k }) n e.calls e.refusal w → Deed g v e w
calls_none g v w k e ev n is m nb l o idle fe u =
    let none : e.frames ≡ [] = fe ∙ ap (λ (x : EngineView _). x.waiting) u.same ∙ idle in
    let own : own_frames v.connection.local_open (event e) ≡ [] = ap (own_frames v.connection.local_open) is ∙ o in
    record {
      taken = λ x. let y = sym u.refused ∙ x in cc;
      moved = subst (λ x. Moved v.connection x w.connection) (sym is) (subst (λ x. Moved v.connection ev x) (sym (ap (λ (x : EngineView _). x.connection) u.same)) m);
      effect = inl (subst NoneMoves (sym is) nb, inl (record { sessions_is = ap (λ (x : EngineView _). x.sessions) u.same; no_calls = u.no_calls; none_reached = inr u.refused }));
      forgotten_is = ap (λ (x : EngineView _). x.forgotten) u.same ∙ sym (same_numbers ev v.forgotten nb) ∙ ap (λ x. numbers_by x v.forgotten) (sym is);
      limit_is = ap (λ (x : EngineView _). x.limit) u.same ∙ sym l ∙ ap (limit_by v.limit) (sym is);
      frames_are = none ∙ sym (ap (λ (fs : List Frame). fs ++ sent (calls_frames e.calls)) own ∙ ap (λ (cs : List (session.SessionCall _)). sent (calls_frames cs)) u.no_calls);
      session_frames = λ m r. none ∙ sym (ap (λ (cs : List (session.SessionCall _)). sent (calls_frames cs)) u.no_calls);
    }

-- a request on a session
pub does : {R : Type 0} (g : Relays R) (v w : EngineView R) (e : Entry R) (n : ℕ) (asks : Calls R) → event e ≡ Quiet → Plain asks → ((s : SessionState) → asks s e.calls e.refusal → asked_calls e.input e.received s e.calls e.refusal) → v.waiting ≡ [] → e.frames ≡ w.waiting →
    Does g v n asks e.reached e.calls e.refusal w → Deed g v e w
does g v w e n asks is plain carry idle fe (inl s) = calls_one g v w v.connection e Quiet n asks is (quiet v.connection v.connection refl) tt refl refl plain carry s.0 fe s.1
does g v w e n asks is plain carry idle fe (inr s) = calls_none g v w v.connection e Quiet n is (quiet v.connection v.connection refl) tt refl refl idle fe s.1
