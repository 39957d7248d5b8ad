-- Part: every call exactly; inner.
-- What requests and received frames do with the session that they reach: its calls, what is answered, and the frames that
-- wait then.
use Rattle.std.specs.Prelude.{◌≡◌, ◌⊎◌, ◌<◌, ◌^◌, ℕ, List, [], ◌∷◌, ◌++◌, map, Option, Some, None, Result, Ok, Err, IsSome, nat_eq, Bool}
use Rattle.std.specs.Prelude.{true, false}
use Rattle.std.specs.Map.{lookup, set_value}
use Rattle.std.specs.FinMap.{get, insert}
use Rattle.amqp_memory.specs.Refusal.{SomeRefused}
use Rattle.amqp_numbers.specs.Ranges.{IsAlone}
use Rattle.amqp_types.specs.declared.states.SessionState.{SessionState}
use Rattle.amqp_types.specs.declared.states.SessionState.TheVariants as at
use Rattle.amqp_session.specs.declared.frame.SessionFrame.{SessionFrame}
use Rattle.amqp_session.specs.declared.error.SessionStateError.{SessionStateError}
use Rattle.amqp_session.specs.declared.error.SessionStateError.TheVariants as unbegun
use Rattle.amqp_session.specs.declared.stop.SessionStopReason.{SessionStopReason}
use Rattle.amqp_frames.specs.declared.frame.Frame.{Frame}
use Rattle.amqp_session.specs.Relay.{Relays}
use Rattle.amqp_session.specs.Settings.{SettingsModel}
use Rattle.amqp_session.specs.declared.deliveries.WalkCount.{WalkCount}
use Rattle.amqp_session.specs.Session.{SessionView, SessionModel, new_session}
use Rattle.amqp_session.specs.Step.{StopStep, SendBeginStep}
use Rattle.amqp_session.specs.OutgoingFrames.{calls_frames}
use Rattle.amqp_session.specs.History as session
use Rattle.amqp_connection.specs.declared.error.ConnectionInnerError.{ConnectionInnerError}
use Rattle.amqp_engine.specs.declared.engine.step_error.StepError.{StepError}
use Rattle.amqp_engine.specs.declared.engine.step_error.StepError.TheVariants as no
use Rattle.amqp_connection.specs.Connection.{ConnectionView, AllocateStep, Holds, IsRouted, given_back, not_found}
use Rattle.amqp_engine.specs.EngineView.{EngineView}
use Rattle.amqp_engine.specs.Waits.{sent, disposition_frame}
use Rattle.amqp_engine.specs.Calls.{Calls, SentEach, by_one, unrefused}
use Rattle.amqp_types.specs.Disposition.{DispositionModel}

-- ---- one session

abbrev pub RecordedEnd : {R : Type 0} → SessionView R → SessionStopReason → Bool → SessionView R → Type 0
RecordedEnd v reason true w = StopStep v reason w
RecordedEnd v reason false w = w ≡ v

-- the peer's End moved the state from the one to the other: this side sent none before
abbrev pub comes_to_end : SessionState → SessionState → Bool
comes_to_end at.EndReceived after = false
comes_to_end before at.EndReceived = true
comes_to_end before after = false

-- The session was asked, made these calls, and answered. What it handed out waits.
pub record Answered {R : Type 0} (g : Relays R) (v : SessionView R) (asks : Calls R) (refusal : Option StepError)
    (waiting : List Frame) (w : SessionView R) : Type 0 where
  pub calls : List (session.SessionCall R)
  pub asked : asks v.state calls refusal
  pub steps : session.SessionChain g v calls w
  pub handed_out : waiting ≡ sent (calls_frames calls)

-- Each disposition goes out, in order; the session's channel stays, and each frame is on it.
abbrev pub SendsAll : {R : Type 0} → Relays R → SessionView R → List DispositionModel → SessionView R → Type 0
SendsAll {R} g v ds w = (calls : List (session.SessionCall R)) × SentEach ds calls × session.SessionChain g v calls w
    × (calls_frames calls ≡ map (disposition_frame v.outgoing_channel) ds) × (w.outgoing_channel ≡ v.outgoing_channel)

-- ---- one session, among those of an engine

-- Session n made these calls, and went on to another view and another walk; all else stayed. What it handed out waits.
pub record Called {R : Type 0} (g : Relays R) (v : EngineView R) (n : ℕ) (asks : Calls R) (calls : List (session.SessionCall R))
    (refusal : Option StepError) (w : EngineView R) : Type 0 where
  pub before : SessionView R
  pub after : SessionView R
  pub walk : WalkCount
  pub known : lookup (nat_eq n) v.sessions ≡ Some before
  pub asked : asks before.state calls refusal
  pub steps : session.SessionChain g before calls after
  pub put : w ≡ record v {
    sessions = set_value (nat_eq n) v.sessions after;
    walks = set_value (nat_eq n) v.walks walk;
    waiting = sent (calls_frames calls);
  }

-- no session has the number
pub record Unknown {R : Type 0} (v : EngineView R) (n : ℕ) (calls : List (session.SessionCall R)) (refusal : Option StepError)
    (w : EngineView R) : Type 0 where
  pub unknown : lookup (nat_eq n) v.sessions ≡ None
  pub no_calls : calls ≡ []
  pub refused : refusal ≡ Some no.NoSession
  pub same : w ≡ v

-- A request names session n: it reaches it, if there is one.
abbrev pub Does : {R : Type 0} → Relays R → EngineView R → ℕ → Calls R → Option ℕ → List (session.SessionCall R) → Option StepError →
    EngineView R → Type 0
Does g v n asks reached calls refusal w =
    ((reached ≡ Some n) × Called g v n asks calls refusal w) ⊎ ((reached ≡ None) × Unknown v n calls refusal w)

-- the same, of the session that an input names; one that names none asks nothing of a session
abbrev pub DoesNamed : {R : Type 0} → Relays R → EngineView R → Option ℕ → Calls R → Option ℕ → List (session.SessionCall R) →
    Option StepError → EngineView R → Type 0
DoesNamed g v (Some n) asks reached calls refusal w = Does g v n asks reached calls refusal w
DoesNamed g v None asks reached calls refusal w = ⊥

-- A frame reaches the session that the connection finds, or the connection says why there is none.
abbrev pub Reaches : {R : Type 0} → Relays R → (Result ℕ ConnectionInnerError → ConnectionView → Type 0) → EngineView R →
    Calls R → Option ℕ → List (session.SessionCall R) → Option StepError → EngineView R → Type 0
Reaches g finds v asks reached calls refusal w =
    ((e : ConnectionInnerError) × (k : ConnectionView) × finds (Err e) k × (reached ≡ None) × (calls ≡ [])
    × (refusal ≡ Some (no.Connection e)) × (w ≡ record v { connection = k }))
    ⊎ ((n : ℕ) × (k : ConnectionView) × finds (Ok n) k × (reached ≡ Some n)
    × (Called g (record v { connection = k }) n asks calls refusal w ⊎ Unknown (record v { connection = k }) n calls refusal w))

-- ---- a session comes, and gives its channel back

-- A session that was not there is made on the channel that the connection gave, with the connection's hash, and sends its Begin.
pub record Begun {R : Type 0} (g : Relays R) (v : EngineView R) (n : ℕ) (settings : SettingsModel) (calls : List (session.SessionCall R))
    (w : EngineView R) : Type 0 where
  pub channel : ℕ
  pub connection : ConnectionView
  pub after : SessionView R
  pub walk : WalkCount
  pub unknown : lookup (nat_eq n) v.sessions ≡ None
  pub unused : get v.forgotten n ≡ None
  pub fits : settings.next_outgoing_id < 2 ^ 32
  pub allocated : AllocateStep v.connection n (Ok channel) connection
  pub asked : by_one (λ f. session.SendsBegin (Ok f) ∷ []) unrefused at.Unmapped calls None
  pub steps : session.SessionChain g (new_session v.connection.hash settings channel at.Unmapped v.connection.stop_reason) calls after
  pub put : w ≡ record v {
    connection = connection;
    sessions = v.sessions ++ (n, after) ∷ [];
    walks = v.walks ++ (n, walk) ∷ [];
    waiting = sent (calls_frames calls);
  }

-- a new session sends its Begin, or memory was refused
abbrev pub BegunStep : {R : Type 0} → SessionView R → Result (SessionModel R × SessionFrame) SessionStateError → Type 0
BegunStep new (Ok p) = SendBeginStep new (Ok p.1) p.0.view
BegunStep new (Err e) = (e ≡ unbegun.OutOfMemory) × SomeRefused

-- no session is reached, and none is called
abbrev pub Untouched : {R : Type 0} → Option ℕ → List (session.SessionCall R) → Type 0
Untouched reached calls = (reached ≡ None) × (calls ≡ [])

-- A refusal: no session is reached, and nothing changes.
abbrev pub Nothing : {R : Type 0} → EngineView R → Option ℕ → List (session.SessionCall R) → EngineView R → Type 0
Nothing v reached calls w = Untouched reached calls × (w ≡ v)

-- A number is used for one session: of those that are there, and of those that were forgotten.
abbrev pub IsUsed : {R : Type 0} → EngineView R → ℕ → Type 0
IsUsed v n = IsSome (lookup (nat_eq n) v.sessions) ⊎ IsSome (get v.forgotten n)

abbrev pub IsFresh : {R : Type 0} → EngineView R → ℕ → Type 0
IsFresh v n = (lookup (nat_eq n) v.sessions ≡ None) × (get v.forgotten n ≡ None)

abbrev pub Used : {R : Type 0} → EngineView R → ℕ → Bool → Type 0
Used v n true = IsUsed v n
Used v n false = IsFresh v n

abbrev pub BeginRequest : {R : Type 0} → Relays R → EngineView R → ℕ → SettingsModel → Option ℕ → List (session.SessionCall R) →
    Option StepError → EngineView R → Type 0
BeginRequest g v n settings reached calls None w = (reached ≡ Some n) × Begun g v n settings calls w
BeginRequest g v n settings reached calls (Some no.SessionInUse) w = Nothing v reached calls w × IsUsed v n
BeginRequest g v n settings reached calls (Some (no.AllocSession e)) w =
    Nothing v reached calls w × IsFresh v n × AllocateStep v.connection n (Err e) v.connection
BeginRequest g v n settings reached calls (Some (no.SessionState unbegun.OutOfMemory)) w =
    Nothing v reached calls w × IsFresh v n × ((c : ℕ) × (k : ConnectionView) × AllocateStep v.connection n (Ok c) k)
    × SomeRefused
BeginRequest g v n settings reached calls (Some no.OutOfMemory) w = Nothing v reached calls w × IsFresh v n × SomeRefused
BeginRequest g v n settings reached calls (Some e) w = ⊥

-- The channel of session n is given back, where it still holds it. Its route stays, and so does the session.
abbrev pub ReleaseRequest : {R : Type 0} → EngineView R → ℕ → Option ℕ → List (session.SessionCall R) → Option StepError → EngineView R → Type 0
ReleaseRequest v n reached calls None w = Untouched reached calls
    × ((s : SessionView _) × (lookup (nat_eq n) v.sessions ≡ Some s) × Holds v.connection s.outgoing_channel n
    × (w ≡ record v { connection = given_back v.connection s.outgoing_channel }))
ReleaseRequest v n reached calls (Some no.NoSession) w = Nothing v reached calls w × (lookup (nat_eq n) v.sessions ≡ None)
ReleaseRequest v n reached calls (Some (no.Connection e)) w = Nothing v reached calls w × (e ≡ not_found)
    × ((s : SessionView _) × (lookup (nat_eq n) v.sessions ≡ Some s) × ¬ (Holds v.connection s.outgoing_channel n))
ReleaseRequest v n reached calls (Some e) w = ⊥

-- ---- a session is let go

-- Both Ends were exchanged, and no handle's wish for one is noted.
pub record HasEnded {R : Type 0} (v : EngineView R) (n : ℕ) (s : SessionView R) : Type 0 where
  pub unmapped : s.state ≡ at.Unmapped
  pub unwished : get v.wishes.ends n ≡ None

-- A session is over: it has ended, it has given its channel back, and no channel of the peer's leads to it.
pub record IsOver {R : Type 0} (v : EngineView R) (n : ℕ) (s : SessionView R) : Type 0 where
  pub ended : HasEnded v n s
  pub gave_back : ¬ (Holds v.connection s.outgoing_channel n)
  pub unrouted : IsRouted v.connection n false

-- what stood under the number is gone, and all else is there as before
pub record Without {X : Type 0} (n : ℕ) (old new : List (ℕ × X)) : Type 0 where
  pub gone : lookup (nat_eq n) new ≡ None
  pub others : (k : ℕ) → nat_eq n k ≡ false → lookup (nat_eq k) new ≡ lookup (nat_eq k) old

-- Session n goes with all that it holds, and its number is used up.
pub record LetsGo {R : Type 0} (v : EngineView R) (n : ℕ) (w : EngineView R) : Type 0 where
  pub sessions : Without n v.sessions w.sessions
  pub walks : Without n v.walks w.walks
  pub put : w ≡ record v { sessions = w.sessions; walks = w.walks; forgotten = insert v.forgotten n true }

abbrev pub IsIn : {R : Type 0} → EngineView R → ℕ → (SessionView R → Type 0) → Type 0
IsIn v n P = (s : SessionView _) × (lookup (nat_eq n) v.sessions ≡ Some s) × P s

-- Whether session n is over, or why it is not: no session has the number; it has not ended, or its End is wished; or else it holds its
-- channel, or frames can reach it.
abbrev pub Over : {R : Type 0} → EngineView R → ℕ → Option StepError → Type 0
Over v n None = IsIn v n (IsOver v n)
Over v n (Some no.NoSession) = lookup (nat_eq n) v.sessions ≡ None
Over v n (Some (no.SessionState e)) = (e ≡ unbegun.IllegalState) × IsIn v n (λ s. ¬ (s.state ≡ at.Unmapped) ⊎ IsSome (get v.wishes.ends n))
Over v n (Some no.SessionInUse) =
    IsIn v n (λ s. HasEnded v n s × (Holds v.connection s.outgoing_channel n ⊎ IsRouted v.connection n true))
Over v n (Some e) = ⊥

-- A session that is over is let go. Memory may be refused for its number, where neither of the numbers beside it was forgotten.
abbrev pub ForgetRequest : {R : Type 0} → EngineView R → ℕ → Option ℕ → List (session.SessionCall R) → Option StepError → EngineView R → Type 0
ForgetRequest v n reached calls None w = Untouched reached calls × Over v n None × LetsGo v n w
ForgetRequest v n reached calls (Some no.OutOfMemory) w = Nothing v reached calls w × Over v n None × IsAlone v.forgotten n × SomeRefused
ForgetRequest v n reached calls (Some e) w = Nothing v reached calls w × Over v n (Some e)
