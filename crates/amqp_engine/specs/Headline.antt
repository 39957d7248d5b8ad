-- Part: the promise.
-- The headline: what holds of every history of an engine, said of the history alone.
use Rattle.std.specs.Prelude.{ℕ, ◌≡◌, ◌≤◌, List, [], ◌∷◌, ◌++◌, Option, Some, None, Err, flat_map}
use Rattle.amqp_memory.specs.Refusal.{SomeRefused}
use Rattle.amqp_types.specs.declared.states.ConnectionState.{ConnectionState}
use Rattle.amqp_types.specs.declared.states.ConnectionState.TheVariants.{HeaderExchange, Opened}
use Rattle.amqp_types.specs.Open.{OpenModel}
use Rattle.amqp_types.specs.Begin.{BeginModel}
use Rattle.amqp_frames.specs.declared.frame.Frame.{Frame}
use Rattle.amqp_frames.specs.declared.frame.FrameBody.{FrameBody}
use Rattle.amqp_frames.specs.declared.frame.FrameBody.TheVariants as body
use Rattle.amqp_frames.specs.Frame.{IsFrame, Decodes}
use Rattle.amqp_engine.specs.declared.engine.input.Input.{Input}
use Rattle.amqp_engine.specs.declared.engine.input.Input.TheVariants as input
use Rattle.amqp_engine.specs.declared.engine.step_error.StepError.{StepError}
use Rattle.amqp_engine.specs.declared.engine.step_error.StepError.TheVariants as no
use Rattle.amqp_connection.specs.declared.error.ConnectionInnerError.TheVariants as inner
use Rattle.amqp_session.specs.History as session
use Rattle.amqp_session.specs.Headline as single
use Rattle.amqp_session.specs.OutgoingFrames.{calls_frames}
use Rattle.amqp_connection.specs.Connection.{not_found, open_frame, close_frame}
use Rattle.amqp_connection.specs.ByHistory.{opens, closes}
use Rattle.amqp_engine.specs.Waits.{sent}
use Rattle.amqp_engine.specs.Calls.{Calls, names, request_calls, received_calls}
use Rattle.amqp_engine.specs.Entry.{Entry}
use Rattle.amqp_engine.specs.Event.{Event, SentOpen, SentClose, event}
use Rattle.amqp_engine.specs.ByHistory.{of_session, begun, live, session_state, state_from, route, held}

-- of each entry, with those before it
abbrev pub Each : {R : Type 0} → List (Entry R) → (List (Entry R) → Entry R → Type 0) → Type 0
Each H P = (before after : List (Entry _)) (e : Entry _) → H ≡ before ++ e ∷ after → P before e

-- ---- what was received

-- What was received is the frame that the bytes hold. Nothing was received where they hold none, or memory was refused
-- before: for the frame's fields, or for the engine's own room; or where output waited.
abbrev pub HasReceived : List ℕ → Option Frame → Option StepError → Type 0
HasReceived bytes (Some f) refusal = (rest : List ℕ) × IsFrame f bytes rest
HasReceived bytes None (Some (no.Frame e)) = Decodes bytes (Err e)
HasReceived bytes None (Some no.OutputWaiting) = Unit {0}
HasReceived bytes None (Some no.OutOfMemory) = SomeRefused
HasReceived bytes None refusal = ⊥

abbrev pub Receives : {R : Type 0} → Input R → Entry R → Type 0
Receives (input.Received bytes) e = HasReceived bytes e.received e.refusal
Receives i e = e.received ≡ None

-- ---- requests and frames reach their session

-- A request reaches the session that it names, where that was begun and not forgotten; else it is NoSession.
abbrev pub ReachesNamed : {R : Type 0} → Option session.Made → ℕ → Entry R → Type 0
ReachesNamed None n e = (e.reached ≡ None) × (e.refusal ≡ Some no.NoSession)
ReachesNamed (Some m) n e = (e.reached ≡ Some n) × ¬ (e.refusal ≡ Some no.NoSession)

-- so it is in every state of the connection, unless output waits, or memory is refused before
abbrev pub RequestsReach : {R : Type 0} → ConnectionState → List (Entry R) → Type 0
RequestsReach s H =
    Each H (λ before e. (n : ℕ) → names e.input ≡ Some n → ¬ (e.refusal ≡ Some no.OutputWaiting) → ¬ (e.refusal ≡ Some no.OutOfMemory) →
    ReachesNamed (live s n before) n e)

-- A frame goes along the route of its channel, and to no other session; without a route it is NotFound.
abbrev pub GoesAlong : {R : Type 0} → Option ℕ → Entry R → Type 0
GoesAlong None e = (e.reached ≡ None) × (e.refusal ≡ Some (no.Connection not_found))
GoesAlong (Some n) e = (e.reached ≡ Some n) × ¬ (e.refusal ≡ Some (no.Connection not_found))

-- an Attach, a Flow, a Transfer, a Disposition and a Detach go along in every state of the connection; an End in Opened alone
abbrev pub Passes : {R : Type 0} → FrameBody → ConnectionState → Option ℕ → Entry R → Type 0
Passes (body.Attach p) s route e = GoesAlong route e
Passes (body.Disposition p) s route e = GoesAlong route e
Passes (body.Detach p) s route e = GoesAlong route e
Passes (body.Flow p) s route e = GoesAlong route e
Passes (body.Transfer p payload) s route e = GoesAlong route e
Passes (body.End p) s route e =
    (s ≡ Opened → GoesAlong route e)
    × (¬ (s ≡ Opened) → (e.reached ≡ None) × (e.refusal ≡ Some (no.Connection inner.IllegalState)))
Passes b s route e = Unit {0}

-- so it is, unless memory is refused before
abbrev pub FramesReach : {R : Type 0} → ConnectionState → List (Entry R) → Type 0
FramesReach s H = Each H (λ before e. (f : Frame) → e.received ≡ Some f → ¬ (e.refusal ≡ Some no.OutOfMemory) →
    Passes f.body (state_from s before) (route f.channel before) e)

-- a Begin of the peer's reaches the session that holds the channel that it answers
abbrev pub RoutesFollow : {R : Type 0} → List (Entry R) → Type 0
RoutesFollow H =
    Each H (λ before e. (c : ℕ) (b : BeginModel) → e.received ≡ Some (record { channel = c; body = body.Begin b }) →
    (n : ℕ) → e.reached ≡ Some n →
    (d : ℕ) × (b.remote_channel ≡ Some d) × (held d before ≡ Some n))

-- where memory was refused before, no session is reached, and nothing goes out
abbrev pub OutOfMemoryIsInert : {R : Type 0} → List (Entry R) → Type 0
OutOfMemoryIsInert H = Each H (λ before e. e.refusal ≡ Some no.OutOfMemory → (e.reached ≡ None) × (e.frames ≡ []))

-- ---- an entry's calls are what its input asks, and its frames are theirs

abbrev pub asked_calls : {R : Type 0} → Input R → Option Frame → Calls R
asked_calls (input.Received bytes) (Some f) = received_calls f.channel f.body
asked_calls (input.Received bytes) None = λ s calls refusal. ⊥
asked_calls i received = request_calls i

-- An entry that reached a session made the calls of it that its input asks of the session in its state, and was refused as
-- they were. One that reached none made no call.
abbrev pub Asked : {R : Type 0} → List (Entry R) → Option ℕ → Entry R → Type 0
Asked before (Some n) e = ¬ (e.refusal ≡ Some no.NoSession) → asked_calls e.input e.received (session_state n before) e.calls e.refusal
Asked before None e = e.calls ≡ []

-- the frame of the connection itself
abbrev pub own_frames : OpenModel → Event → List Frame
own_frames o SentOpen = open_frame o ∷ []
own_frames o (SentClose error) = close_frame error ∷ []
own_frames o ev = []

-- each frame of a session is on its channel
abbrev pub AllOn : ℕ → List Frame → Type 0
AllOn channel [] = Unit {0}
AllOn channel (f ∷ fs) = (f.channel ≡ channel) × AllOn channel fs

abbrev pub OnItsChannel : {R : Type 0} → ConnectionState → List (Entry R) → Type 0
OnItsChannel s H = Each H (λ before e. (n : ℕ) (m : session.Made) → begun s n H ≡ Some m → e.reached ≡ Some n → AllOn m.channel e.frames)

-- ---- how many Opens and Closes were handed out

-- all frames that were handed out
abbrev pub handed : {R : Type 0} → List (Entry R) → List Frame
handed H = flat_map (λ e. e.frames) H

-- ---- the headline: of an engine whose connection began in state s, and is to send the Open o

pub record Headline {R : Type 0} (s : ConnectionState) (o : OpenModel) (H : List (Entry R)) : Type 0 where
  -- each session that was begun keeps its own headline: order, one number for each delivery, inside the window, waits only
  -- while it is used up
  pub each : (n : ℕ) (m : session.Made) → begun s n H ≡ Some m → single.Headline m (of_session n H)
  -- and no other session has any call
  pub unknown : (n : ℕ) → begun s n H ≡ None → of_session n H ≡ []
  -- what was received is what the bytes hold
  pub all_received : Each H (λ before e. Receives e.input e)
  -- requests reach the session that they name
  pub requests_reach : RequestsReach s H
  -- frames reach the last begun session of their channel
  pub frames_reach : FramesReach s H
  pub routes_follow : RoutesFollow H
  -- the session that a received frame reaches is there
  pub all_known : Each H (λ before e. (f : Frame) → e.received ≡ Some f → ¬ (e.refusal ≡ Some no.NoSession))
  pub ran_short : OutOfMemoryIsInert H
  -- no session holds two channels
  pub held_once : (c d n : ℕ) → held c H ≡ Some n → held d H ≡ Some n → c ≡ d
  -- what reaches a session is what is asked of it
  pub all_asked : Each H (λ before e. Asked before e.reached e)
  -- an entry hands out the connection's own frame, or those of its calls, and no others
  pub frames_are : Each H (λ before e. e.frames ≡ own_frames o (event e) ++ sent (calls_frames e.calls))
  pub on_its_channel : OnItsChannel s H
  -- where the headers were exchanged, at most one Open and one Close go out
  pub one_open : s ≡ HeaderExchange → opens (handed H) ≤ 1
  pub one_close : s ≡ HeaderExchange → closes (handed H) ≤ 1
