-- Part: every call exactly; other calls; inner.
-- What a step of an engine does.
use Rattle.std.specs.Prelude.{◌≡◌, ◌⊎◌, ℕ, List, [], ◌∷◌, Option, Some, None, IsSome, Result, Ok, Err}
use Rattle.std.specs.Option.{option_map}
use Rattle.amqp_memory.specs.Refusal.{SomeRefused}
use Rattle.amqp_types.specs.declared.performatives.kind.Kind.{Kind}
use Rattle.amqp_types.specs.declared.states.ConnectionState.{ConnectionState}
use Rattle.amqp_types.specs.declared.states.ConnectionState.TheVariants.{CloseReceived}
use Rattle.amqp_types.specs.Error.{ErrorModel}
use Rattle.amqp_types.specs.Open.{OpenModel}
use Rattle.amqp_types.specs.Close.{CloseModel}
use Rattle.amqp_session.specs.declared.stop.ConnectionStopReason.{ConnectionStopReason}
use Rattle.amqp_session.specs.Relay.{Relays}
use Rattle.amqp_session.specs.History as session
use Rattle.amqp_frames.specs.declared.frame.Frame.{Frame}
use Rattle.amqp_frames.specs.declared.frame.FrameBody.{FrameBody}
use Rattle.amqp_frames.specs.declared.frame.FrameBody.TheVariants as body
use Rattle.amqp_frames.specs.Frame.{IsFrame, Decodes}
use Rattle.amqp_frames.specs.Head.{IsBodyOf, NoBodyOf}
use Rattle.amqp_connection.specs.declared.error.ConnectionStateError.{ConnectionStateError}
use Rattle.amqp_connection.specs.declared.error.ConnectionInnerError.{ConnectionInnerError}
use Rattle.amqp_engine.specs.declared.engine.input.Input.{Input}
use Rattle.amqp_engine.specs.declared.engine.input.Input.TheVariants as input
use Rattle.amqp_engine.specs.declared.engine.step_error.StepError.{StepError}
use Rattle.amqp_engine.specs.declared.engine.step_error.StepError.TheVariants as no
use Rattle.amqp_connection.specs.States.{takes_close}
use Rattle.amqp_connection.specs.Connection.{ConnectionView, stopped, SendOpenStep, SendCloseStep, IncomingOpenStep, IncomingCloseStep}
use Rattle.amqp_connection.specs.Connection.{BeginRouteStep, EndRouteStep, RouteStep}
use Rattle.amqp_engine.specs.Kept.{outcomes_by, outcomes_without}
use Rattle.amqp_engine.specs.EngineView.{EngineView, peer_limit}
use Rattle.amqp_engine.specs.Entry.{Entry}
use Rattle.amqp_engine.specs.ByHistory.{close_reason, remote_reason}
use Rattle.amqp_engine.specs.Calls.{names, request_calls, received_calls}
use Rattle.amqp_engine.specs.Sessions.{Untouched, Nothing, DoesNamed, Reaches, BeginRequest, ReleaseRequest, ForgetRequest}

-- ---- requests of the connection

abbrev pub OpenRequest : {R : Type 0} → EngineView R → Option StepError → EngineView R → Type 0
OpenRequest v None w =
    (f : Frame) × (k : ConnectionView) × SendOpenStep v.connection (Ok f) k × (w ≡ record v { connection = k; waiting = f ∷ [] })
OpenRequest v (Some (no.ConnectionState e)) w =
    (k : ConnectionView) × SendOpenStep v.connection (Err e) k × (w ≡ record v { connection = k })
OpenRequest v (Some e) w = ⊥

abbrev pub CloseRequest : {R : Type 0} → EngineView R → Option ErrorModel → Option StepError → EngineView R → Type 0
CloseRequest v error None w =
    (f : Frame) × (k : ConnectionView) × SendCloseStep v.connection error (Ok f) k
    × (w ≡ record v { connection = stopped k (close_reason error); waiting = f ∷ [] })
CloseRequest v error (Some (no.ConnectionState e)) w =
    (k : ConnectionView) × SendCloseStep v.connection error (Err e) k × (w ≡ record v { connection = k })
CloseRequest v error (Some e) w = ⊥

-- ---- received frames of the connection

abbrev pub ReceivedOpen : {R : Type 0} → EngineView R → OpenModel → Option StepError → EngineView R → Type 0
ReceivedOpen v o None w =
    (k : ConnectionView) × IncomingOpenStep v.connection o None k × (w ≡ record v { connection = k; limit = peer_limit o })
ReceivedOpen v o (Some (no.ConnectionState e)) w =
    (k : ConnectionView) × IncomingOpenStep v.connection o (Some e) k × (w ≡ record v { connection = k })
ReceivedOpen v o (Some e) w = ⊥

-- a move to CloseReceived records how the peer closed
abbrev pub recorded : Option ConnectionState → ConnectionStopReason → ConnectionView → ConnectionView
recorded None r k = k
recorded (Some CloseReceived) r k = stopped k r
recorded (Some s) r k = k

-- the state that a call of the connection moved to; none where that is how it stood after a Close before
abbrev pub moved : ConnectionState → ConnectionState → Option ConnectionState
moved CloseReceived after = None
moved before after = Some after

abbrev pub ReceivedCloseStep : ConnectionView → CloseModel → Option ConnectionStateError → ConnectionView → Type 0
ReceivedCloseStep v c refusal w =
    (k : ConnectionView) × IncomingCloseStep v c refusal k × (w ≡ recorded (takes_close v.state) (remote_reason c.error) k)

abbrev pub ReceivedClose : {R : Type 0} → EngineView R → CloseModel → Option StepError → EngineView R → Type 0
ReceivedClose v c refusal w = (error : Option ConnectionStateError) × (k : ConnectionView) × ReceivedCloseStep v.connection c error k
    × (refusal ≡ option_map (λ e. no.ConnectionState e) error) × (w ≡ record v { connection = k })

-- ---- received frames of sessions

-- how the connection finds the session of a frame on this channel
abbrev pub Finds : ConnectionView → ℕ → FrameBody → Result ℕ ConnectionInnerError → ConnectionView → Type 0
Finds v c (body.Begin b) found w = BeginRouteStep v c b.remote_channel found w
Finds v c (body.End e) found w = EndRouteStep v c found w
Finds v c b found w = RouteStep v c found w

-- ---- received frames

abbrev pub ReceivedFrame : {R : Type 0} → Relays R → EngineView R → ℕ → FrameBody → Option ℕ → List (session.SessionCall R) →
    Option StepError → EngineView R → Type 0
ReceivedFrame g v c body.Empty reached calls refusal w = Nothing v reached calls w × (refusal ≡ None)
ReceivedFrame g v c (body.Open o) reached calls refusal w = Untouched reached calls × ReceivedOpen v o refusal w
ReceivedFrame g v c (body.Close p) reached calls refusal w = Untouched reached calls × ReceivedClose v p refusal w
ReceivedFrame g v c b reached calls refusal w = Reaches g (Finds v.connection c b) v (received_calls c b) reached calls refusal w

-- the errors that a Close or an End names: of these the engine keeps a copy for handles
abbrev pub named_error : FrameBody → Option ErrorModel
named_error (body.Close c) = c.error
named_error (body.End e) = e.error
named_error b = None

-- Why no body was received: the fields of this kind are not there, or memory was refused for the copy of an error.
abbrev pub NoneReceivedOf : Option Kind → List ℕ → Option StepError → Type 0
NoneReceivedOf k fields (Some (no.Frame e)) = NoBodyOf k fields e
NoneReceivedOf k fields (Some no.OutOfMemory) =
    (b : FrameBody) × (rest : List ℕ) × IsBodyOf k b fields rest × IsSome (named_error b) × SomeRefused
NoneReceivedOf k fields refusal = ⊥

-- why no frame was received
abbrev pub NoneReceived : List ℕ → Option StepError → Type 0
NoneReceived bytes (Some (no.Frame e)) = Decodes bytes (Err e)
NoneReceived bytes (Some no.OutOfMemory) = (f : Frame) × (rest : List ℕ) × IsFrame f bytes rest × IsSome (named_error f.body) × SomeRefused
NoneReceived bytes refusal = ⊥

-- The fields of this kind say no body that was received, or they say one.
abbrev pub ReceivedOf : {R : Type 0} → Relays R → EngineView R → ℕ → Option Kind → List ℕ → Option Frame → Option ℕ →
    List (session.SessionCall R) → Option StepError → EngineView R → Type 0
ReceivedOf g v c k fields received reached calls refusal w =
    (NoneReceivedOf k fields refusal × (received ≡ None) × Nothing v reached calls w)
    ⊎ ((b : FrameBody) × (rest : List ℕ) × IsBodyOf k b fields rest × (received ≡ Some (record { channel = c; body = b }))
    × ReceivedFrame g v c b reached calls refusal w)

-- The bytes hold no frame that was received, or they hold one.
abbrev pub Received : {R : Type 0} → Relays R → EngineView R → List ℕ → Option Frame → Option ℕ → List (session.SessionCall R) →
    Option StepError → EngineView R → Type 0
Received g v bytes received reached calls refusal w =
    (NoneReceived bytes refusal × (received ≡ None) × Nothing v reached calls w)
    ⊎ ((f : Frame) × (rest : List ℕ) × IsFrame f bytes rest × (received ≡ Some f)
    × ReceivedFrame g v f.channel f.body reached calls refusal w)

-- what is left of that by this input: where it forgets a session, the outcome of that is let go
abbrev pub left : {R : Type 0} → Input R → Option StepError → EngineView R → EngineView R
left i refusal m = record m { outcomes = outcomes_without i refusal m.outcomes }

-- some body stands in the fields and is received, or none stands there
abbrev pub FieldsStep : {R : Type 0} → Relays R → EngineView R → ℕ → Option Kind → List ℕ → Option StepError → EngineView R → Type 0
FieldsStep g v c k fields refusal w =
    (received : Option Frame) × (reached : Option ℕ) × (calls : List (session.SessionCall _))
    × ReceivedOf g v c k fields received reached calls refusal w

-- what is kept of an answer, beside what was done
abbrev pub kept : {R : Type 0} → Option Frame → Option ℕ → Option StepError → EngineView R → EngineView R
kept received reached refusal m = record m { outcomes = outcomes_by received reached refusal m.outcomes }

-- so it is, and the outcome is kept
abbrev pub FieldsKept : {R : Type 0} → Relays R → EngineView R → ℕ → Option Kind → List ℕ → Option StepError → EngineView R → Type 0
FieldsKept g v c k fields refusal w =
    (received : Option Frame) × (reached : Option ℕ) × (calls : List (session.SessionCall _)) × (m : EngineView _)
    × ReceivedOf g v c k fields received reached calls refusal m × (w ≡ kept received reached refusal m)

-- some frame stands in the bytes and is received, or none stands there; the outcome is kept
abbrev pub ReceivedStep : {R : Type 0} → Relays R → EngineView R → List ℕ → Option StepError → EngineView R → Type 0
ReceivedStep g v bytes refusal w =
    (received : Option Frame) × (reached : Option ℕ) × (calls : List (session.SessionCall _)) × (m : EngineView _)
    × Received g v bytes received reached calls refusal m × (w ≡ kept received reached refusal m)

-- ---- a step

abbrev pub InputStep : {R : Type 0} → Relays R → EngineView R → Input R → Option Frame → Option ℕ → List (session.SessionCall R) →
    Option StepError → EngineView R → Type 0
InputStep g v (input.Received bytes) received reached calls refusal w = Received g v bytes received reached calls refusal w
InputStep g v input.Open received reached calls refusal w = (received ≡ None) × Untouched reached calls × OpenRequest v refusal w
InputStep g v (input.Close error) received reached calls refusal w =
    (received ≡ None) × Untouched reached calls × CloseRequest v error refusal w
InputStep g v (input.Begin n settings) received reached calls refusal w =
    (received ≡ None) × BeginRequest g v n.0 settings reached calls refusal w
InputStep g v (input.Release n) received reached calls refusal w = (received ≡ None) × ReleaseRequest v n.0 reached calls refusal w
InputStep g v (input.Forget n) received reached calls refusal w = (received ≡ None) × ForgetRequest v n.0 reached calls refusal w
InputStep g v i received reached calls refusal w = (received ≡ None) × DoesNamed g v (names i) (request_calls i) reached calls refusal w

-- the input is carried out, and the outcome is kept
abbrev pub CarriedStep : {R : Type 0} → Relays R → EngineView R → Input R → Option StepError → EngineView R → Type 0
CarriedStep g v i refusal w =
    (received : Option Frame) × (reached : Option ℕ) × (calls : List (session.SessionCall _)) × (m : EngineView _)
    × InputStep g v i received reached calls refusal m × (w ≡ left i refusal (kept received reached refusal m))

-- what waits stops all else
abbrev pub WaitingStep : {R : Type 0} → EngineView R → Entry R → EngineView R → Type 0
WaitingStep v e w =
    ¬ (v.waiting ≡ []) × (e.refusal ≡ Some no.OutputWaiting) × (e.received ≡ None) × Nothing v e.reached e.calls w
    × (e.frames ≡ [])

-- Where nothing waits, the frames handed out are those that wait then. What is kept for handles stays.
abbrev pub Step : {R : Type 0} → Relays R → EngineView R → Entry R → EngineView R → Type 0
Step g v e w =
    WaitingStep v e w ⊎ ((v.waiting ≡ []) × (e.frames ≡ w.waiting) × InputStep g v e.input e.received e.reached e.calls e.refusal w)

-- then the outcome of the entry is kept
abbrev pub Keeps : {R : Type 0} → Entry R → EngineView R → EngineView R → Type 0
Keeps e m w = w ≡ left e.input e.refusal (kept e.received e.reached e.refusal m)

-- a step with this input and this refusal, and what is kept of it
pub record Steps {R : Type 0} (g : Relays R) (v : EngineView R) (i : Input R) (refusal : Option StepError) (w : EngineView R) : Type 0 where
  pub received : Option Frame
  pub reached : Option ℕ
  pub calls : List (session.SessionCall R)
  pub frames : List Frame
  pub done : EngineView R
  pub step : Step g v (record { input = i; received = received; reached = reached; calls = calls; refusal = refusal; frames = frames }) done
  pub keeps : w ≡ left i refusal (kept received reached refusal done)
