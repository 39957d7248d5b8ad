-- Part: other calls.
-- What a client tells of itself.
use Rattle.std.specs.Prelude.{◌≡◌, ◌⊎◌, ◌≤◌, ◌^◌, ◌∷◌, ◌++◌, [], ℕ, List, length, Option, Some, None, nat_eq}
use Rattle.std.specs.FinMap as map
use Rattle.std.specs.Int.{w32, to_be_bytes}
use Rattle.std.specs.Map.{lookup}
use Rattle.amqp_memory.specs.Refusal.{RefusedWithin}
use Rattle.amqp_types.specs.Error.{ErrorModel}
use Rattle.amqp_types.specs.Open.{OpenModel}
use Rattle.amqp_types.specs.Transfer.{TransferModel, widest}
use Rattle.amqp_types.specs.Performatives.{performative_text}
use Rattle.amqp_types.specs.declared.performatives.Performative.TheVariants as its
use Rattle.amqp_types.specs.declared.states.ConnectionState.{ConnectionState}
use Rattle.amqp_types.specs.declared.states.ConnectionState.TheVariants as state
use Rattle.amqp_types.specs.declared.states.SessionState.{SessionState}
use Rattle.amqp_types.specs.declared.states.SessionState.TheVariants as session
use Rattle.amqp_frames.specs.Cut.{room_beside}
use Rattle.amqp_session.specs.Session.{SessionView}
use Rattle.amqp_engine.specs.EngineView.{EngineView}
use Rattle.amqp1.specs.declared.status.Status.{Status}
use Rattle.amqp1.specs.declared.status.Status.TheVariants as status
use Rattle.amqp1.specs.Refused.{RefusedModel}
use Rattle.amqp1.specs.Writing.{Writes}

-- texts with a line feed between
abbrev pub lines : List ℕ → List ℕ → List ℕ → List ℕ
lines first second third = first ++ ((10 ∷ []) ++ (second ++ ((10 ∷ []) ++ third)))

-- a name, a condition and a description; nothing where there is no name
abbrev pub refusal_said : List ℕ → List ℕ → List ℕ → List ℕ
refusal_said [] condition description = []
refusal_said (b ∷ name) condition description = lines (b ∷ name) condition description

abbrev pub option_or_empty : Option (List ℕ) → List ℕ
option_or_empty None = []
option_or_empty (Some text) = text

-- where the peer ended or closed with an error, what that error says; else the condition that the peer is told
abbrev pub refusal_by : List ℕ → List ℕ → Option ErrorModel → List ℕ
refusal_by name condition None = refusal_said name condition []
refusal_by name condition (Some e) = refusal_said name e.condition (option_or_empty e.description)

abbrev pub refusal_text : RefusedModel → List ℕ
refusal_text r = refusal_by r.name r.condition r.peer

abbrev pub open_text : Option OpenModel → List ℕ
open_text None = []
open_text (Some o) = performative_text (its.Open o)

abbrev pub number_text : Option ℕ → List ℕ
number_text None = []
number_text (Some n) = to_be_bytes w32 n

abbrev pub session_text : {R : Type 0} → EngineView R → ℕ → List ℕ
session_text v channel = number_text (map.get v.connection.session_by_incoming_channel channel)

abbrev pub room_text : {R : Type 0} → EngineView R → TransferModel → List ℕ
room_text v t = number_text (room_beside (widest t) v.limit)

abbrev pub session_state_number : SessionState → ℕ
session_state_number session.Unmapped = 0
session_state_number session.BeginSent = 1
session_state_number session.BeginReceived = 2
session_state_number session.Mapped = 3
session_state_number session.EndSent = 4
session_state_number session.EndReceived = 5
session_state_number session.Discarding = 6

abbrev pub session_state_of : {R : Type 0} → Option (SessionView R) → List ℕ
session_state_of None = []
session_state_of (Some s) = session_state_number s.state ∷ []

-- the state of the session of this number, if there is one
abbrev pub session_state_text : {R : Type 0} → EngineView R → ℕ → List ℕ
session_state_text v n = session_state_of (lookup (nat_eq n) v.sessions)

abbrev pub state_number : ConnectionState → ℕ
state_number state.Start = 0
state_number state.HeaderReceived = 1
state_number state.HeaderSent = 2
state_number state.HeaderExchange = 3
state_number state.OpenPipe = 4
state_number state.OpenClosePipe = 5
state_number state.OpenReceived = 6
state_number state.OpenSent = 7
state_number state.ClosePipe = 8
state_number state.Opened = 9
state_number state.CloseReceived = 10
state_number state.CloseSent = 11
state_number state.Discarding = 12
state_number state.End = 13

-- memory was refused for the text; or four bytes cannot say how long it is
abbrev pub Ungranted : List ℕ → Type 0
Ungranted text = RefusedWithin (length text) ⊎ (2 ^ 32 ≤ length text)

-- as `Writes`; or there was no memory, and nothing is written
abbrev pub WritesIfGranted : List ℕ → List ℕ → Status → ℕ → List ℕ → Type 0
WritesIfGranted text old status.NoMemory n new = (n ≡ 0) × (new ≡ old) × Ungranted text
WritesIfGranted text old s n new = Writes text old s n new
