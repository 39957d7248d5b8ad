-- Part: the promise.
-- What an input or a received frame asks of the session that it reaches: its calls, by the session's state, and the refusal
-- that is answered. This is the one table of them.
use Rattle.std.specs.Prelude.{string_bytes, ◌≡◌, ℕ, List, [], ◌∷◌, Option, Some, None, Result, Ok, Err, Bool, false}
use Rattle.amqp_types.specs.declared.states.SessionState.{SessionState}
use Rattle.amqp_types.specs.declared.states.SessionState.TheVariants as at
use Rattle.amqp_types.specs.Error.{ErrorModel}
use Rattle.amqp_types.specs.Detach.{DetachModel}
use Rattle.amqp_types.specs.Disposition.{DispositionModel}
use Rattle.amqp_session.specs.declared.frame.SessionFrame.{SessionFrame}
use Rattle.amqp_session.specs.declared.frame.SessionOutgoingItem.{SessionOutgoingItem}
use Rattle.amqp_session.specs.declared.error.AllocLinkError.{AllocLinkError}
use Rattle.amqp_session.specs.declared.error.SessionStateError.{SessionStateError}
use Rattle.amqp_session.specs.declared.error.SessionInnerError.{SessionInnerError}
use Rattle.amqp_session.specs.declared.stop.SessionStopReason.{SessionStopReason}
use Rattle.amqp_session.specs.declared.stop.SessionStopReason.TheVariants as stop
use Rattle.amqp_session.specs.Relay.{DispositionQuestion}
use Rattle.amqp_session.specs.States.{takes_end}
use Rattle.amqp_session.specs.History as session
use Rattle.amqp_frames.specs.declared.frame.FrameBody.{FrameBody}
use Rattle.amqp_frames.specs.declared.frame.FrameBody.TheVariants as body
use Rattle.amqp_engine.specs.declared.engine.input.Input.{Input}
use Rattle.amqp_engine.specs.declared.engine.input.Input.TheVariants as input
use Rattle.amqp_engine.specs.declared.engine.step_error.StepError.{StepError}
use Rattle.amqp_engine.specs.declared.engine.step_error.StepError.TheVariants as no

-- the calls of a session in this state, with their answers, and the refusal
abbrev pub Calls : Type 0 → Type 1
Calls R = SessionState → List (session.SessionCall R) → Option StepError → Type 0

-- The calls and the refusal, by one value that the input does not tell, such as an answer or a question to a relay; by two, and by three:
-- of these the second is the answer that says whether the input is refused.
abbrev pub by_one : {R A : Type 0} → (A → List (session.SessionCall R)) → (A → Option StepError) → Calls R
by_one {R} {A} asks refused s calls refusal = (a : A) × (calls ≡ asks a) × (refusal ≡ refused a)

abbrev pub by_two : {R A B : Type 0} → (A → B → List (session.SessionCall R)) → (B → Option StepError) → Calls R
by_two {R} {A} {B} asks refused s calls refusal = (a : A) × (b : B) × (calls ≡ asks a b) × (refusal ≡ refused b)

abbrev pub by_three : {R A B C : Type 0} → (A → B → C → List (session.SessionCall R)) → (B → Option StepError) → Calls R
by_three {R} {A} {B} {C} asks refused s calls refusal =
    (a : A) × (b : B) × (c : C) × (calls ≡ asks a b c) × (refusal ≡ refused b)

-- ---- refusals

-- a call that is never refused
abbrev pub unrefused : {X : Type 0} → X → Option StepError
unrefused x = None

abbrev pub state_refusal : {X : Type 0} → Result X SessionStateError → Option StepError
state_refusal (Ok x) = None
state_refusal (Err e) = Some (no.SessionState e)

abbrev pub session_refusal : {X : Type 0} → Result X SessionInnerError → Option StepError
session_refusal (Ok x) = None
session_refusal (Err e) = Some (no.Session e)

abbrev pub link_refusal : {X : Type 0} → Result X AllocLinkError → Option StepError
link_refusal (Ok x) = None
link_refusal (Err e) = Some (no.AllocLink e)

-- ---- calls that follow a first one

abbrev pub end_reason : Option ErrorModel → SessionStopReason
end_reason None = stop.Ended
end_reason (Some e) = stop.EndedWithError

-- an End that goes out is recorded
abbrev pub recorded_end : {R : Type 0} → Option ErrorModel → Result SessionFrame SessionStateError → List (session.SessionCall R)
recorded_end error (Ok f) = session.RecordsStop (end_reason error) ∷ []
recorded_end error (Err e) = []

abbrev pub remote_end_reason : Option ErrorModel → SessionStopReason
remote_end_reason None = stop.RemoteEnded
remote_end_reason (Some e) = stop.RemoteEndedWithError

-- an End of the peer's is recorded where it moves the session to EndReceived: it answers none of this side then
abbrev pub recorded_remote_end : {R : Type 0} → Option SessionState → Option ErrorModel → List (session.SessionCall R)
recorded_remote_end (Some at.EndReceived) error = session.RecordsStop (remote_end_reason error) ∷ []
recorded_remote_end next error = []

-- the detach that a relay answers goes out, and the peer is to answer it no more
abbrev pub answer_to : {R : Type 0} → Result (Option DetachModel) SessionInnerError →
    Result (Option SessionFrame) SessionInnerError → List (session.SessionCall R)
answer_to (Ok (Some d)) sent = session.SendsDetach d false sent ∷ []
answer_to result sent = []

-- after a transfer that is accepted, the session is asked for a flow of its own
abbrev pub flow_after : {R : Type 0} → Result (Option DispositionModel) SessionInnerError → Option SessionOutgoingItem →
    List (session.SessionCall R)
flow_after (Ok d) item = session.SendsSessionFlow item ∷ []
flow_after (Err e) item = []

-- the dispositions that a received one is answered by
abbrev pub echoes_of : Result (Option (List DispositionModel)) SessionInnerError → List DispositionModel
echoes_of (Ok (Some ds)) = ds
echoes_of result = []

-- each of them goes out, in order
abbrev pub SentEach : {R : Type 0} → List DispositionModel → List (session.SessionCall R) → Type 0
SentEach [] calls = calls ≡ []
SentEach {R} (d ∷ ds) calls = (terminal : Bool) × (f : SessionFrame) × (others : List (session.SessionCall R))
    × (calls ≡ session.SendsDisposition d terminal f ∷ others) × SentEach ds others

abbrev pub ReceivedDispositionCalls : {R : Type 0} → DispositionModel → Calls R
ReceivedDispositionCalls d s calls refusal =
    (asked : List (DispositionQuestion _)) × (result : Result (Option (List DispositionModel)) SessionInnerError)
    × (sent : List (session.SessionCall _)) × SentEach (echoes_of result) sent
    × (calls ≡ session.TakesDisposition d asked result ∷ sent) × (refusal ≡ session_refusal result)

-- ---- the table

-- the session that a request on a session names
abbrev pub names : {R : Type 0} → Input R → Option ℕ
names (input.End n error) = Some n.0
names (input.AllocateLink n name relay) = Some n.0
names (input.AllocateIncomingLink n name relay h) = Some n.0
names (input.Attach n a) = Some n.0
names (input.Detach n d expects_echo) = Some n.0
names (input.Flow n l) = Some n.0
names (input.Transfer n h t payload first) = Some n.0
names (input.Disposition n d) = Some n.0
names (input.Settle n role first last) = Some n.0
names (input.Stop n reason) = Some n.0
names i = None

-- what a request asks of the session that it names; what this side settles is let go, however many deliveries that is, without a frame
abbrev pub request_calls : {R : Type 0} → Input R → Calls R
request_calls (input.Begin n settings) = by_one (λ f. session.SendsBegin (Ok f) ∷ []) unrefused
request_calls (input.End n error) = by_one (λ result. session.SendsEnd error result ∷ recorded_end error result) state_refusal
request_calls (input.AllocateLink n name relay) = by_one (λ result. session.AllocatesLink (string_bytes name) relay result ∷ []) link_refusal
request_calls (input.AllocateIncomingLink n name relay h) =
    by_one (λ result. session.AllocatesIncomingLink (string_bytes name) relay h result ∷ []) link_refusal
request_calls (input.Attach n a) = by_one (λ f. session.SendsAttach a f ∷ []) unrefused
request_calls (input.Detach n d expects_echo) = by_one (λ result. session.SendsDetach d expects_echo result ∷ []) session_refusal
request_calls (input.Flow n l) = by_one (λ f. session.SendsFlow l f ∷ []) unrefused
request_calls (input.Transfer n h t payload first) = by_one (λ result. session.SendsTransfer
    (record { input_handle = h.0; transfer = t; payload = payload; is_first = first }) result ∷ []) session_refusal
request_calls (input.Disposition n d) = by_two (λ terminal f. session.SendsDisposition d terminal f ∷ []) unrefused
request_calls (input.Settle n role first last) = by_one (λ count. session.Settles role first last count ∷ []) unrefused
request_calls (input.Stop n reason) = λ s calls refusal. (calls ≡ session.RecordsStop reason ∷ []) × (refusal ≡ None)
request_calls i = λ s calls refusal. ⊥

-- what a received frame asks of the session that it reaches
abbrev pub received_calls : {R : Type 0} → ℕ → FrameBody → Calls R
received_calls c (body.Begin b) = by_one (λ result. session.TakesBegin c b result ∷ []) state_refusal
received_calls c (body.End e) = λ s. by_one (λ result. session.TakesEnd c e result ∷ recorded_remote_end (takes_end s) e.error) state_refusal s
received_calls c (body.Attach a) = by_two (λ asked result. session.TakesAttach a asked result ∷ []) session_refusal
received_calls c (body.Detach d) = by_three (λ asked result sent. session.TakesDetach d asked result ∷ answer_to result sent) session_refusal
received_calls c (body.Flow f) = by_two (λ asked result. session.TakesFlow f asked result ∷ []) session_refusal
received_calls c (body.Transfer t payload) =
    by_three (λ asked result item. session.TakesTransfer t payload asked result ∷ flow_after result item) session_refusal
received_calls c (body.Disposition d) = ReceivedDispositionCalls d
received_calls c b = λ s calls refusal. ⊥
