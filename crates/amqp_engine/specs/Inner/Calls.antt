-- Part: inner.
-- What each input and each received frame asks of its session, by a name of its own: rows of the table of calls.
use Rattle.std.specs.Prelude.{◌≡◌, ℕ, List, [], ◌∷◌, Option, None, Ok, Bool}
use Rattle.amqp_types.specs.declared.definitions.Role.{Role}
use Rattle.amqp_types.specs.Error.{ErrorModel}
use Rattle.amqp_types.specs.Begin.{BeginModel}
use Rattle.amqp_types.specs.End.{EndModel}
use Rattle.amqp_types.specs.Attach.{AttachModel}
use Rattle.amqp_types.specs.Detach.{DetachModel}
use Rattle.amqp_types.specs.Flow.{FlowModel}
use Rattle.amqp_types.specs.Transfer.{TransferModel}
use Rattle.amqp_types.specs.Disposition.{DispositionModel}
use Rattle.amqp_session.specs.declared.flow.LinkFlow.{LinkFlow}
use Rattle.amqp_session.specs.declared.numbers.InputHandle.{InputHandle}
use Rattle.amqp_session.specs.declared.stop.SessionStopReason.{SessionStopReason}
use Rattle.amqp_session.specs.States.{takes_end}
use Rattle.amqp_session.specs.Transfers.{RequestedTransfer}
use Rattle.amqp_session.specs.History as session
use Rattle.amqp_engine.specs.Calls.{Calls, by_one, by_two, by_three, unrefused, state_refusal, session_refusal, link_refusal, recorded_end}
use Rattle.amqp_engine.specs.Calls.{recorded_remote_end, answer_to, flow_after}

abbrev pub BeginCalls : {R : Type 0} → Calls R
BeginCalls = by_one (λ f. session.SendsBegin (Ok f) ∷ []) unrefused

abbrev pub EndCalls : {R : Type 0} → Option ErrorModel → Calls R
EndCalls error = by_one (λ result. session.SendsEnd error result ∷ recorded_end error result) state_refusal

abbrev pub AllocateLinkCalls : {R : Type 0} → List ℕ → Option R → Calls R
AllocateLinkCalls name relay = by_one (λ result. session.AllocatesLink name relay result ∷ []) link_refusal

abbrev pub AllocateIncomingCalls : {R : Type 0} → List ℕ → R → InputHandle → Calls R
AllocateIncomingCalls name relay h = by_one (λ result. session.AllocatesIncomingLink name relay h result ∷ []) link_refusal

abbrev pub AttachCalls : {R : Type 0} → AttachModel → Calls R
AttachCalls a = by_one (λ f. session.SendsAttach a f ∷ []) unrefused

abbrev pub DetachCalls : {R : Type 0} → DetachModel → Bool → Calls R
DetachCalls d expects_echo = by_one (λ result. session.SendsDetach d expects_echo result ∷ []) session_refusal

abbrev pub FlowCalls : {R : Type 0} → LinkFlow → Calls R
FlowCalls l = by_one (λ f. session.SendsFlow l f ∷ []) unrefused

abbrev pub TransferCalls : {R : Type 0} → RequestedTransfer → Calls R
TransferCalls h = by_one (λ result. session.SendsTransfer h result ∷ []) session_refusal

abbrev pub DispositionCalls : {R : Type 0} → DispositionModel → Calls R
DispositionCalls d = by_two (λ terminal f. session.SendsDisposition d terminal f ∷ []) unrefused

abbrev pub SettleCalls : {R : Type 0} → Role → ℕ → Option ℕ → Calls R
SettleCalls role first last = by_one (λ count. session.Settles role first last count ∷ []) unrefused

abbrev pub StopCalls : {R : Type 0} → SessionStopReason → Calls R
StopCalls reason s calls refusal = (calls ≡ session.RecordsStop reason ∷ []) × (refusal ≡ None)

abbrev pub ReceivedBeginCalls : {R : Type 0} → ℕ → BeginModel → Calls R
ReceivedBeginCalls channel b = by_one (λ result. session.TakesBegin channel b result ∷ []) state_refusal

abbrev pub ReceivedEndCalls : {R : Type 0} → ℕ → EndModel → Calls R
ReceivedEndCalls channel e s =
    by_one (λ result. session.TakesEnd channel e result ∷ recorded_remote_end (takes_end s) e.error) state_refusal s

abbrev pub ReceivedAttachCalls : {R : Type 0} → AttachModel → Calls R
ReceivedAttachCalls a = by_two (λ asked result. session.TakesAttach a asked result ∷ []) session_refusal

abbrev pub ReceivedDetachCalls : {R : Type 0} → DetachModel → Calls R
ReceivedDetachCalls d = by_three (λ asked result sent. session.TakesDetach d asked result ∷ answer_to result sent) session_refusal

abbrev pub ReceivedFlowCalls : {R : Type 0} → FlowModel → Calls R
ReceivedFlowCalls f = by_two (λ asked result. session.TakesFlow f asked result ∷ []) session_refusal

abbrev pub ReceivedTransferCalls : {R : Type 0} → TransferModel → List ℕ → Calls R
ReceivedTransferCalls t payload =
    by_three (λ asked result item. session.TakesTransfer t payload asked result ∷ flow_after result item) session_refusal
