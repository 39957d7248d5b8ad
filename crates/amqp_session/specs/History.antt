-- Part: the promise; every call exactly; other calls.
-- The history of one session: its calls with their arguments, answers and questions to relays, the oldest first.
use Rattle.std.specs.Prelude.{◌≡◌, ◌<◌, ◌^◌, ℕ, Bool, List, [], ◌∷◌, Option, Result}
use Rattle.amqp_types.specs.Error.{ErrorModel}
use Rattle.amqp_types.specs.Begin.{BeginModel}
use Rattle.amqp_types.specs.End.{EndModel}
use Rattle.amqp_types.specs.Attach.{AttachModel}
use Rattle.amqp_types.specs.Flow.{FlowModel}
use Rattle.amqp_types.specs.Transfer.{TransferModel}
use Rattle.amqp_types.specs.Disposition.{DispositionModel}
use Rattle.amqp_types.specs.Detach.{DetachModel}
use Rattle.amqp_types.specs.declared.definitions.Role.{Role}
use Rattle.amqp_types.specs.declared.states.SessionState.{SessionState}
use Rattle.amqp_session.specs.declared.keys.KeyHash.{KeyHash}
use Rattle.amqp_session.specs.declared.numbers.InputHandle.{InputHandle}
use Rattle.amqp_session.specs.declared.numbers.OutputHandle.{OutputHandle}
use Rattle.amqp_session.specs.declared.flow.LinkFlow.{LinkFlow}
use Rattle.amqp_session.specs.declared.frame.SessionFrame.{SessionFrame}
use Rattle.amqp_session.specs.declared.frame.SessionOutgoingItem.{SessionOutgoingItem}
use Rattle.amqp_session.specs.declared.stop.ConnectionStopReason.{ConnectionStopReason}
use Rattle.amqp_session.specs.declared.stop.SessionStopReason.{SessionStopReason}
use Rattle.amqp_session.specs.declared.error.SessionStateError.{SessionStateError}
use Rattle.amqp_session.specs.declared.error.SessionInnerError.{SessionInnerError}
use Rattle.amqp_session.specs.declared.error.AllocLinkError.{AllocLinkError}
use Rattle.amqp_session.specs.Settings.{SettingsModel}
use Rattle.amqp_session.specs.Transfers.{RequestedTransfer}
use Rattle.amqp_session.specs.Relay.{Relays, AttachQuestion, FlowQuestion, TransferQuestion, DispositionQuestion, DetachQuestion}
use Rattle.amqp_session.specs.Session.{SessionView, new_session}
use Rattle.amqp_session.specs.Step.{SendBeginStep, SendEndStep, TakeBeginStep, TakeEndStep, SendTransferStep, FlowStep, TakeTransferStep}
use Rattle.amqp_session.specs.Step.{SendFlowStep, SessionFlowStep, StopStep}
use Rattle.amqp_session.specs.Linking.{AllocateLinkStep, AllocateIncomingStep, DeallocateStep, TakeAttachStep, TakeDetachStep}
use Rattle.amqp_session.specs.Linking.{SendAttachStep, SendDetachStep}
use Rattle.amqp_session.specs.Disposing.{TakeDispositionStep, SendDispositionStep, SettleStep}

-- One call: its arguments, the questions to relays with their answers, and its answer; of a disposition that is sent also whether
-- its state is terminal.
pub data SessionCall (R : Type 0) : Type 0 where
  SendsBegin : Result SessionFrame SessionStateError → SessionCall R
  SendsEnd : Option ErrorModel → Result SessionFrame SessionStateError → SessionCall R
  TakesBegin : ℕ → BeginModel → Result (Unit {0}) SessionStateError → SessionCall R
  TakesEnd : ℕ → EndModel → Result (Unit {0}) SessionStateError → SessionCall R
  AllocatesLink : List ℕ → Option R → Result OutputHandle AllocLinkError → SessionCall R
  AllocatesIncomingLink : List ℕ → R → InputHandle → Result OutputHandle AllocLinkError → SessionCall R
  DeallocatesLink : OutputHandle → Bool → SessionCall R
  TakesAttach : AttachModel → Option (AttachQuestion R) → Result (Unit {0}) SessionInnerError → SessionCall R
  TakesFlow : FlowModel → Option (FlowQuestion R) → Result (Option SessionOutgoingItem) SessionInnerError → SessionCall R
  TakesTransfer : TransferModel → List ℕ → Option (TransferQuestion R) → Result (Option DispositionModel) SessionInnerError → SessionCall R
  TakesDisposition : DispositionModel → List (DispositionQuestion R) → Result (Option (List DispositionModel)) SessionInnerError → SessionCall R
  TakesDetach : DetachModel → Option (DetachQuestion R) → Result (Option DetachModel) SessionInnerError → SessionCall R
  SendsAttach : AttachModel → SessionFrame → SessionCall R
  SendsFlow : LinkFlow → SessionFrame → SessionCall R
  SendsTransfer : RequestedTransfer → Result (Option SessionOutgoingItem) SessionInnerError → SessionCall R
  SendsDisposition : DispositionModel → Bool → SessionFrame → SessionCall R
  SendsDetach : DetachModel → Bool → Result (Option SessionFrame) SessionInnerError → SessionCall R
  SendsSessionFlow : Option SessionOutgoingItem → SessionCall R
  RecordsStop : SessionStopReason → SessionCall R
  Settles : Role → ℕ → Option ℕ → ℕ → SessionCall R

-- the session goes from one view to the other by this call
abbrev pub SessionStep : {R : Type 0} → Relays R → SessionView R → SessionCall R → SessionView R → Type 0
SessionStep g v (SendsBegin result) w = SendBeginStep v result w
SessionStep g v (SendsEnd error result) w = SendEndStep v error result w
SessionStep g v (TakesBegin channel b result) w = TakeBeginStep v channel b result w
SessionStep g v (TakesEnd channel e result) w = TakeEndStep v e result w
SessionStep g v (AllocatesLink name relay result) w = AllocateLinkStep v name relay result w
SessionStep g v (AllocatesIncomingLink name relay input result) w = AllocateIncomingStep v name relay input result w
SessionStep g v (DeallocatesLink handle was) w = DeallocateStep v handle was w
SessionStep g v (TakesAttach a asked result) w = TakeAttachStep g.attach_gives v a asked result w
SessionStep g v (TakesFlow f asked result) w = FlowStep g.flow_gives v f asked result w
SessionStep g v (TakesTransfer t payload asked result) w = TakeTransferStep g.transfer_gives v t payload asked result w
SessionStep g v (TakesDisposition d asked result) w = TakeDispositionStep g.disposition_gives v d asked result w
SessionStep g v (TakesDetach d asked result) w = TakeDetachStep g.detach_gives v d asked result w
SessionStep g v (SendsAttach a frame) w = SendAttachStep v a frame w
SessionStep g v (SendsFlow l frame) w = SendFlowStep v l frame w
SessionStep g v (SendsTransfer h result) w = SendTransferStep v h result w
SessionStep g v (SendsDisposition d terminal frame) w = SendDispositionStep v d terminal frame w
SessionStep g v (SendsDetach d expects_echo result) w = SendDetachStep v d expects_echo result w
SessionStep g v (SendsSessionFlow item) w = SessionFlowStep v item w
SessionStep g v (RecordsStop reason) w = StopStep v reason w
SessionStep g v (Settles role first last count) w = SettleStep v role first last count w

abbrev pub SessionChain : {R : Type 0} → Relays R → SessionView R → List (SessionCall R) → SessionView R → Type 0
SessionChain g v [] w = w ≡ v
SessionChain g v (e ∷ es) w = (m : SessionView _) × SessionStep g v e m × SessionChain g m es w

-- What a session is made with.
pub record Made : Type 0 where
  pub settings : SettingsModel
  pub channel : ℕ
  pub state : SessionState
  pub stop : Option ConnectionStopReason

-- a legal history of a session that was made so, by whatever hash its links are found, and the view that it leads to
abbrev pub LeadsTo : {R : Type 0} → Relays R → Made → List (SessionCall R) → SessionView R → Type 0
LeadsTo g m H w =
    (hash : KeyHash) × (m.settings.next_outgoing_id < 2 ^ 32) × SessionChain g (new_session hash m.settings m.channel m.state m.stop) H w
