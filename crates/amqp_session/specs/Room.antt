-- Part: other calls; inner.
-- What a call that asks for room first says beside its step (the step is that of `specs/Step`, `specs/Linking` and `specs/Disposing`): where it
-- does nothing, memory was refused before anything was done; and where its answer is that memory lacks, the session did not say so by itself.
use Rattle.std.specs.Prelude.{◌≡◌, ℕ, Bool, true, false, List, [], Option, Some, None, Result, Ok, Err, IsSome}
use Rattle.amqp_memory.specs.Refusal.{SomeRefused}
use Rattle.amqp_types.specs.Attach.{AttachModel}
use Rattle.amqp_types.specs.Flow.{FlowModel}
use Rattle.amqp_types.specs.Transfer.{TransferModel}
use Rattle.amqp_types.specs.Disposition.{DispositionModel}
use Rattle.amqp_session.specs.declared.numbers.OutputHandle.{OutputHandle}
use Rattle.amqp_session.specs.declared.flow.LinkFlow.{LinkFlow}
use Rattle.amqp_session.specs.declared.frame.SessionOutgoingItem.{SessionOutgoingItem}
use Rattle.amqp_session.specs.declared.error.LinkRelayError.{LinkRelayError}
use Rattle.amqp_session.specs.declared.error.SessionInnerError.{SessionInnerError}
use Rattle.amqp_session.specs.declared.error.SessionInnerError.TheVariants as Refused
use Rattle.amqp_session.specs.Errors.{inner_of_relay}
use Rattle.amqp_session.specs.LinkFlow.{link_flow_of}
use Rattle.amqp_session.specs.Links.{LinksView, attached_at}
use Rattle.amqp_session.specs.Linking.{AttachRefused, named_at}
use Rattle.amqp_session.specs.Relay.{AttachGives, FlowGives, TransferGives, DispositionGives, DispositionQuestion}
use Rattle.amqp_session.specs.Disposing.{TakeDispositionStep, SaysStateAgain, is_forward, rows_of}
use Rattle.amqp_session.specs.Session.{SessionView, lets}
use Rattle.amqp_session.specs.Step.{IsKnown, flow_moved}

-- ---- a transfer

-- memory was refused for the record of a delivery
abbrev pub LacksRecord : {R : Type 0} → SessionView R → ℕ → Type 0
LacksRecord v handle = IsSome (attached_at handle v.links) × SomeRefused

-- where the answer is that memory lacks, it is a relay's own
abbrev pub RelayLacks : {R : Type 0} → TransferGives R → TransferModel → List ℕ → Result (Unit {0}) SessionInnerError → Type 0
RelayLacks {R} gives t payload (Err Refused.OutOfMemory) =
    (before after : R) × (error : LinkRelayError) × gives before t payload (Err error) after × (inner_of_relay error ≡ Refused.OutOfMemory)
RelayLacks gives t payload result = Unit {0}

-- ---- a Flow

-- memory was refused for the frames that it lets out
abbrev pub LacksFrames : {R : Type 0} → SessionView R → FlowModel → Type 0
LacksFrames v f = IsKnown v f.handle × ¬ (lets (flow_moved v f) ≡ []) × SomeRefused

-- where the answer is that memory lacks, it is a relay's own
abbrev pub LinkFlowLacks : {R : Type 0} → FlowGives R → LinkFlow → Result (Option SessionOutgoingItem) SessionInnerError → Type 0
LinkFlowLacks {R} gives flow (Err Refused.OutOfMemory) =
    (handle : OutputHandle) × (before after : R) × (error : LinkRelayError)
    × gives before handle flow (Err error) after × (inner_of_relay error ≡ Refused.OutOfMemory)
LinkFlowLacks gives flow result = Unit {0}

-- so it is where a link is named, and else it never lacks
abbrev pub FlowLacks : {R : Type 0} → FlowGives R → FlowModel → Option ℕ → Result (Option SessionOutgoingItem) SessionInnerError → Type 0
FlowLacks gives f None (Ok item) = Unit {0}
FlowLacks gives f None (Err e) = ⊥
FlowLacks gives f (Some input) result = LinkFlowLacks gives (link_flow_of input f) result

-- ---- an attach

-- memory was refused for the place under its handle, where nothing stands
abbrev pub LacksPlace : {R : Type 0} → LinksView R → AttachModel → Type 0
LacksPlace l a = AttachRefused (attached_at a.handle l) (named_at a.name l) Refused.OutOfMemory

-- the refusal is not that memory lacks
abbrev pub NotLacking : SessionInnerError → Type 0
NotLacking Refused.OutOfMemory = ⊥
NotLacking e = Unit {0}

-- whether the relay accepted it
abbrev pub has_accepted : Option (Result (Unit {0}) SessionInnerError) → Bool
has_accepted (Some (Ok u)) = true
has_accepted answer = false

-- where the answer is that memory lacks, it is a relay's own
abbrev pub AttachLacks : {R : Type 0} → AttachGives R → AttachModel → Result (Unit {0}) SessionInnerError → Type 0
AttachLacks {R} gives a (Err Refused.OutOfMemory) =
    (before after : R) × (error : LinkRelayError) × gives before a (Err error) after × (inner_of_relay error ≡ Refused.OutOfMemory)
AttachLacks gives a result = Unit {0}

-- ---- a disposition

-- memory was refused for the echoes of an unsettled one over a forward range, where a delivery of its role is open
abbrev pub LacksEchoes : {R : Type 0} → SessionView R → DispositionModel → Type 0
LacksEchoes v d = (d.settled ≡ false) × (is_forward d.first d.last ≡ true) × ¬ (rows_of d v ≡ []) × SomeRefused

-- where the answer is that memory lacks, the relays were asked, and one of them asked for an echo, whose state is not said again
abbrev pub EchoLacks : {R : Type 0} → DispositionModel → List (DispositionQuestion R) → Result (Option (List DispositionModel)) SessionInnerError → Type 0
EchoLacks d asked (Err Refused.OutOfMemory) = SaysStateAgain d asked
EchoLacks d asked result = Unit {0}

-- its step, with that of the same questions
abbrev pub RoomyDispositionStep : {R : Type 0} → DispositionGives R → SessionView R → DispositionModel → List (DispositionQuestion R) →
    Result (Option (List DispositionModel)) SessionInnerError → SessionView R → Type 0
RoomyDispositionStep gives v d asked result w = TakeDispositionStep gives v d asked result w × EchoLacks d asked result
