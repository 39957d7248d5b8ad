-- Part: the promise; every call exactly; other calls.
-- What each call of a session does: its answer, the frames handed out with it, the questions to relays, and the session
-- after it. The case of a refusal says that the refusals that are tested before it do not apply; and where a session lacks memory, that a
-- request for memory was refused.
use Rattle.std.specs.Prelude.{◌≡◌, ◌<◌, ◌^◌, ◌⊎◌, ℕ, Bool, true, false, List, [], ◌∷◌, ◌++◌, Option, Some, None, Result, Ok, Err, IsSome}
use Rattle.std.specs.Prelude.{is_some, unwrap_or}
use Rattle.std.specs.Option.{option_map}
use Rattle.amqp_memory.specs.Refusal.{SomeRefused}
use Rattle.amqp_types.specs.declared.definitions.DeliveryTag.{DeliveryTag}
use Rattle.amqp_types.specs.Error.{ErrorModel}
use Rattle.amqp_types.specs.Begin.{BeginModel}
use Rattle.amqp_types.specs.End.{EndModel}
use Rattle.amqp_types.specs.Flow.{FlowModel}
use Rattle.amqp_types.specs.Transfer.{TransferModel}
use Rattle.amqp_types.specs.Disposition.{DispositionModel}
use Rattle.amqp_session.specs.declared.deliveries.Delivery.{Delivery}
use Rattle.amqp_session.specs.declared.flow.LinkFlow.{LinkFlow}
use Rattle.amqp_session.specs.declared.frame.SessionFrame.{SessionFrame}
use Rattle.amqp_session.specs.declared.frame.SessionOutgoingItem.{SessionOutgoingItem}
use Rattle.amqp_session.specs.declared.frame.SessionOutgoingItem.TheVariants.{SingleFrame, MultipleFrames}
use Rattle.amqp_session.specs.declared.stop.SessionStopReason.{SessionStopReason}
use Rattle.amqp_session.specs.declared.error.SessionStateError.{SessionStateError}
use Rattle.amqp_session.specs.declared.error.SessionStateError.TheVariants as Begins
use Rattle.amqp_session.specs.declared.error.LinkRelayError.{LinkRelayError}
use Rattle.amqp_session.specs.declared.error.SessionInnerError.{SessionInnerError}
use Rattle.amqp_session.specs.declared.error.SessionInnerError.TheVariants as Refused
use Rattle.amqp_session.specs.Errors.{inner_of_relay}
use Rattle.amqp_session.specs.LinkFlow.{link_flow_of}
use Rattle.amqp_session.specs.States.{is_mapped, sends_begin, takes_begin, sends_end, takes_end, answers_end}
use Rattle.amqp_session.specs.Transfers.{RequestedTransfer}
use Rattle.amqp_session.specs.Sending.{joined, begun, moved}
use Rattle.amqp_session.specs.Receiving.{numbered_anew, counted, reported}
use Rattle.amqp_session.specs.Deliveries.{with_record, RecordFits}
use Rattle.amqp_session.specs.Links.{attached_at, put_at}
use Rattle.amqp_session.specs.Relay.{FlowGives, TransferGives, FlowQuestion, TransferQuestion, Question, goes_on, of_flow, of_transfer}
use Rattle.amqp_session.specs.Relay.{Asks}
use Rattle.amqp_session.specs.Items.{HandsOut, is_some_list, first_frame}
use Rattle.amqp_session.specs.Session.{SessionView, begin_frame, end_frame, flow_frame, session_flow_frame, lets, let_gone, is_due}

-- ---- small tests

abbrev pub is_some_held : List RequestedTransfer → Bool
is_some_held [] = false
is_some_held (h ∷ hs) = true

-- the session with the relay under an input handle as it stands after a question
abbrev pub asked_at : {R Q A : Type 0} → SessionView R → ℕ → Question R Q A → SessionView R
asked_at v input q = record v { links = put_at input (goes_on q) v.links }

-- ---- Begin and End (AMQP 1.0 part 2, sections 2.5.1 to 2.5.5)

abbrev pub SendBeginStep : {R : Type 0} → SessionView R → Result SessionFrame SessionStateError → SessionView R → Type 0
SendBeginStep v (Ok frame) w = (sends_begin v.state ≡ Some w.state) × (frame ≡ begin_frame v) × (w ≡ record v { state = w.state })
SendBeginStep v (Err Begins.IllegalState) w = (sends_begin v.state ≡ None) × (w ≡ v)
SendBeginStep v (Err Begins.OutOfMemory) w = IsSome (sends_begin v.state) × (w ≡ v) × SomeRefused
SendBeginStep v (Err e) w = ⊥

abbrev pub SendEndStep : {R : Type 0} → SessionView R → Option ErrorModel → Result SessionFrame SessionStateError → SessionView R → Type 0
SendEndStep v error (Ok frame) w =
    (sends_end (is_some error) v.state ≡ Some w.state) × (frame ≡ end_frame v error) × (w ≡ record v { state = w.state })
SendEndStep v error (Err Begins.IllegalState) w = (sends_end (is_some error) v.state ≡ None) × (w ≡ v)
SendEndStep v error (Err e) w = ⊥

-- A Begin of the peer gives the windows and its next number; its channel is kept for the Begin that answers it.
abbrev pub begun_by : {R : Type 0} → SessionView R → ℕ → BeginModel → SessionView R
begun_by v channel b = record v {
  incoming_channel = Some channel;
  sending = begun v.sending b.incoming_window;
  receiving = numbered_anew b.next_outgoing_id b.outgoing_window v.receiving;
}

-- the numbers of a Begin are of four bytes
pub record BeginFits (b : BeginModel) : Type 0 where
  pub incoming_window : b.incoming_window < 2 ^ 32
  pub next_outgoing_id : b.next_outgoing_id < 2 ^ 32
  pub outgoing_window : b.outgoing_window < 2 ^ 32

abbrev pub TakeBeginStep : {R : Type 0} → SessionView R → ℕ → BeginModel → Result (Unit {0}) SessionStateError → SessionView R → Type 0
TakeBeginStep v channel b (Ok u) w =
    (takes_begin v.state ≡ Some w.state) × BeginFits b × (w ≡ record (begun_by v channel b) { state = w.state })
TakeBeginStep v channel b (Err Begins.IllegalState) w = (takes_begin v.state ≡ None) × (w ≡ v)
TakeBeginStep v channel b (Err e) w = ⊥

-- An End of the peer moves the state, also where it is answered as an error: one without an error that answers an own End
-- is Ok.
abbrev pub TakeEndStep : {R : Type 0} → SessionView R → EndModel → Result (Unit {0}) SessionStateError → SessionView R → Type 0
TakeEndStep v e (Ok u) w =
    (takes_end v.state ≡ Some w.state) × (answers_end v.state ≡ true) × (e.error ≡ None) × (w ≡ record v { state = w.state })
TakeEndStep v e (Err Begins.RemoteEnded) w =
    (takes_end v.state ≡ Some w.state) × (answers_end v.state ≡ false) × (e.error ≡ None) × (w ≡ record v { state = w.state })
TakeEndStep v e (Err (Begins.RemoteEndedWithError x)) w =
    (takes_end v.state ≡ Some w.state) × (e.error ≡ Some x) × (w ≡ record v { state = w.state })
TakeEndStep v e (Err Begins.IllegalState) w = (takes_end v.state ≡ None) × (w ≡ v)
TakeEndStep v e (Err x) w = ⊥

-- ---- a transfer goes out (section 2.5.6)

-- the first transfer of a delivery has no tag
abbrev pub IsUntagged : RequestedTransfer → Type 0
IsUntagged h = (h.is_first ≡ true) × (h.transfer.delivery_tag ≡ None)

-- the session with the transfer after those that wait
abbrev pub waits : {R : Type 0} → SessionView R → RequestedTransfer → SessionView R
waits v h = record v { sending = joined v.sending h }

-- It waits while the window is used up. Else older ones go out first, and then it, while the window lasts.
abbrev pub SendTransferStep : {R : Type 0} → SessionView R → RequestedTransfer →
    Result (Option SessionOutgoingItem) SessionInnerError → SessionView R → Type 0
SendTransferStep v h (Ok item) w =
    (is_mapped v.state ≡ true) × ¬ (IsUntagged h) × HandsOut (is_some_held v.sending.held) (lets (waits v h)) item
    × (w ≡ let_gone (waits v h))
SendTransferStep v h (Err Refused.IllegalState) w = ((is_mapped v.state ≡ false) ⊎ IsUntagged h) × (w ≡ v)
SendTransferStep v h (Err Refused.OutOfMemory) w = (is_mapped v.state ≡ true) × ¬ (IsUntagged h) × (w ≡ v) × SomeRefused
SendTransferStep v h (Err e) w = ⊥

-- ---- a Flow comes (section 2.5.6)

-- the number from which its window begins: the one that it says, or that of the first transfer
abbrev pub flow_base : {R : Type 0} → SessionView R → FlowModel → ℕ
flow_base v f = unwrap_or f.next_incoming_id v.settings.next_outgoing_id

-- its numbers are of four bytes
pub record FlowFits {R : Type 0} (v : SessionView R) (f : FlowModel) : Type 0 where
  pub incoming_window : f.incoming_window < 2 ^ 32
  pub base : flow_base v f < 2 ^ 32
  pub next_outgoing_id : f.next_outgoing_id < 2 ^ 32
  pub outgoing_window : f.outgoing_window < 2 ^ 32

-- it moves both windows, in every state and whatever is then answered
abbrev pub flow_moved : {R : Type 0} → SessionView R → FlowModel → SessionView R
flow_moved v f = record v {
  sending = moved v.sending (flow_base v f) f.incoming_window;
  receiving = numbered_anew f.next_outgoing_id f.outgoing_window v.receiving;
}

-- What goes out then: the relay's flow first, and after it what the new window lets out. The flow says the numbers from
-- before.
abbrev pub FlowGoes : {R : Type 0} → SessionView R → Option LinkFlow → Option SessionOutgoingItem → SessionView R → Type 0
FlowGoes v echo item w = HandsOut (is_some_list (lets v)) (first_frame (option_map (flow_frame v) echo) ++ lets v) item × (w ≡ let_gone v)

-- What follows from the relay's answer. Where the relay says that it lacks memory, its own relation says why.
abbrev pub FlowAnswered : {R : Type 0} → SessionView R → Result (Option LinkFlow) LinkRelayError →
    Result (Option SessionOutgoingItem) SessionInnerError → SessionView R → Type 0
FlowAnswered v (Ok echo) (Ok item) w = FlowGoes v echo item w
FlowAnswered v (Err e) (Err x) w = (x ≡ inner_of_relay e) × (w ≡ v)
FlowAnswered v answer result w = ⊥

-- where the flow names no link, or one that is attached
abbrev pub IsKnown : {R : Type 0} → SessionView R → Option ℕ → Type 0
IsKnown v None = Unit {0}
IsKnown v (Some h) = IsSome (attached_at h v.links)

-- What follows where no relay is asked. Memory is asked for what is let out alone.
abbrev pub FlowUnasked : {R : Type 0} → SessionView R → Option ℕ → Result (Option SessionOutgoingItem) SessionInnerError →
    SessionView R → Type 0
FlowUnasked v handle (Ok item) w = (handle ≡ None) × FlowGoes v None item w
FlowUnasked v None (Err Refused.UnattachedHandle) w = ⊥
FlowUnasked v (Some h) (Err Refused.UnattachedHandle) w = (attached_at h v.links ≡ None) × (w ≡ v)
FlowUnasked v handle (Err Refused.OutOfMemory) w = IsKnown v handle × (w ≡ v) × ¬ (lets v ≡ []) × SomeRefused
FlowUnasked v handle (Err e) w = ⊥

-- what follows for a link, whose relay is asked or not
abbrev pub LinkFlowStep : {R : Type 0} → FlowGives R → SessionView R → ℕ → LinkFlow → Option (FlowQuestion R) →
    Result (Option SessionOutgoingItem) SessionInnerError → SessionView R → Type 0
LinkFlowStep gives v input flow None result w = FlowUnasked v (Some input) result w
LinkFlowStep gives v input flow (Some q) result w =
    (q.asked ≡ flow) × Asks (of_flow gives) (attached_at input v.links) q × FlowAnswered (asked_at v input q) q.answer result w

-- what follows once the windows have moved
abbrev pub FlowTaken : {R : Type 0} → FlowGives R → SessionView R → FlowModel → Option ℕ → Option (FlowQuestion R) →
    Result (Option SessionOutgoingItem) SessionInnerError → SessionView R → Type 0
FlowTaken gives v f None None result w = FlowUnasked v None result w
FlowTaken gives v f None (Some q) result w = ⊥
FlowTaken gives v f (Some input) asked result w = LinkFlowStep gives v input (link_flow_of input f) asked result w

abbrev pub FlowStep : {R : Type 0} → FlowGives R → SessionView R → FlowModel → Option (FlowQuestion R) →
    Result (Option SessionOutgoingItem) SessionInnerError → SessionView R → Type 0
FlowStep gives v f asked result w = FlowFits v f × FlowTaken gives (flow_moved v f) f f.handle asked result w

-- ---- a transfer comes (section 2.5.6)

-- its number is counted, whatever is then answered
abbrev pub counted_by : {R : Type 0} → SessionView R → SessionView R
counted_by v = record v { receiving = counted v.receiving }

-- the delivery that the relay of a link named
abbrev pub named_delivery : ℕ → Option (ℕ × DeliveryTag) → Option Delivery
named_delivery handle None = None
named_delivery handle (Some x) = Some (record { number = x.0; input_handle = record { 0 = handle }; tag = x.1 })

-- the session with it
abbrev pub named_by : {R : Type 0} → SessionView R → ℕ → Option (ℕ × DeliveryTag) → SessionView R
named_by v handle named =
    record v { deliveries = record v.deliveries { sender = with_record (named_delivery handle named) v.deliveries.sender } }

-- What follows from the relay's answer: the number that it names is of four bytes. Where the relay says that it lacks memory, its own
-- relation says why.
abbrev pub TransferAnswered : {R : Type 0} → SessionView R → ℕ → Result (Option (ℕ × DeliveryTag)) LinkRelayError →
    Result (Option DispositionModel) SessionInnerError → SessionView R → Type 0
TransferAnswered v handle (Ok named) (Ok reply) w =
    RecordFits (named_delivery handle named) × (reply ≡ None) × (w ≡ named_by v handle named)
TransferAnswered v handle (Err e) (Err x) w = (x ≡ inner_of_relay e) × (w ≡ v)
TransferAnswered v handle answer result w = ⊥

abbrev pub TransferUnasked : {R : Type 0} → SessionView R → ℕ → Result (Option DispositionModel) SessionInnerError → SessionView R → Type 0
TransferUnasked v handle (Ok reply) w = ⊥
TransferUnasked v handle (Err Refused.UnattachedHandle) w = (attached_at handle v.links ≡ None) × (w ≡ v)
TransferUnasked v handle (Err Refused.OutOfMemory) w = IsSome (attached_at handle v.links) × (w ≡ v) × SomeRefused
TransferUnasked v handle (Err e) w = ⊥

-- what follows once the number is counted
abbrev pub LinkTransferStep : {R : Type 0} → TransferGives R → SessionView R → ℕ → TransferModel → List ℕ →
    Option (TransferQuestion R) → Result (Option DispositionModel) SessionInnerError → SessionView R → Type 0
LinkTransferStep gives v input t payload None result w = TransferUnasked v input result w
LinkTransferStep gives v input t payload (Some q) result w =
    (q.asked ≡ (t, payload)) × Asks (of_transfer gives) (attached_at input v.links) q
    × TransferAnswered (asked_at v input q) input q.answer result w

abbrev pub TakeTransferStep : {R : Type 0} → TransferGives R → SessionView R → TransferModel → List ℕ →
    Option (TransferQuestion R) → Result (Option DispositionModel) SessionInnerError → SessionView R → Type 0
TakeTransferStep gives v t payload asked result w = LinkTransferStep gives (counted_by v) t.handle t payload asked result w

-- what a call says that leaves the disposition out, which is never there
abbrev pub without_answer : Result (Unit {0}) SessionInnerError → Result (Option DispositionModel) SessionInnerError
without_answer (Ok none) = Ok None
without_answer (Err e) = Err e

-- ---- flows of this side, and stop reasons

abbrev pub SendFlowStep : {R : Type 0} → SessionView R → LinkFlow → SessionFrame → SessionView R → Type 0
SendFlowStep v l frame w = (frame ≡ flow_frame v l) × (w ≡ v)

-- A session flow goes out in Mapped where half of the window has come since the last one, and then the count is 0.
abbrev pub SessionFlowStep : {R : Type 0} → SessionView R → Option SessionOutgoingItem → SessionView R → Type 0
SessionFlowStep v None w = (is_due v ≡ false) × (w ≡ v)
SessionFlowStep v (Some (SingleFrame f)) w =
    (is_due v ≡ true) × (f ≡ session_flow_frame v) × (w ≡ record v { receiving = reported v.receiving })
SessionFlowStep v (Some (MultipleFrames fs)) w = ⊥

-- the first reason that is recorded stays
abbrev pub StopStep : {R : Type 0} → SessionView R → SessionStopReason → SessionView R → Type 0
StopStep v reason w = w ≡ record v { session_stop = Some (unwrap_or v.session_stop reason) }
