-- Part: other calls; inner.
-- Two sessions, one at each end, with the frames on the way to each; and what a call of such a pair does (AMQP 1.0 part 2,
-- sections 2.5 and 2.5.6).
use Rattle.std.specs.Prelude.{◌≡◌, ◌≤◌, ◌+◌, ◌-◌, ◌⊎◌, ℕ, true, false, List, [], ◌∷◌, ◌++◌, length}
use Rattle.std.specs.Prelude.{Option, None, IsSome, Result, Ok, Err}
use Rattle.amqp_memory.specs.Refusal.{SomeRefused}
use Rattle.amqp_types.specs.Attach.{AttachModel}
use Rattle.amqp_types.specs.Begin.{BeginModel}
use Rattle.amqp_types.specs.Flow.{FlowModel}
use Rattle.amqp_types.specs.Transfer.{TransferModel}
use Rattle.amqp_types.specs.Disposition.{DispositionModel}
use Rattle.amqp_types.specs.declared.states.SessionState.TheVariants.{Unmapped, Mapped}
use Rattle.amqp_session.specs.declared.error.AllocLinkError.{AllocLinkError}
use Rattle.amqp_session.specs.declared.error.SessionInnerError.{SessionInnerError}
use Rattle.amqp_session.specs.declared.error.SessionInnerError.TheVariants as Refused
use Rattle.amqp_session.specs.declared.error.SessionStateError.{SessionStateError}
use Rattle.amqp_session.specs.declared.flow.LinkFlow.{LinkFlow}
use Rattle.amqp_session.specs.declared.frame.SessionFrame.{SessionFrame}
use Rattle.amqp_session.specs.declared.frame.SessionFrameBody.{SessionFrameBody}
use Rattle.amqp_session.specs.declared.frame.SessionFrameBody.TheVariants as Body
use Rattle.amqp_session.specs.declared.frame.SessionOutgoingItem.{SessionOutgoingItem}
use Rattle.amqp_session.specs.declared.keys.KeyHash.TheVariants.{Fixed}
use Rattle.amqp_session.specs.declared.numbers.OutputHandle.{OutputHandle}
use Rattle.amqp_session.specs.declared.pair.Side.{Side}
use Rattle.amqp_session.specs.declared.pair.Side.TheVariants.{A, B}
use Rattle.amqp_session.specs.Errors.{inner_of_state}
use Rattle.amqp_session.specs.Settings.{SettingsModel}
use Rattle.amqp_session.specs.States.{is_mapped, sends_begin}
use Rattle.amqp_session.specs.Step.{IsUntagged}
use Rattle.amqp_session.specs.Serial.{past}
use Rattle.amqp_session.specs.Transfers.{RequestedTransfer}
use Rattle.amqp_session.specs.Relay.{Relays, AttachQuestion, FlowQuestion, TransferQuestion}
use Rattle.amqp_session.specs.Session.{SessionView, new_session, flow_frame}
use Rattle.amqp_session.specs.Linking.{attach_frame}
use Rattle.amqp_session.specs.OutgoingFrames.{call_frames}
use Rattle.amqp_session.specs.Headline.{transfers_in}
use Rattle.amqp_session.specs.History.{SessionCall, SessionStep, AllocatesLink, SendsBegin, SendsAttach, SendsFlow, SendsTransfer, SendsSessionFlow}
use Rattle.amqp_session.specs.History.{TakesBegin, TakesAttach, TakesFlow, TakesTransfer}

pub record PairView (R : Type 0) : Type 0 where
  pub a : SessionView R
  pub b : SessionView R
  pub to_a : List SessionFrame  -- on the way to a, the oldest first
  pub to_b : List SessionFrame  -- on the way to b

-- no Begin was sent, and nothing is on the way; the links are found by the key that everyone knows
abbrev pub new_pair : {R : Type 0} → SettingsModel → SettingsModel → PairView R
new_pair s t = record { a = new_session Fixed s 0 Unmapped None; b = new_session Fixed t 0 Unmapped None; to_a = []; to_b = [] }

-- the session of a side, and the frames on the way to it
abbrev pub session_at : {R : Type 0} → Side → PairView R → SessionView R
session_at A p = p.a
session_at B p = p.b

abbrev pub way_to : {R : Type 0} → Side → PairView R → List SessionFrame
way_to A p = p.to_a
way_to B p = p.to_b

-- the pair with its sides exchanged
abbrev pub swapped : {R : Type 0} → PairView R → PairView R
swapped p = record { a = p.b; b = p.a; to_a = p.to_b; to_b = p.to_a }

-- ---- what one session does

-- what a call of a pair answers
abbrev pub Said : Type 0
Said = Result (Unit {0}) SessionInnerError

-- The effect of a call on its session: the session and the frames on the way to the other one before it, what it answers, and
-- both after it.
abbrev pub Effect : Type 0 → Type 1
Effect R = SessionView R → List SessionFrame → Said → SessionView R → List SessionFrame → Type 0

-- The session makes a call, and what it hands out goes after the frames on the way to the other side.
abbrev pub Makes : {R : Type 0} → Relays R → SessionView R → List SessionFrame → SessionCall R → SessionView R → List SessionFrame → Type 0
Makes g v going e w going' = SessionStep g v e w × (going' ≡ going ++ call_frames e)

-- Nothing changes.
abbrev pub Stays : {R : Type 0} → SessionView R → List SessionFrame → SessionView R → List SessionFrame → Type 0
Stays v going w going' = (w ≡ v) × (going' ≡ going)

-- Memory for what may go out was refused, and nothing changes.
abbrev pub HasNoRoom : {R : Type 0} → Effect R
HasNoRoom v going result w going' = (result ≡ Err Refused.OutOfMemory) × Stays v going w going' × SomeRefused

-- the pair's answer, where its session answers so
abbrev pub answer_of : {X : Type 0} → Result X SessionInnerError → Said
answer_of (Ok x) = Ok tt
answer_of (Err e) = Err e

abbrev pub answer_of_state : {X : Type 0} → Result X SessionStateError → Said
answer_of_state (Ok x) = Ok tt
answer_of_state (Err e) = Err (inner_of_state e)

-- a Begin is sent
pub record BeginIsSent {R : Type 0} (g : Relays R) (v : SessionView R) (going : List SessionFrame) (result : Said)
    (w : SessionView R) (going' : List SessionFrame) : Type 0 where
  pub frame : Result SessionFrame SessionStateError
  pub makes : Makes g v going (SendsBegin frame) w going'
  pub says : result ≡ answer_of_state frame

-- where the state refuses it, memory has no say
abbrev pub BeginAt : {R : Type 0} → Relays R → Effect R
BeginAt g v going result w going' =
    (IsSome (sends_begin v.state) × HasNoRoom v going result w going') ⊎ BeginIsSent g v going result w going'

-- A frame of a link is sent by this call: in Mapped alone.
abbrev pub FrameAt : {R : Type 0} → Relays R → SessionCall R → Effect R
FrameAt g e v going (Ok u) w going' = (is_mapped v.state ≡ true) × Makes g v going e w going'
FrameAt g e v going (Err Refused.IllegalState) w going' = (is_mapped v.state ≡ false) × Stays v going w going'
FrameAt g e v going (Err Refused.OutOfMemory) w going' = (is_mapped v.state ≡ true) × Stays v going w going' × SomeRefused
FrameAt g e v going (Err x) w going' = ⊥

-- a transfer is sent
pub record TransferIsSent {R : Type 0} (g : Relays R) (h : RequestedTransfer) (v : SessionView R) (going : List SessionFrame)
    (result : Said) (w : SessionView R) (going' : List SessionFrame) : Type 0 where
  pub item : Result (Option SessionOutgoingItem) SessionInnerError
  pub makes : Makes g v going (SendsTransfer h item) w going'
  pub says : result ≡ answer_of item

-- outside Mapped, and as an untagged first, it is refused by the session, whatever the memory
abbrev pub TransferAt : {R : Type 0} → Relays R → RequestedTransfer → Effect R
TransferAt g h v going result w going' =
    ((is_mapped v.state ≡ true) × ¬ (IsUntagged h) × HasNoRoom v going result w going') ⊎ TransferIsSent g h v going result w going'

-- ---- what a session does with the first frame on the way to it

pub record BeginIsTaken {R : Type 0} (g : Relays R) (channel : ℕ) (b : BeginModel) (v : SessionView R) (going : List SessionFrame)
    (result : Said) (w : SessionView R) (going' : List SessionFrame) : Type 0 where
  pub answer : Result (Unit {0}) SessionStateError
  pub makes : Makes g v going (TakesBegin channel b answer) w going'
  pub says : result ≡ answer_of_state answer

pub record AttachIsTaken {R : Type 0} (g : Relays R) (a : AttachModel) (v : SessionView R) (going : List SessionFrame)
    (result : Said) (w : SessionView R) (going' : List SessionFrame) : Type 0 where
  pub asked : Option (AttachQuestion R)
  pub makes : Makes g v going (TakesAttach a asked result) w going'

pub record FlowIsTaken {R : Type 0} (g : Relays R) (f : FlowModel) (v : SessionView R) (going : List SessionFrame)
    (result : Said) (w : SessionView R) (going' : List SessionFrame) : Type 0 where
  pub asked : Option (FlowQuestion R)
  pub item : Result (Option SessionOutgoingItem) SessionInnerError
  pub makes : Makes g v going (TakesFlow f asked item) w going'
  pub says : result ≡ answer_of item

-- after an accepted transfer a session flow is asked for
abbrev pub FlowFollows : {R : Type 0} → Relays R → SessionView R → List SessionFrame →
    Result (Option DispositionModel) SessionInnerError → SessionView R → List SessionFrame → Type 0
FlowFollows g v going (Ok reply) w going' = (flow : Option SessionOutgoingItem) × Makes g v going (SendsSessionFlow flow) w going'
FlowFollows g v going (Err e) w going' = Stays v going w going'

pub record TransferIsTaken {R : Type 0} (g : Relays R) (t : TransferModel) (payload : List ℕ) (v : SessionView R)
    (going : List SessionFrame) (result : Said) (w : SessionView R) (going' : List SessionFrame) : Type 0 where
  pub asked : Option (TransferQuestion R)
  pub reply : Result (Option DispositionModel) SessionInnerError
  pub counted : SessionView R
  pub takes : SessionStep g v (TakesTransfer t payload asked reply) counted
  pub follows : FlowFollows g counted going reply w going'
  pub says : result ≡ answer_of reply

-- No call of a pair sends a disposition, a detach or an End.
abbrev pub IsOfPair : SessionFrameBody → Type 0
IsOfPair (Body.Begin b) = Unit {0}
IsOfPair (Body.Attach a) = Unit {0}
IsOfPair (Body.Flow f) = Unit {0}
IsOfPair (Body.Transfer t payload) = Unit {0}
IsOfPair (Body.Disposition d) = ⊥
IsOfPair (Body.Detach d) = ⊥
IsOfPair (Body.End e) = ⊥

abbrev pub AreOfPair : List SessionFrame → Type 0
AreOfPair [] = Unit {0}
AreOfPair (f ∷ fs) = IsOfPair f.body × AreOfPair fs

abbrev pub TakesBody : {R : Type 0} → Relays R → ℕ → SessionFrameBody → Effect R
TakesBody g channel (Body.Begin b) v going result w going' = BeginIsTaken g channel b v going result w going'
TakesBody g channel (Body.Attach a) v going result w going' = AttachIsTaken g a v going result w going'
TakesBody g channel (Body.Flow f) v going result w going' = FlowIsTaken g f v going result w going'
TakesBody g channel (Body.Transfer t payload) v going result w going' = TransferIsTaken g t payload v going result w going'
TakesBody g channel (Body.Disposition d) v going result w going' = ⊥
TakesBody g channel (Body.Detach d) v going result w going' = ⊥
TakesBody g channel (Body.End e) v going result w going' = ⊥

-- The first frame comes off the way, and is gone also where the session refuses it. Where memory for what may go out was refused, it
-- stays on the way.
abbrev pub ArriveAt : {R : Type 0} → Relays R → SessionView R → List SessionFrame → List SessionFrame → Said →
    SessionView R → List SessionFrame → List SessionFrame → Type 0
ArriveAt g v [] going result w coming' going' = (result ≡ Ok tt) × (coming' ≡ []) × Stays v going w going'
ArriveAt g v (f ∷ fs) going result w coming' going' =
    ((coming' ≡ f ∷ fs) × HasNoRoom v going result w going')
    ⊎ ((coming' ≡ fs) × TakesBody g f.channel f.body v going result w going')

-- ---- the calls of a pair: one session acts, and the other is left as it is

-- a call that takes nothing off the way
abbrev pub Acts : {R : Type 0} → Side → Effect R → Said → PairView R → PairView R → Type 0
Acts A Does result p q = Does p.a p.to_b result q.a q.to_b × (q.b ≡ p.b) × (q.to_a ≡ p.to_a)
Acts B Does result p q = Does p.b p.to_a result q.b q.to_a × (q.a ≡ p.a) × (q.to_b ≡ p.to_b)

abbrev pub AllocateLinkStep : {R : Type 0} → Relays R → Side → List ℕ → Option R → Result OutputHandle AllocLinkError →
    PairView R → PairView R → Type 0
AllocateLinkStep g A name relay handle p q =
    SessionStep g p.a (AllocatesLink name relay handle) q.a × (q.to_b ≡ p.to_b) × (q.b ≡ p.b) × (q.to_a ≡ p.to_a)
AllocateLinkStep g B name relay handle p q =
    SessionStep g p.b (AllocatesLink name relay handle) q.b × (q.to_a ≡ p.to_a) × (q.a ≡ p.a) × (q.to_b ≡ p.to_b)

abbrev pub BeginStep : {R : Type 0} → Relays R → Side → Said → PairView R → PairView R → Type 0
BeginStep g side result p q = Acts side (BeginAt g) result p q

abbrev pub AttachStep : {R : Type 0} → Relays R → Side → AttachModel → Said → PairView R → PairView R → Type 0
AttachStep g side a result p q = Acts side (λ v. FrameAt g (SendsAttach a (attach_frame v a)) v) result p q

abbrev pub FlowStep : {R : Type 0} → Relays R → Side → LinkFlow → Said → PairView R → PairView R → Type 0
FlowStep g side l result p q = Acts side (λ v. FrameAt g (SendsFlow l (flow_frame v l)) v) result p q

abbrev pub TransferStep : {R : Type 0} → Relays R → Side → RequestedTransfer → Said → PairView R → PairView R → Type 0
TransferStep g side h result p q = Acts side (TransferAt g h) result p q

abbrev pub ArriveStep : {R : Type 0} → Relays R → Side → Said → PairView R → PairView R → Type 0
ArriveStep g A result p q = ArriveAt g p.a p.to_a p.to_b result q.a q.to_a q.to_b × (q.b ≡ p.b)
ArriveStep g B result p q = ArriveAt g p.b p.to_b p.to_a result q.b q.to_b q.to_a × (q.a ≡ p.a)

-- ---- what holds of every pair

-- both sessions are mapped
abbrev pub IsOpen : {R : Type 0} → PairView R → Type 0
IsOpen p = (p.a.state ≡ Mapped) × (p.b.state ≡ Mapped)

-- nothing is on the way to either
abbrev pub IsAtRest : {R : Type 0} → PairView R → Type 0
IsAtRest p = (p.to_a ≡ []) × (p.to_b ≡ [])

-- of the transfers from a to b
pub record WindowHolds {R : Type 0} (p : PairView R) : Type 0 where
  -- never more are on the way than b's window
  pub bounded : length (transfers_in p.to_b) ≤ p.b.settings.incoming_window
  -- nor with all that a may still send
  pub never_over : p.a.state ≡ Mapped →
      length (transfers_in p.to_b) + p.a.sending.remote_incoming_window ≤ p.b.settings.incoming_window
  -- they are exactly the numbers between the two ends
  pub exact : IsOpen p →
      length (transfers_in p.to_b) ≡ past p.a.sending.next_outgoing_id p.b.receiving.next_incoming_id
  -- at rest the rest of the window is what b did not take since its last session flow
  pub at_most : IsOpen p → IsAtRest p → p.a.sending.remote_incoming_window ≤ p.b.settings.incoming_window
  pub at_least : IsOpen p → IsAtRest p →
      p.b.settings.incoming_window - p.b.receiving.unreported ≤ p.a.sending.remote_incoming_window
  -- and where b told all of them, the whole window is open
  pub whole : IsOpen p → IsAtRest p → p.b.receiving.unreported ≡ 0 →
      p.a.sending.remote_incoming_window ≡ p.b.settings.incoming_window

pub record PairHolds {R : Type 0} (p : PairView R) : Type 0 where
  pub to_b : WindowHolds p
  pub to_a : WindowHolds (swapped p)
