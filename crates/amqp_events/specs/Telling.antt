-- Part: other calls.
-- What a relay does with what it is told: its event goes to its sink, and its answer is that of its policy.
use Rattle.std.specs.Prelude.{◌≡◌, ◌⊎◌, ◌↔◌, ℕ, List, Bool, Option, Result, Ok, Err, IfOk, IsSome, IsTrue}
use Rattle.amqp_memory.specs.Refusal.{SomeRefused}
use Rattle.amqp_types.specs.Attach.{AttachModel}
use Rattle.amqp_types.specs.Detach.{DetachModel}
use Rattle.amqp_types.specs.Transfer.{TransferModel}
use Rattle.amqp_types.specs.declared.definitions.Role.{Role}
use Rattle.amqp_types.specs.declared.definitions.Role.TheVariants.{Sender, Receiver}
use Rattle.amqp_types.specs.declared.definitions.DeliveryTag.{DeliveryTag}
use Rattle.amqp_session.specs.declared.numbers.OutputHandle.{OutputHandle}
use Rattle.amqp_session.specs.declared.flow.LinkFlow.{LinkFlow}
use Rattle.amqp_session.specs.declared.error.LinkRelayError.{LinkRelayError}
use Rattle.amqp_session.specs.declared.error.LinkRelayError.TheVariants.{OutOfMemory, TransferFrameToSender}
use Rattle.amqp_events.specs.declared.event.LinkNames.{LinkNames}
use Rattle.amqp_events.specs.declared.event.Event.{Event}
use Rattle.amqp_events.specs.declared.relay.EventRelay.{EventRelay}
use Rattle.amqp_events.specs.Event.{attached, flowed, transferred, disposed, detached}
use Rattle.amqp_events.specs.Policy.{opened_by, flow_answer, detach_answer, IsEchoed}

-- How a sink takes an event, and how it notes one that was missed.
abbrev pub Puts : Type 0 → Type 1
Puts S = S → Event → Result (Unit {0}) LinkRelayError → S → Type 0

abbrev pub Skips : Type 0 → Type 1
Skips S = S → S → Type 0

-- ---- one event, and how the relay then stands

-- whether it was taken, whatever else is answered
abbrev pub outcome : {A : Type 0} → Result A LinkRelayError → Result (Unit {0}) LinkRelayError
outcome (Ok answer) = Ok tt
outcome (Err why) = Err why

-- the names that are known then: those of the event, where it was taken
abbrev pub names_after : LinkNames → Event → Result (Unit {0}) LinkRelayError → LinkNames
names_after link e (Ok done) = e.link
names_after link e (Err why) = link

-- This event alone is put into the sink, once.
abbrev pub Tells : {S : Type 0} → Puts S → EventRelay S → Event → Result (Unit {0}) LinkRelayError → EventRelay S → Type 0
Tells puts old e result new =
    puts old.sink e result new.sink × (new.link ≡ names_after old.link e result) × (new.policy ≡ old.policy)

-- An event that nobody can refuse: it is taken, or it is noted that it was missed.
abbrev pub Notes : {S : Type 0} → Puts S → Skips S → S → Event → S → Type 0
Notes puts misses s e t =
    puts s e (Ok tt) t ⊎ ((why : LinkRelayError) × (m : _) × puts s e (Err why) m × misses m t)

-- The relay but for its sink stays.
abbrev pub Stays : {S : Type 0} → EventRelay S → EventRelay S → Type 0
Stays old new = (new.link ≡ old.link) × (new.policy ≡ old.policy)

-- ---- the calls

abbrev pub AttachTold : {S : Type 0} → Puts S → EventRelay S → AttachModel → Result (Unit {0}) LinkRelayError → EventRelay S → Type 0
AttachTold puts old a result new = Tells puts old (attached old.link a) result new

abbrev pub FlowTold : {S : Type 0} → Puts S → EventRelay S → OutputHandle → LinkFlow → Result (Option LinkFlow) LinkRelayError → EventRelay S → Type 0
FlowTold puts old output f result new =
    Tells puts old (flowed old.link output f) (outcome result) new × IfOk result (λ answer. answer ≡ flow_answer old.policy output f)

-- to the sending end none comes; else it is told, but where it opens a delivery whose tag cannot be shared
abbrev pub TransferToldAt : {S : Type 0} → Role → Puts S → EventRelay S → TransferModel → List ℕ → Result (Option (ℕ × DeliveryTag)) LinkRelayError
    → EventRelay S → Type 0
TransferToldAt Sender puts old t payload result new = (result ≡ Err TransferFrameToSender) × (new ≡ old)
TransferToldAt Receiver puts old t payload result new =
    (Tells puts old (transferred old.link t payload) (outcome result) new × IfOk result (λ named. named ≡ opened_by old.policy t))
    ⊎ (IsSome (opened_by old.policy t) × (result ≡ Err OutOfMemory) × (new ≡ old) × SomeRefused)

abbrev pub TransferTold : {S : Type 0} → Puts S → EventRelay S → TransferModel → List ℕ → Result (Option (ℕ × DeliveryTag)) LinkRelayError
    → EventRelay S → Type 0
TransferTold puts old t payload result new = TransferToldAt old.policy.role puts old t payload result new

-- missed too where the tag or the state cannot be shared
abbrev pub DispositionTold : {S : Type 0} → Puts S → Skips S → EventRelay S → Role → Bool → Option (List ℕ) → DeliveryTag → Bool → EventRelay S → Type 0
DispositionTold puts misses old role settled state tag answer new =
    (IsTrue answer ↔ IsEchoed old.policy.echoed role settled state) × Stays old new
    × (Notes puts misses old.sink (disposed old.link role settled state tag) new.sink ⊎ (misses old.sink new.sink × SomeRefused))

abbrev pub DetachTold : {S : Type 0} → Puts S → Skips S → EventRelay S → OutputHandle → DetachModel → Bool → Option DetachModel → EventRelay S → Type 0
DetachTold puts misses old output d remote_initiated answer new =
    (answer ≡ detach_answer old.policy output d remote_initiated) × Stays old new
    × Notes puts misses old.sink (detached old.link output d remote_initiated) new.sink
