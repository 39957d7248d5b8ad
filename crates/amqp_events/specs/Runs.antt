-- Part: other calls.
-- What a relay over a queue of its own is told in a row, and the events that its queue then holds.
use Rattle.std.specs.Prelude.{◌≡◌, ◌⊎◌, ◌+◌, ◌-◌, ◌^◌, min, ℕ, zero, suc, List, [], ◌∷◌, ◌++◌, Bool, Option, Result, Ok, Err}
use Rattle.amqp_types.specs.Attach.{AttachModel}
use Rattle.amqp_types.specs.Detach.{DetachModel}
use Rattle.amqp_types.specs.Transfer.{TransferModel}
use Rattle.amqp_types.specs.declared.definitions.Role.{Role}
use Rattle.amqp_types.specs.declared.definitions.DeliveryTag.{DeliveryTag}
use Rattle.amqp_session.specs.Relay.{Relays}
use Rattle.amqp_session.specs.declared.numbers.OutputHandle.{OutputHandle}
use Rattle.amqp_session.specs.declared.flow.LinkFlow.{LinkFlow}
use Rattle.amqp_session.specs.declared.error.LinkRelayError.{LinkRelayError}
use Rattle.amqp_events.specs.declared.event.LinkNames.{LinkNames}
use Rattle.amqp_events.specs.declared.event.Event.{Event}
use Rattle.amqp_events.specs.declared.relay.EventRelay.{EventRelay}
use Rattle.amqp_events.specs.Event.{attached, flowed, transferred, disposed, detached}
use Rattle.amqp_events.specs.Queue.{QueueView}

-- one call of the relay: its arguments and its answer
pub data Told : Type 0 where
  ToldAttach : AttachModel → Result (Unit {0}) LinkRelayError → Told
  ToldFlow : OutputHandle → LinkFlow → Result (Option LinkFlow) LinkRelayError → Told
  ToldTransfer : TransferModel → List ℕ → Result (Option (ℕ × DeliveryTag)) LinkRelayError → Told
  ToldDisposition : Role → Bool → Option (List ℕ) → DeliveryTag → Bool → Told
  ToldDetach : OutputHandle → DetachModel → Bool → Option DetachModel → Told

-- a relay over a queue, as contracts see it
abbrev pub Queued : Type 0
Queued = EventRelay QueueView

abbrev pub Step : Relays Queued → Queued → Told → Queued → Type 0
Step g old (ToldAttach a result) new = g.attach_gives old a result new
Step g old (ToldFlow output f result) new = g.flow_gives old output f result new
Step g old (ToldTransfer t payload result) new = g.transfer_gives old t payload result new
Step g old (ToldDisposition role settled state tag answer) new = g.disposition_gives old role settled state tag answer new
Step g old (ToldDetach output d remote_initiated answer) new = g.detach_gives old output d remote_initiated answer new

-- calls in a row
abbrev pub Run : Relays Queued → Queued → List Told → Queued → Type 0
Run g old [] new = new ≡ old
Run g old (t ∷ ts) new = (m : Queued) × Step g old t m × Run g m ts new

-- ---- the events of calls in a row, and how many were missed

-- of a call that may be refused: its event and what comes after it, or what comes after it alone
abbrev pub IfTaken : {A : Type 0} → Result A LinkRelayError → LinkNames → Event → List Event → (LinkNames → List Event → Type 0) → Type 0
IfTaken (Ok answer) link e es Others = (rest : List Event) × (es ≡ e ∷ rest) × Others e.link rest
IfTaken (Err why) link e es Others = Others link es

-- of a call that may not: its event and what comes after it, or it is one of those that were missed
abbrev pub IfHeard : Event → List Event → ℕ → (List Event → ℕ → Type 0) → Type 0
IfHeard e es missed Others =
    ((rest : List Event) × (es ≡ e ∷ rest) × Others rest missed) ⊎ ((others : ℕ) × (missed ≡ suc others) × Others es others)

-- Each event is under the names that were known when it came.
abbrev pub AreEventsOf : List Told → LinkNames → List Event → ℕ → Type 0
AreEventsOf [] link es missed = (es ≡ []) × (missed ≡ 0)
AreEventsOf (ToldAttach a result ∷ ts) link es missed = IfTaken result link (attached link a) es (λ l rest. AreEventsOf ts l rest missed)
AreEventsOf (ToldFlow output f result ∷ ts) link es missed = IfTaken result link (flowed link output f) es (λ l rest. AreEventsOf ts l rest missed)
AreEventsOf (ToldTransfer t payload result ∷ ts) link es missed = IfTaken result link (transferred link t payload) es (λ l rest. AreEventsOf ts l rest missed)
AreEventsOf (ToldDisposition role settled state tag answer ∷ ts) link es missed = IfHeard (disposed link role settled state tag) es missed (λ rest others. AreEventsOf ts link rest others)
AreEventsOf (ToldDetach output d remote_initiated answer ∷ ts) link es missed = IfHeard (detached link output d remote_initiated) es missed (λ rest others. AreEventsOf ts link rest others)

-- ---- the queue then

abbrev pub missed_after : ℕ → ℕ → ℕ
missed_after count zero = count
missed_after count (suc more) = missed_after (min (2 ^ 64 - 1) (count + 1)) more

-- the events after those that it held, and so many more that were missed
abbrev pub queue_after : QueueView → List Event → ℕ → QueueView
queue_after q es missed = record q { events = q.events ++ es; missed = missed_after q.missed missed }

pub record RunGives (old : Queued) (ts : List Told) (new : Queued) : Type 0 where
  pub events : List Event
  pub missed : ℕ
  pub are_of : AreEventsOf ts old.link events missed
  pub queue : new.sink ≡ queue_after old.sink events missed
