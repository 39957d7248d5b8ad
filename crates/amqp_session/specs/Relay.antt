-- Part: the promise; every call exactly; inner.
-- What a session asks the relays of its links, and how they answer.
use Rattle.std.specs.Prelude.{◌≡◌, ℕ, Bool, List, Option, Some, None, IsSome, Result}
use Rattle.amqp_memory.specs.Refusal.{SomeRefused}
use Rattle.amqp_types.specs.Attach.{AttachModel}
use Rattle.amqp_types.specs.Detach.{DetachModel}
use Rattle.amqp_types.specs.Transfer.{TransferModel}
use Rattle.amqp_types.specs.declared.definitions.Role.{Role}
use Rattle.amqp_types.specs.declared.definitions.DeliveryTag.{DeliveryTag}
use Rattle.amqp_session.specs.declared.error.SessionInnerError.{SessionInnerError}
use Rattle.amqp_session.specs.declared.error.SessionInnerError.TheVariants as Refused
use Rattle.amqp_session.specs.declared.numbers.OutputHandle.{OutputHandle}
use Rattle.amqp_session.specs.declared.deliveries.Delivery.{Delivery}
use Rattle.amqp_session.specs.declared.flow.LinkFlow.{LinkFlow}
use Rattle.amqp_session.specs.declared.error.LinkRelayError.{LinkRelayError}
use Rattle.amqp_session.specs.declared.link.AttachedLink.{AttachedLink}

-- What relays of a kind may answer: for each question a relation of old state, arguments, answer and new state.
abbrev pub AttachGives : Type 0 → Type 1
AttachGives R = R → AttachModel → Result (Unit {0}) LinkRelayError → R → Type 0

abbrev pub FlowGives : Type 0 → Type 1
FlowGives R = R → OutputHandle → LinkFlow → Result (Option LinkFlow) LinkRelayError → R → Type 0

abbrev pub TransferGives : Type 0 → Type 1
TransferGives R = R → TransferModel → List ℕ → Result (Option (ℕ × DeliveryTag)) LinkRelayError → R → Type 0

abbrev pub DispositionGives : Type 0 → Type 1
DispositionGives R = R → Role → Bool → Option (List ℕ) → DeliveryTag → Bool → R → Type 0

abbrev pub DetachGives : Type 0 → Type 1
DetachGives R = R → OutputHandle → DetachModel → Bool → Option DetachModel → R → Type 0

pub record Relays (R : Type 0) : Type 1 where
  pub attach_gives : AttachGives R
  pub flow_gives : FlowGives R
  pub transfer_gives : TransferGives R
  pub disposition_gives : DispositionGives R
  pub detach_gives : DetachGives R

-- A question to the relay of a link: the output handle of the link, how the relay stood, what it was asked, its answer, and how
-- it then stands.
pub record Question (R Q A : Type 0) : Type 0 where
  pub handle : OutputHandle
  pub before : R
  pub asked : Q
  pub answer : A
  pub after : R

abbrev pub AttachQuestion : Type 0 → Type 0
AttachQuestion R = Question R AttachModel (Result (Unit {0}) LinkRelayError)

abbrev pub FlowQuestion : Type 0 → Type 0
FlowQuestion R = Question R LinkFlow (Result (Option LinkFlow) LinkRelayError)

-- a transfer and its payload
abbrev pub TransferQuestion : Type 0 → Type 0
TransferQuestion R = Question R (TransferModel × List ℕ) (Result (Option (ℕ × DeliveryTag)) LinkRelayError)

-- What a disposition says of one delivery: the peer's role, whether it settles, the state, and the record of the delivery, which
-- has the input handle of the relay that is asked, and the tag that the relay is told.
pub record DispositionAsked : Type 0 where
  pub role : Role
  pub settled : Bool
  pub state : Option (List ℕ)
  pub delivery : Delivery

abbrev pub DispositionQuestion : Type 0 → Type 0
DispositionQuestion R = Question R DispositionAsked Bool

-- a detach, and whether the peer began it
abbrev pub DetachQuestion : Type 0 → Type 0
DetachQuestion R = Question R (DetachModel × Bool) (Option DetachModel)

-- ---- the relations of a kind, as relations of questions

abbrev pub Gives : Type 0 → Type 0 → Type 0 → Type 1
Gives R Q A = OutputHandle → R → Q → A → R → Type 0

abbrev pub of_attach : {R : Type 0} → AttachGives R → Gives R AttachModel (Result (Unit {0}) LinkRelayError)
of_attach gives o before attach answer after = gives before attach answer after

abbrev pub of_flow : {R : Type 0} → FlowGives R → Gives R LinkFlow (Result (Option LinkFlow) LinkRelayError)
of_flow gives o before flow answer after = gives before o flow answer after

abbrev pub of_transfer : {R : Type 0} → TransferGives R → Gives R (TransferModel × List ℕ) (Result (Option (ℕ × DeliveryTag)) LinkRelayError)
of_transfer gives o before t answer after = gives before t.0 t.1 answer after

abbrev pub of_disposition : {R : Type 0} → DispositionGives R → Gives R DispositionAsked Bool
of_disposition gives o before d answer after = gives before d.role d.settled d.state d.delivery.tag answer after

abbrev pub of_detach : {R : Type 0} → DetachGives R → Gives R (DetachModel × Bool) (Option DetachModel)
of_detach gives o before d answer after = gives before o d.0 d.1 answer after

-- the link's relay as it then stands
abbrev pub goes_on : {R Q A : Type 0} → Question R Q A → AttachedLink R
goes_on q = record { handle = q.handle; relay = q.after }

-- The relay that stood there was asked this, and answered as its kind may.
pub record Asks {R Q A : Type 0} (gives : Gives R Q A) (old : Option (AttachedLink R)) (q : Question R Q A) : Type 0 where
  pub attached : old ≡ Some (record { handle = q.handle; relay = q.before })
  pub stands : gives q.handle q.before q.asked q.answer q.after

-- the same, of what is asked and answered, and of how the relay is put back
pub record Asked {R Q A : Type 0} (gives : Gives R Q A) (old : Option (AttachedLink R)) (asked : Q) (answer : A)
    (IsPut : AttachedLink R → Type 0) : Type 0 where
  pub handle : OutputHandle
  pub before : R
  pub after : R
  pub attached : old ≡ Some (record { handle = handle; relay = before })
  pub stands : gives handle before asked answer after
  pub put : IsPut (record { handle = handle; relay = after })

-- why no relay was asked: none is attached, or memory was refused
abbrev pub IsUnasked : {R : Type 0} → Option (AttachedLink R) → SessionInnerError → Type 0
IsUnasked link Refused.UnattachedHandle = link ≡ None
IsUnasked link Refused.OutOfMemory = IsSome link × SomeRefused
IsUnasked link e = ⊥
