-- Part: other calls.
-- What this side says of its links: flows, and Detaches (AMQP 1.0 part 2, sections 2.6.3 to 2.6.7 and 2.7.4).
use Rattle.std.specs.Prelude.{ℕ, ◌≡◌, ◌⊎◌, Bool, true, false, Option, Some, None}
use Rattle.amqp_memory.specs.Refusal.{SomeRefused}
use Rattle.amqp_types.specs.declared.performatives.Performative.TheVariants as performative
use Rattle.amqp_types.specs.Detach.{DetachModel}
use Rattle.amqp_types.specs.Error.{ErrorModel}
use Rattle.amqp_types.specs.declared.definitions.Role.{Role}
use Rattle.amqp_session.specs.Relay.{Relays}
use Rattle.amqp_session.specs.declared.flow.LinkFlow.{LinkFlow}
use Rattle.amqp_engine.specs.declared.engine.input.Input.TheVariants as input
use Rattle.amqp_driver.specs.declared.asked.Asked.{Asked}
use Rattle.amqp_driver.specs.declared.asked.Asked.TheVariants as asked
use Rattle.amqp_driver.specs.Stream.{StreamView}
use Rattle.amqp_driver.specs.StreamTaking.{error_of}
use Rattle.amqp_driver.specs.StreamTicking.{AsksStream}
use Rattle.amqp_links.specs.declared.end.End.{End}
use Rattle.amqp_links.specs.declared.life.Life.{Life}
use Rattle.amqp_links.specs.declared.life.Life.TheVariants.{Attaching, Detaching, Detached}
use Rattle.amqp_links.specs.declared.receiving.LinkFault.{LinkFault}
use Rattle.amqp_links.specs.declared.session.granting.FlowWish.{FlowWish}
use Rattle.amqp_links.specs.declared.session.granting.FlowWish.TheVariants as wish
use Rattle.amqp_links.specs.declared.session.granting.LinkFlow as says
use Rattle.amqp_links.specs.declared.session.granting.PreparedFlow.{PreparedFlow}
use Rattle.amqp_links.specs.Attaching.{DetachesAt}
use Rattle.amqp_links.specs.Ends.{end_at}
use Rattle.amqp_links.specs.PreparingFlow.{PreparesFlow, FinishesFlow}
use Rattle.amqp_links.specs.Receiving.{condition_of}
use Rattle.amqp_links.specs.Session.{life_of}
use Rattle.amqp_endpoints.specs.declared.event.LinkAnswer.{LinkAnswer}
use Rattle.amqp_endpoints.specs.declared.event.LinkAnswer.TheVariants.{HeldBack, NotWanted}
use Rattle.amqp_endpoints.specs.declared.place.LinkPlace.{LinkPlace}
use Rattle.amqp_endpoints.specs.Endpoint.{EndpointView, OnLinks}
use Rattle.amqp_endpoints.specs.Fitting.{fits_frame}
use Rattle.amqp_endpoints.specs.Places.{place_at}
use Rattle.amqp_endpoints.specs.Telling.{OnPlace}
use Rattle.amqp_endpoints.specs.Waiting.{AsksUnless, IsAsked, SendsNone, is_held_back}

abbrev pub is_done : Asked → Bool
is_done asked.Done = true
is_done a = false

-- ---- a flow

-- the flow that says this of a link
abbrev pub flow_of : ℕ → says.LinkFlow → LinkFlow
flow_of h f = record {
  handle = record { 0 = h };
  delivery_count = Some f.delivery_count;
  link_credit = Some f.link_credit;
  available = f.available;
  drain = f.drain;
  echo = false;
  properties = None;
}

abbrev pub FinishesIf : Bool → PreparedFlow → EndpointView → EndpointView → Type 0
FinishesIf true q v w = OnLinks (λ l m. FinishesFlow (end_at l.ends q.handle) q l m) v w
FinishesIf false q v w = w ≡ v

-- It is requested; and the link stands as after it where that is done, and else as before.
abbrev pub AsksFlow : {R : Type 0} → Relays R → EndpointView → StreamView R → ℕ → PreparedFlow → Asked → StreamView R → EndpointView → Type 0
AsksFlow g v s h q a s' w = AsksStream g s (input.Flow v.session (flow_of h q.said)) a s' × FinishesIf (is_done a) q v w

-- the flow that was prepared, if one was; it waits where transfers of the link do
abbrev pub SaysPrepared : {R : Type 0} → Option PreparedFlow → Relays R → EndpointView → StreamView R → ℕ → LinkAnswer → StreamView R → EndpointView → Type 0
SaysPrepared None g v s h answer s' w = SendsNone v s answer s' w
SaysPrepared (Some q) g v s h answer s' w = AsksUnless (is_held_back v s h) (λ a s' w. AsksFlow g v s h q a s' w) v s h answer s' w

-- The flow is what the link says for the wish, if it says one.
abbrev pub SaysFlow : {R : Type 0} → Relays R → EndpointView → StreamView R → ℕ → FlowWish → LinkAnswer → StreamView R → EndpointView → Type 0
SaysFlow g v s h wished answer s' w =
    (prepared : Option PreparedFlow) × PreparesFlow wished (end_at v.links.ends h) h prepared × SaysPrepared prepared g v s h answer s' w

-- ---- a Detach

abbrev pub if_owed : Bool → Bool → Option Bool
if_owed true waits = Some waits
if_owed false waits = None

-- Whether the peer's Detach is to come after this side's; where this side's may be sent: it was not sent before, or is owed.
abbrev pub waits_for : Life → Bool → Option Bool
waits_for Detaching owes = if_owed owes true
waits_for Detached owes = if_owed owes false
waits_for life owes = Some true

abbrev pub waits_at : Option End → Bool → Option Bool
waits_at None owes = None
waits_at (Some e) owes = waits_for (life_of e) owes

abbrev pub awaits : EndpointView → ℕ → Option Bool
awaits v h = waits_at (end_at v.links.ends h) (place_at v.places h).owes

abbrev pub detach_of : ℕ → Bool → Option ErrorModel → DetachModel
detach_of h closed error = record { handle = h; closed = closed; error = error }

-- none is owed any more
abbrev pub paid : EndpointView → ℕ → LinkPlace
paid v h = record (place_at v.places h) { owes = false }

abbrev pub DetachesIf : Bool → ℕ → EndpointView → EndpointView → Type 0
DetachesIf true h v w = (life : Option Life) × OnPlace (λ l m. DetachesAt (end_at l.ends h) l h life m) h (paid v h) v w
DetachesIf false h v w = w ≡ v

-- It is requested; and the link is detached where that is done, and else stands as before. One that does not fit a frame is not requested.
abbrev pub RequestsDetach : {R : Type 0} → Bool → Relays R → EndpointView → StreamView R → ℕ → DetachModel → Bool → Asked → StreamView R → EndpointView → Type 0
RequestsDetach true g v s h d waits a s' w = AsksStream g s (input.Detach v.session d waits) a s' × DetachesIf (is_done a) h v w
RequestsDetach false g v s h d waits a s' w = (a ≡ asked.TooLarge) × (s' ≡ s) × (w ≡ v)

abbrev pub AsksDetach : {R : Type 0} → Relays R → EndpointView → StreamView R → ℕ → Bool → Option ErrorModel → Bool → Asked → StreamView R → EndpointView → Type 0
AsksDetach g v s h closed error waits a s' w =
    RequestsDetach (fits_frame s (performative.Detach (detach_of h closed error))) g v s h (detach_of h closed error) waits a s' w

abbrev pub DetachesFor : {R : Type 0} → Option Bool → Relays R → EndpointView → StreamView R → ℕ → Bool → Option ErrorModel → LinkAnswer → StreamView R
    → EndpointView → Type 0
DetachesFor None g v s h closed error answer s' w = SendsNone v s answer s' w
DetachesFor (Some waits) g v s h closed error answer s' w =
    AsksUnless (is_held_back v s h) (λ a s' w. AsksDetach g v s h closed error waits a s' w) v s h answer s' w

-- the peer's Attach is still to come
abbrev pub is_new : Life → Bool
is_new Attaching = true
is_new life = false

abbrev pub is_attaching : Option End → Bool
is_attaching None = false
is_attaching (Some e) = is_new (life_of e)

abbrev pub DetachesUnless : {R : Type 0} → Bool → Relays R → EndpointView → StreamView R → ℕ → Bool → Option ErrorModel → LinkAnswer → StreamView R → EndpointView
    → Type 0
DetachesUnless true g v s h closed error answer s' w = (answer ≡ HeldBack) × (s' ≡ s) × (w ≡ v)
DetachesUnless false g v s h closed error answer s' w = DetachesFor (awaits v h) g v s h closed error answer s' w

-- It waits where transfers of the link do, and until the peer's Attach has come.
abbrev pub Detaches : {R : Type 0} → Relays R → EndpointView → StreamView R → ℕ → Bool → Option ErrorModel → LinkAnswer → StreamView R → EndpointView → Type 0
Detaches g v s h closed error answer s' w = DetachesUnless (is_attaching (end_at v.links.ends h)) g v s h closed error answer s' w

-- ---- what an event asks for

-- the error by which a link ends for what the peer may not do (sections 2.8.15 and 2.8.18)
abbrev pub fault_error : LinkFault → ErrorModel
fault_error f = error_of (condition_of f)

-- The Detach is requested, with that error; or memory for it was refused, and nothing has changed.
abbrev pub AsksEnd : {R : Type 0} → Relays R → EndpointView → StreamView R → ℕ → LinkFault → Bool → Asked → StreamView R → EndpointView → Type 0
AsksEnd g v s h f waits a s' w =
    AsksDetach g v s h true (Some (fault_error f)) waits a s' w ⊎ ((a ≡ asked.NoMemory) × (s' ≡ s) × (w ≡ v) × SomeRefused)

abbrev pub EndsIfOwed : {R : Type 0} → Option Bool → Relays R → EndpointView → StreamView R → ℕ → LinkFault → LinkAnswer → StreamView R → EndpointView → Type 0
EndsIfOwed None g v s h f answer s' w = SendsNone v s answer s' w
EndsIfOwed (Some waits) g v s h f answer s' w = IsAsked (λ a s' w. AsksEnd g v s h f waits a s' w) answer s' w

-- The link ends for good, where this side has not detached it.
abbrev pub EndsFor : {R : Type 0} → Relays R → EndpointView → StreamView R → ℕ → LinkFault → LinkAnswer → StreamView R → EndpointView → Type 0
EndsFor g v s h f answer s' w = EndsIfOwed (awaits v h) g v s h f answer s' w

-- What a link owes the peer: a Detach, or a flow in answer.
abbrev pub Pays : {R : Type 0} → Bool → Relays R → EndpointView → StreamView R → ℕ → ℕ → LinkAnswer → StreamView R → EndpointView → Type 0
Pays true g v s h available answer s' w = Detaches g v s h (place_at v.places h).closes None answer s' w
Pays false g v s h available answer s' w = SaysFlow g v s h (wish.Answer available) answer s' w

-- The session lets go what this side's relay has settled; what the peer has settled is gone.
abbrev pub Releases : {R : Type 0} → Bool → Relays R → EndpointView → StreamView R → Role → ℕ → ℕ → LinkAnswer → StreamView R → Type 0
Releases true g v s role first last answer s' = (answer ≡ NotWanted) × (s' ≡ s)
Releases false g v s role first last answer s' = IsAsked (λ a s' w. AsksStream g s (input.Settle v.session role first (Some last)) a s') answer s' v
