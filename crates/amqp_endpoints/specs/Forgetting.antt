-- Part: other calls.
-- What the session lets go of what has come, with what its link sends for it (AMQP 1.0 part 2, sections 2.6.12 and 2.6.14).
use Rattle.std.specs.Prelude.{ℕ, ◌≡◌, Bool, true, false, Option, Some, None}
use Rattle.amqp_types.specs.declared.definitions.Role.TheVariants.{Receiver}
use Rattle.amqp_session.specs.Relay.{Relays}
use Rattle.amqp_driver.specs.declared.asked.Asked.TheVariants as asked
use Rattle.amqp_driver.specs.Stream.{StreamView}
use Rattle.amqp_links.specs.declared.receiving.LinkFault.{LinkFault}
use Rattle.amqp_links.specs.declared.session.granting.FlowWish.TheVariants as wish
use Rattle.amqp_links.specs.declared.session.taking.ReceivedPart.{ReceivedPart}
use Rattle.amqp_endpoints.specs.declared.event.LinkAnswer.{LinkAnswer}
use Rattle.amqp_endpoints.specs.declared.event.LinkAnswer.TheVariants.{Asked, NotWanted}
use Rattle.amqp_endpoints.specs.Endpoint.{EndpointView}
use Rattle.amqp_endpoints.specs.Flowing.{EndsFor, SaysFlow}
use Rattle.amqp_endpoints.specs.Settling.{LetsOneGo}

-- the delivery that a part settles or aborts, where it was unsettled
abbrev pub number_if : Option ℕ → ℕ → Option ℕ
number_if None n = None
number_if (Some given) n = Some n

abbrev pub settled_number : ReceivedPart → Option ℕ
settled_number p = number_if p.settled p.part.number

-- The session lets it go, where there is one; and whether memory was there for it.
abbrev pub Forgets : {R : Type 0} → Option ℕ → Relays R → EndpointView → StreamView R → Bool → StreamView R → Type 0
Forgets None g v s done s' = (done ≡ true) × (s' ≡ s)
Forgets (Some n) g v s done s' = LetsOneGo g v s Receiver n done s'

-- where it was not, nothing else happens
abbrev pub Lacks : {R : Type 0} → EndpointView → StreamView R → LinkAnswer → StreamView R → EndpointView → Type 0
Lacks v m answer s' w = (answer ≡ Asked asked.NoMemory) × (s' ≡ m) × (w ≡ v)

-- credit is renewed
abbrev pub RenewsIf : {R : Type 0} → Bool → Relays R → EndpointView → StreamView R → ℕ → LinkAnswer → StreamView R → EndpointView → Type 0
RenewsIf true g v m h answer s' w = SaysFlow g v m h wish.Renew answer s' w
RenewsIf false g v m h answer s' w = Lacks v m answer s' w

abbrev pub RenewsAfter : {R : Type 0} → Option ℕ → Relays R → EndpointView → StreamView R → ℕ → LinkAnswer → StreamView R → EndpointView → Type 0
RenewsAfter number g v s h answer s' w =
    (done : Bool) × (m : StreamView _) × Forgets number g v s done m × RenewsIf done g v m h answer s' w

-- the link ends
abbrev pub EndsIf : {R : Type 0} → Bool → Relays R → EndpointView → StreamView R → ℕ → LinkFault → LinkAnswer → StreamView R → EndpointView → Type 0
EndsIf true g v m h f answer s' w = EndsFor g v m h f answer s' w
EndsIf false g v m h f answer s' w = Lacks v m answer s' w

abbrev pub EndsAfter : {R : Type 0} → Option ℕ → Relays R → EndpointView → StreamView R → ℕ → LinkFault → LinkAnswer → StreamView R → EndpointView → Type 0
EndsAfter number g v s h f answer s' w =
    (done : Bool) × (m : StreamView _) × Forgets number g v s done m × EndsIf done g v m h f answer s' w

-- nothing is sent
abbrev pub passes_with : Bool → LinkAnswer
passes_with true = NotWanted
passes_with false = Asked asked.NoMemory

abbrev pub PassesAfter : {R : Type 0} → Option ℕ → Relays R → EndpointView → StreamView R → LinkAnswer → StreamView R → Type 0
PassesAfter number g v s answer s' = (done : Bool) × Forgets number g v s done s' × (answer ≡ passes_with done)
