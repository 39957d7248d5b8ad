-- Part: other calls.
-- What of a session's links waits for the peer's window (AMQP 1.0 part 2, section 2.5.6).
use Rattle.std.specs.Prelude.{ℕ, ◌≡◌, ◌-◌, ◌&&◌, ◌++◌, nat_le, nat_lt, length, Bool, true, false, List, [], ◌∷◌, Option, Some, None}
use Rattle.amqp_memory.specs.Refusal.{SomeRefused}
use Rattle.amqp_session.specs.Session.{SessionView}
use Rattle.amqp_driver.specs.declared.asked.Asked.{Asked as AskedModel}
use Rattle.amqp_driver.specs.declared.asked.Asked.TheVariants as asked
use Rattle.amqp_driver.specs.Stream.{StreamView}
use Rattle.amqp_driver.specs.Told.{session_at}
use Rattle.amqp_endpoints.specs.declared.event.LinkAnswer.{LinkAnswer}
use Rattle.amqp_endpoints.specs.declared.event.LinkAnswer.TheVariants.{NotWanted, HeldBack, Asked}
use Rattle.amqp_endpoints.specs.declared.event.LinkEvent.{LinkEvent}
use Rattle.amqp_endpoints.specs.declared.event.LinkEvent.TheVariants.{Nothing, Due}
use Rattle.amqp_endpoints.specs.declared.late.LateLink.{LateLink}
use Rattle.amqp_endpoints.specs.declared.place.LinkPlace.{LinkPlace}
use Rattle.amqp_endpoints.specs.Endpoint.{EndpointView}
use Rattle.amqp_endpoints.specs.Places.{PutsPlace, place_at}

-- how many transfers of the session wait
abbrev pub held_in : {R : Type 0} → Option (SessionView R) → ℕ
held_in None = 0
held_in (Some s) = length s.sending.held

abbrev pub held_back : {R : Type 0} → EndpointView → StreamView R → ℕ
held_back v s = held_in (session_at s.driver.engine (Some v.session.0))

-- Transfers go out in the order in which they were sent: the last one of the link waits where fewer were sent after it than wait.
abbrev pub is_held_back : {R : Type 0} → EndpointView → StreamView R → ℕ → Bool
is_held_back v s h = nat_lt 0 (place_at v.places h).sent && nat_lt (v.sent - (place_at v.places h).sent) (held_back v s)

-- ---- a call that waits

abbrev pub listed : EndpointView → ℕ → Bool → LinkPlace
listed v h is = record (place_at v.places h) { is_listed = is }

-- the link is listed, unless it is already
abbrev pub ListsUnless : Bool → EndpointView → ℕ → EndpointView → Type 0
ListsUnless true v h w = w ≡ v
ListsUnless false v h w = PutsPlace v.places h (listed v h true) w.places
    × (w ≡ record v { places = w.places; late = v.late ++ record { handle = h; sent = v.sent } ∷ [] })

-- It is; or memory was refused for that, and nothing has changed.
abbrev pub HoldsBack : EndpointView → ℕ → LinkAnswer → EndpointView → Type 0
HoldsBack v h HeldBack w = ListsUnless (place_at v.places h).is_listed v h w
HoldsBack v h (Asked asked.NoMemory) w = (w ≡ v) × SomeRefused
HoldsBack v h answer w = ⊥

-- it is asked for
abbrev pub IsAsked : {R : Type 0} → (AskedModel → StreamView R → EndpointView → Type 0) → LinkAnswer → StreamView R → EndpointView → Type 0
IsAsked Asks (Asked a) s' w = Asks a s' w
IsAsked Asks answer s' w = ⊥

-- It is asked for, unless transfers of the link wait.
abbrev pub AsksUnless : {R : Type 0} → Bool → (AskedModel → StreamView R → EndpointView → Type 0) → EndpointView → StreamView R → ℕ → LinkAnswer → StreamView R
    → EndpointView → Type 0
AsksUnless true Asks v s h answer s' w = HoldsBack v h answer w × (s' ≡ s)
AsksUnless false Asks v s h answer s' w = IsAsked Asks answer s' w

-- none is wanted
abbrev pub SendsNone : {R : Type 0} → EndpointView → StreamView R → LinkAnswer → StreamView R → EndpointView → Type 0
SendsNone v s answer s' w = (answer ≡ NotWanted) × (s' ≡ s) × (w ≡ v)

-- ---- it may be made again

abbrev pub DueIf : Bool → LateLink → List LateLink → EndpointView → LinkEvent → EndpointView → Type 0
DueIf true l ls v e w = (e ≡ Due l.handle) × PutsPlace v.places l.handle (listed v l.handle false) w.places
    × (w ≡ record v { places = w.places; late = ls })
DueIf false l ls v e w = (e ≡ Nothing) × (w ≡ v)

-- The oldest one that is listed, where as many have been sent since as wait.
abbrev pub TakesDue : {R : Type 0} → List LateLink → EndpointView → StreamView R → LinkEvent → EndpointView → Type 0
TakesDue [] v s e w = (e ≡ Nothing) × (w ≡ v)
TakesDue (l ∷ ls) v s e w = DueIf (nat_le (held_back v s) (v.sent - l.sent)) l ls v e w
