-- Part: other calls.
-- Deliveries of a session are settled by this side (AMQP 1.0 part 2, sections 2.6.12 and 2.7.6).
use Rattle.std.specs.Prelude.{ℕ, ◌≡◌, Bool, true, false, not, List, Option, Some, None, Result, Ok, Err}
use Rattle.amqp_types.specs.declared.definitions.Role.{Role}
use Rattle.amqp_types.specs.declared.definitions.Role.TheVariants.{Sender, Receiver}
use Rattle.amqp_types.specs.Disposition.{DispositionModel}
use Rattle.amqp_session.specs.Relay.{Relays}
use Rattle.amqp_engine.specs.declared.engine.input.Input.TheVariants as input
use Rattle.amqp_driver.specs.declared.asked.Asked.{Asked}
use Rattle.amqp_driver.specs.declared.asked.Asked.TheVariants as asked
use Rattle.amqp_driver.specs.Record.{number_or}
use Rattle.amqp_driver.specs.Stream.{StreamView}
use Rattle.amqp_driver.specs.StreamTicking.{AsksStream, DisposesStream}
use Rattle.amqp_links.specs.declared.end.End.{End}
use Rattle.amqp_links.specs.declared.end.End.TheVariants.{Sending, Receiving}
use Rattle.amqp_links.specs.Ends.{end_at}
use Rattle.amqp_links.specs.Settling.{left_at}
use Rattle.amqp_unsettled.specs.declared.entry.Entry.{Entry}
use Rattle.amqp_endpoints.specs.declared.endpoint.settling.NoMemory.{NoMemory}
use Rattle.amqp_endpoints.specs.Endpoint.{EndpointView, LeavesLink}

-- where they are settled the session lets them go
abbrev pub LetsGo : {R : Type 0} → Bool → Relays R → EndpointView → StreamView R → Role → ℕ → ℕ → Asked → StreamView R → Type 0
LetsGo false g v s role first last a s' = (a ≡ asked.Done) × (s' ≡ s)
LetsGo true g v s role first last a s' = AsksStream g s (input.Settle v.session role first (Some last)) a s'

-- It is a disposition; and where that is done and settles them, the session lets them go.
abbrev pub SettlesThen : {R : Type 0} → Option Asked → Relays R → EndpointView → StreamView R → Role → ℕ → ℕ → Bool → Option Asked → StreamView R → Type 0
SettlesThen (Some asked.Done) g v m role first last settled answer s' = (a : Asked) × (answer ≡ Some a) × LetsGo settled g v m role first last a s'
SettlesThen disposed g v m role first last settled answer s' = (answer ≡ disposed) × (s' ≡ m)

pub record SettlesBy {R : Type 0} (g : Relays R) (v : EndpointView) (s : StreamView R) (role : Role) (first last : ℕ) (settled : Bool)
    (state : Option (Option (List ℕ))) (answer : Option Asked) (s' : StreamView R) : Type 0 where
  pub disposed : Option Asked
  pub between : StreamView R
  pub disposes : DisposesStream g s v.session.0 role first last settled state disposed between
  pub then : SettlesThen disposed g v between role first last settled answer s'

-- The same by a disposition of any state. One that names no last number means the first alone.
pub record SettlesAs {R : Type 0} (g : Relays R) (v : EndpointView) (s : StreamView R) (d : DispositionModel) (answer : Asked) (s' : StreamView R) : Type 0 where
  pub disposed : Asked
  pub between : StreamView R
  pub disposes : AsksStream g s (input.Disposition v.session d) disposed between
  pub then : SettlesThen (Some disposed) g v between d.role d.first (number_or d.first d.last) d.settled (Some answer) s'

-- ---- what is left on a link

-- this side's role
abbrev pub role_at : Option End → Role
role_at None = Sender
role_at (Some (Sending s)) = Sender
role_at (Some (Receiving s)) = Receiver

abbrev pub lacks_memory : Asked → Bool
lacks_memory asked.NoMemory = true
lacks_memory a = false

-- the session lets one delivery go, and memory was there for it, or not
abbrev pub LetsOneGo : {R : Type 0} → Relays R → EndpointView → StreamView R → Role → ℕ → Bool → StreamView R → Type 0
LetsOneGo g v s role n done s' = (a : Asked) × AsksStream g s (input.Settle v.session role n (Some n)) a s' × (done ≡ not (lacks_memory a))

-- the oldest one is taken out
abbrev pub IsLeft : Result (Option Entry) NoMemory → EndpointView → ℕ → EndpointView → Type 0
IsLeft (Ok given) v h w = LeavesLink v h given w
IsLeft (Err e) v h w = ⊥

-- unless memory was refused to let it go
abbrev pub LeavesUnless : Bool → EndpointView → ℕ → Result (Option Entry) NoMemory → EndpointView → Type 0
LeavesUnless true v h result w = (result ≡ Err (record {})) × (w ≡ v)
LeavesUnless false v h result w = IsLeft result v h w

-- The session is asked to let the oldest one go, and it is taken out then.
abbrev pub LeavesBy : {R : Type 0} → Option Entry → Relays R → EndpointView → StreamView R → ℕ → Result (Option Entry) NoMemory → StreamView R → EndpointView → Type 0
LeavesBy None g v s h result s' w = (result ≡ Ok None) × (s' ≡ s) × (w ≡ v)
LeavesBy (Some e) g v s h result s' w = (a : Asked)
    × AsksStream g s (input.Settle v.session (role_at (end_at v.links.ends h)) e.number (Some e.number)) a s' × LeavesUnless (lacks_memory a) v h result w

abbrev pub LeavesNext : {R : Type 0} → Relays R → EndpointView → StreamView R → ℕ → Result (Option Entry) NoMemory → StreamView R → EndpointView → Type 0
LeavesNext g v s h result s' w = LeavesBy (left_at (end_at v.links.ends h) v.links h) g v s h result s' w
