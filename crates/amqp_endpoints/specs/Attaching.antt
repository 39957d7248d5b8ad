-- Part: other calls.
-- A link is attached (AMQP 1.0 part 2, sections 2.6.3 and 2.7.3).
use Rattle.std.specs.Prelude.{ℕ, ◌≡◌, ◌≢◌, nat_eq, Bool, true, false, List, Option, Some, None, Result, Ok, Err}
use Rattle.std.specs.Map.{lookup}
use Rattle.amqp_memory.specs.Refusal.{SomeRefused}
use Rattle.amqp_types.specs.declared.performatives.Performative.TheVariants as performative
use Rattle.amqp_types.specs.Attach.{AttachModel}
use Rattle.amqp_types.specs.declared.definitions.Role.{Role}
use Rattle.amqp_types.specs.declared.definitions.Role.TheVariants.{Sender, Receiver}
use Rattle.amqp_credit.specs.declared.receiver.Renewal.{Renewal}
use Rattle.amqp_session.specs.Relay.{Relays}
use Rattle.amqp_session.specs.declared.numbers.OutputHandle.{OutputHandle}
use Rattle.amqp_engine.specs.EngineView.{output_handle_at}
use Rattle.amqp_engine.specs.declared.engine.input.Input.TheVariants as input
use Rattle.amqp_driver.specs.declared.asked.Asked.TheVariants as asked
use Rattle.amqp_driver.specs.Record.{number_or}
use Rattle.amqp_driver.specs.Stream.{StreamView}
use Rattle.amqp_driver.specs.StreamTicking.{AsksStream}
use Rattle.amqp_links.specs.declared.end.End.{End}
use Rattle.amqp_links.specs.declared.end.End.TheVariants as end
use Rattle.amqp_links.specs.Ends.{end_at}
use Rattle.amqp_links.specs.Receiving.{new_receiving}
use Rattle.amqp_links.specs.Sending.{new_sending}
use Rattle.amqp_links.specs.Session.{AddsEnd}
use Rattle.amqp_endpoints.specs.declared.endpoint.attaching.AttachError.{AttachError}
use Rattle.amqp_endpoints.specs.declared.endpoint.attaching.AttachError.TheVariants as no
use Rattle.amqp_endpoints.specs.declared.endpoint.attaching.NewEnd.{NewEnd}
use Rattle.amqp_endpoints.specs.declared.endpoint.attaching.NewEnd.TheVariants.{Sending, Receiving}
use Rattle.amqp_endpoints.specs.Endpoint.{EndpointView, HasRoom, Stands}
use Rattle.amqp_endpoints.specs.declared.place.LinkPlace.{LinkPlace}
use Rattle.amqp_endpoints.specs.Fitting.{fits_frame}
use Rattle.amqp_endpoints.specs.Places.{no_place, place_at}
use Rattle.amqp_endpoints.specs.Telling.{OnPlace}

-- the handle that is allotted to a live link of this name
abbrev pub handle_named : {R : Type 0} → StreamView R → EndpointView → List ℕ → Option OutputHandle
handle_named s v name = output_handle_at name (lookup (nat_eq v.session.0) s.driver.engine.sessions)

-- the end that a link is to have
abbrev pub end_by_role : Role → AttachModel → Option Renewal → NewEnd
end_by_role Sender a renewal = Sending (number_or 0 a.initial_delivery_count)
end_by_role Receiver a renewal = Receiving renewal a.max_message_size

abbrev pub new_end : AttachModel → Option Renewal → NewEnd
new_end a renewal = end_by_role a.role a renewal

abbrev pub end_by : NewEnd → End
end_by (Sending count) = end.Sending (new_sending count)
end_by (Receiving renewal limit) = end.Receiving (new_receiving renewal limit)

-- a sender has to say where its delivery count begins (section 2.7.3)
abbrev pub count_said : Role → Option ℕ → Option ℕ
count_said Sender count = Some (number_or 0 count)
count_said Receiver count = count

abbrev pub said_attach : AttachModel → OutputHandle → AttachModel
said_attach a h = record a { handle = h.0; initial_delivery_count = count_said a.role a.initial_delivery_count }

-- ---- the link has its end

-- nothing of what lay there stays, but whether it is listed
abbrev pub fresh_place : EndpointView → ℕ → LinkPlace
fresh_place v h = record no_place { is_listed = (place_at v.places h).is_listed }

abbrev pub AddsLink : EndpointView → ℕ → NewEnd → EndpointView → Type 0
AddsLink v h e w = OnPlace (λ l m. AddsEnd l h (end_by e) (Ok tt) m) h (fresh_place v h) v w

-- It is requested; and the link has its end where that is done, and none else. One that does not fit a frame is not requested.
abbrev pub RequestsAttach : {R : Type 0} → Bool → Relays R → EndpointView → StreamView R → AttachModel → OutputHandle → NewEnd
    → Result OutputHandle AttachError → StreamView R → EndpointView → Type 0
RequestsAttach true g v s a h e (Ok handle) s' w =
    (handle ≡ h) × AsksStream g s (input.Attach v.session a) asked.Done s' × AddsLink v h.0 e w
RequestsAttach true g v s a h e (Err (no.Asked answer)) s' w =
    (answer ≢ asked.Done) × AsksStream g s (input.Attach v.session a) answer s' × (w ≡ v)
RequestsAttach true g v s a h e result s' w = ⊥
RequestsAttach false g v s a h e result s' w = (result ≡ Err (no.Asked asked.TooLarge)) × (s' ≡ s) × (w ≡ v)

abbrev pub AsksAttach : {R : Type 0} → Relays R → EndpointView → StreamView R → AttachModel → OutputHandle → NewEnd
    → Result OutputHandle AttachError → StreamView R → EndpointView → Type 0
AsksAttach g v s a h e result s' w = RequestsAttach (fits_frame s (performative.Attach a)) g v s a h e result s' w

-- The name has a handle, which has no end; and there is room for one.
abbrev pub FindsHandle : Option OutputHandle → EndpointView → Result OutputHandle AttachError → EndpointView → Type 0
FindsHandle None v result w = (result ≡ Err no.NoLink) × (w ≡ v)
FindsHandle (Some h) v (Ok handle) w = (handle ≡ h) × (end_at v.links.ends h.0 ≡ None) × HasRoom v h.0 w
FindsHandle (Some h) v (Err no.InUse) w = (end_at v.links.ends h.0 ≢ None) × (w ≡ v)
FindsHandle (Some h) v (Err no.OutOfMemory) w = (end_at v.links.ends h.0 ≡ None) × Stands v w × SomeRefused
FindsHandle (Some h) v (Err error) w = ⊥

-- ---- the whole

-- The handle is found, and then the Attach is requested; or it is not found, for this reason.
abbrev pub AttachesBy : {R : Type 0} → Result OutputHandle AttachError → Relays R → EndpointView → StreamView R → AttachModel → Option Renewal
    → Result OutputHandle AttachError → StreamView R → EndpointView → Type 0
AttachesBy (Err error) g m s a renewal result s' w = (result ≡ Err error) × (s' ≡ s) × (w ≡ m)
AttachesBy (Ok h) g m s a renewal result s' w = AsksAttach g m s (said_attach a h) h (new_end a renewal) result s' w

-- The handle is sought by this name. It is that of the Attach, or another one, under which the link was allotted.
pub record AttachesUnder {R : Type 0} (g : Relays R) (name : List ℕ) (v : EndpointView) (s : StreamView R) (a : AttachModel) (renewal : Option Renewal)
    (result : Result OutputHandle AttachError) (s' : StreamView R) (w : EndpointView) : Type 0 where
  pub found : Result OutputHandle AttachError
  pub between : EndpointView
  pub finds : FindsHandle (handle_named s v name) v found between
  pub attaches : AttachesBy found g between s a renewal result s' w

abbrev pub AttachesLink : {R : Type 0} → Relays R → EndpointView → StreamView R → AttachModel → Option Renewal → Result OutputHandle AttachError → StreamView R
    → EndpointView → Type 0
AttachesLink g v s a renewal result s' w = AttachesUnder g a.name v s a renewal result s' w
