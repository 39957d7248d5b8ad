-- Part: other calls.
-- The calls on a session's links, by the numbers and the bytes that C says, and what it is told.
use Rattle.std.specs.Prelude.{◌≡◌, ◌⊎◌, ℕ, Bool, true, false, List, Option, Some, None, Result, Ok, Err, if◌then◌else◌, nat_eq, not}
use Rattle.std.specs.Str.{IsUtf8}
use Rattle.amqp_memory.specs.Refusal.{SomeRefused}
use Rattle.amqp_types.specs.Attach.{AttachModel}
use Rattle.amqp_types.specs.Disposition.{DispositionModel}
use Rattle.amqp_types.specs.Error.{ErrorModel}
use Rattle.amqp_types.specs.Performatives.{IsPerformative}
use Rattle.amqp_types.specs.declared.definitions.Role.{Role}
use Rattle.amqp_types.specs.declared.performatives.Performative.TheVariants as its
use Rattle.amqp_credit.specs.declared.receiver.Renewal.{Renewal}
use Rattle.amqp_session.specs.Relay.{Relays}
use Rattle.amqp_session.specs.declared.numbers.OutputHandle.{OutputHandle}
use Rattle.amqp_driver.specs.declared.head.TransferHead.{TransferHead}
use Rattle.amqp_driver.specs.declared.plain.PlainRelay.{PlainRelay}
use Rattle.amqp_driver.specs.declared.record.Record.{Record}
use Rattle.amqp_unsettled.specs.declared.entry.Entry.{Entry}
use Rattle.amqp_links.specs.declared.session.RemoveError.{RemoveError}
use Rattle.amqp_links.specs.declared.session.RemoveError.TheVariants as remove
use Rattle.amqp_links.specs.declared.session.granting.FlowWish.{FlowWish}
use Rattle.amqp_links.specs.declared.session.granting.FlowWish.TheVariants as wish
use Rattle.amqp_endpoints.specs.declared.endpoint.sending.SendFailure.{SendFailure}
use Rattle.amqp_endpoints.specs.declared.endpoint.sending.SentDelivery.{SentDelivery}
use Rattle.amqp_endpoints.specs.declared.endpoint.settling.NoMemory.{NoMemory}
use Rattle.amqp_endpoints.specs.declared.event.LinkEvent.{LinkEvent}
use Rattle.amqp_endpoints.specs.declared.event.LinkEvent.TheVariants as told
use Rattle.amqp_endpoints.specs.declared.event.RecordError.{RecordError}
use Rattle.amqp_endpoints.specs.declared.event.RecordError.TheVariants as no
use Rattle.amqp1.specs.declared.delivered.Delivered.{Delivered}
use Rattle.amqp1.specs.declared.delivered.Unsettled.{Unsettled}
use Rattle.amqp1.specs.declared.event.Event.{Event}
use Rattle.amqp1.specs.declared.status.Status.{Status}
use Rattle.amqp1.specs.declared.status.Status.TheVariants as status
use Rattle.amqp1.specs.Delivering.{delivered_of, send_status, unsettled_of}
use Rattle.amqp1.specs.Events.{event_asked, event_of, link_of}
use Rattle.amqp1.specs.LinkCalls.{AttachesLinkOf, DuesOf, LeavesAllOf, LeavesOf, RemovesLink, SendsLink, SettlesLink, SettlesLinkBy, SettlesNextOf, TellsLinks, TellsWanted, detaching, responding, saying}
use Rattle.amqp1.specs.Occupant.{ForgetsLinks, Says, credit_at, links_of}
use Rattle.amqp1.specs.OccupantView.{OccupantView}
use Rattle.amqp1.specs.Reading.{IsErrorOrNone}

-- nothing is asked for by these numbers
abbrev pub AsksNone : OccupantView → Status → OccupantView → Type 0
AsksNone o s o' = (s ≡ status.BadArgument) × (o' ≡ o)

-- memory was refused before anything was done
abbrev pub NoRoom : OccupantView → Status → OccupantView → Type 0
NoRoom o s o' = (s ≡ status.NoMemory) × (o' ≡ o) × SomeRefused

-- ---- an Attach

-- a rule of renewal, unless the high mark is 0
abbrev pub renewal_of : ℕ → ℕ → Option Renewal
renewal_of low high = if nat_eq high 0 then None else Some (record { low = low; high = high })

-- the handle is told, or nothing is
abbrev pub TellsLink : Result OutputHandle Status → ℕ → Status → ℕ → Type 0
TellsLink (Ok h) old s new = (s ≡ status.Done) × (new ≡ h.0)
TellsLink (Err e) old s new = (s ≡ e) × (new ≡ old)

-- The bytes are no Attach, or no name; or memory was refused for it; or the link is attached, or is not, for the reason that the status says.
abbrev pub AttachesFor : Relays PlainRelay → ℕ → List ℕ → List ℕ → Option Renewal → ℕ → OccupantView → Status → ℕ → OccupantView → Type 0
AttachesFor g n text name renewal old o s new o' =
    (AsksNone o s o' × (new ≡ old) × (((a : AttachModel) → ¬ IsPerformative (its.Attach a) text) ⊎ (¬ IsUtf8 name)))
    ⊎ ((NoRoom o s o' × (new ≡ old))
    ⊎ ((a : AttachModel) × IsPerformative (its.Attach a) text × (r : Result OutputHandle Status) × AttachesLinkOf g n name a renewal o r o' × TellsLink r old s new))

-- ---- flows and Detaches

-- a number of C's says yes
abbrev pub is_set : ℕ → Bool
is_set n = not (nat_eq n 0)

abbrev pub wish_at : ℕ → ℕ → Option FlowWish
wish_at kind n =
    if nat_eq kind 0 then Some (wish.Grant n) else if nat_eq kind 1 then Some wish.Drain else
    if nat_eq kind 2 then Some wish.Renew else if nat_eq kind 3 then Some (wish.Answer n) else None

abbrev pub FlowsFor : Relays PlainRelay → ℕ → ℕ → Option FlowWish → OccupantView → Status → OccupantView → Type 0
FlowsFor g n h None o s o' = AsksNone o s o'
FlowsFor g n h (Some w) o s o' = Says (saying g h w) n o s o'

-- The bytes are no error; or memory was refused for it; or the Detach is sent, or is not, as the status says.
abbrev pub DetachesFor : Relays PlainRelay → ℕ → ℕ → Bool → List ℕ → OccupantView → Status → OccupantView → Type 0
DetachesFor g n h closed text o s o' =
    (AsksNone o s o' × ((e : Option ErrorModel) → ¬ IsErrorOrNone text e))
    ⊎ (NoRoom o s o' ⊎ ((e : Option ErrorModel) × IsErrorOrNone text e × Says (detaching g h closed e) n o s o'))

-- what a link owes for the event
abbrev pub RespondsFor : Relays PlainRelay → Event → ℕ → OccupantView → Status → OccupantView → Type 0
RespondsFor g e available o s o' = Says (responding g (event_asked e) available) e.session o s o'

-- ---- events

-- the event is told, with the credit of its link; or nothing is, for this reason
abbrev pub TellsEvent : ℕ → OccupantView → Result LinkEvent RecordError → Event → Status → Event → Type 0
TellsEvent n o (Ok e) old s new = (s ≡ status.Done) × (new ≡ event_of n e (credit_at (links_of o n) (link_of e)))
TellsEvent n o (Err no.NotNext) old s new = (s ≡ status.NotNext) × (new ≡ old)
TellsEvent n o (Err no.OutOfMemory) old s new = (s ≡ status.NoMemory) × (new ≡ old)

abbrev pub TellsFor : Record → ℕ → Event → OccupantView → Status → Event → OccupantView → Type 0
TellsFor r given old o s new o' = (e : Result LinkEvent RecordError) × TellsLinks r given o e o' × TellsEvent r.session o' e old s new

abbrev pub WantedFor : Record → ℕ → Event → OccupantView → Status → Event → OccupantView → Type 0
WantedFor r h old o s new o' = (e : Result LinkEvent RecordError) × TellsWanted r h o e o' × TellsEvent r.session o' e old s new

-- the link that is due is told; or there is none
abbrev pub TellsDue : ℕ → OccupantView → LinkEvent → Event → Status → Event → Type 0
TellsDue n o told.Nothing old s new = (s ≡ status.Nothing) × (new ≡ old)
TellsDue n o e old s new = (s ≡ status.Done) × (new ≡ event_of n e (credit_at (links_of o n) (link_of e)))

abbrev pub DueFor : ℕ → Event → OccupantView → Status → Event → OccupantView → Type 0
DueFor n old o s new o' = (e : LinkEvent) × DuesOf n o e o' × TellsDue n o' e old s new

-- ---- transfers

abbrev pub SendsFor : Relays PlainRelay → TransferHead → List ℕ → ℕ → OccupantView → Status → Delivered → OccupantView → Type 0
SendsFor g head bytes given o s told o' = (r : Result SentDelivery SendFailure) × SendsLink g head bytes given o r o'
    × (s ≡ send_status r) × (told ≡ delivered_of r)

-- ---- settlement

abbrev pub SettlesFor : Relays PlainRelay → ℕ → Option Role → ℕ → ℕ → Bool → ℕ → OccupantView → Status → OccupantView → Type 0
SettlesFor g n None first last settled outcome o s o' = AsksNone o s o'
SettlesFor g n (Some role) first last settled outcome o s o' = SettlesLink g n role first last settled outcome o s o'

-- The bytes are no Disposition; or memory was refused for it; or it is sent, or is not, as the status says.
abbrev pub DisposesFor : Relays PlainRelay → ℕ → List ℕ → OccupantView → Status → OccupantView → Type 0
DisposesFor g n text o s o' =
    (AsksNone o s o' × ((d : DispositionModel) → ¬ IsPerformative (its.Disposition d) text))
    ⊎ (NoRoom o s o' ⊎ ((d : DispositionModel) × IsPerformative (its.Disposition d) text × SettlesLinkBy g n d o s o'))

-- the delivery is told, or there is none
abbrev pub TellsUnsettled : Option Entry → Unsettled → Status → Unsettled → Type 0
TellsUnsettled None old s new = (s ≡ status.Nothing) × (new ≡ old)
TellsUnsettled (Some e) old s new = (s ≡ status.Done) × (new ≡ unsettled_of e)

abbrev pub SettledFor : ℕ → Option Role → ℕ → ℕ → Unsettled → OccupantView → Status → Unsettled → OccupantView → Type 0
SettledFor n None first last old o s new o' = AsksNone o s o' × (new ≡ old)
SettledFor n (Some role) first last old o s new o' = (e : Option Entry) × SettlesNextOf n role first last o e o' × TellsUnsettled e old s new

-- or memory was refused to let it go
abbrev pub TellsLeft : Result (Option Entry) NoMemory → Unsettled → Status → Unsettled → Type 0
TellsLeft (Ok e) old s new = TellsUnsettled e old s new
TellsLeft (Err no_memory) old s new = (s ≡ status.NoMemory) × (new ≡ old)

abbrev pub LeavesFor : Relays PlainRelay → ℕ → ℕ → Unsettled → OccupantView → Status → Unsettled → OccupantView → Type 0
LeavesFor g n h old o s new o' = (r : Result (Option Entry) NoMemory) × LeavesOf g n h o r o' × TellsLeft r old s new

abbrev pub LeavesAllFor : ℕ → Option Role → Unsettled → OccupantView → Status → Unsettled → OccupantView → Type 0
LeavesAllFor n None old o s new o' = AsksNone o s o' × (new ≡ old)
LeavesAllFor n (Some role) old o s new o' = (e : Option Entry) × LeavesAllOf n role o e o' × TellsUnsettled e old s new

-- ---- what goes

abbrev pub removed_status : Result (Unit {0}) RemoveError → Status
removed_status (Ok done) = status.Done
removed_status (Err remove.NoLink) = status.NoLink
removed_status (Err remove.NotDetached) = status.NotDetached
removed_status (Err remove.Unsettled) = status.Unsettled

abbrev pub RemovesFor : ℕ → ℕ → OccupantView → Status → OccupantView → Type 0
RemovesFor n h o s o' = (r : Result (Unit {0}) RemoveError) × RemovesLink n h o r o' × (s ≡ removed_status r)

abbrev pub forgotten_status : Bool → Status
forgotten_status true = status.Done
forgotten_status false = status.Nothing

abbrev pub ForgetsFor : ℕ → OccupantView → Status → OccupantView → Type 0
ForgetsFor n o s o' = (had : Bool) × ForgetsLinks o n had o' × (s ≡ forgotten_status had)
