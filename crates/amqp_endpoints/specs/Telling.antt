-- Part: other calls.
-- What a record is to the links of a session, and what each kind of record makes of them (AMQP 1.0 part 2, sections 2.6 and 2.7).
use Rattle.std.specs.Prelude.{ℕ, ◌≡◌, ◌&&◌, nat_eq, not, Bool, true, false, Option, Some, None, Result, Ok, Err, if◌then◌else◌}
use Rattle.std.specs.FinMap as map
use Rattle.amqp_memory.specs.Refusal.{SomeRefused}
use Rattle.amqp_credit.specs.declared.part.Part.{Part as PartModel}
use Rattle.amqp_credit.specs.declared.part.PartEnd.{PartEnd}
use Rattle.amqp_credit.specs.declared.part.PartEnd.TheVariants.{More, Last, Aborted}
use Rattle.amqp_driver.specs.declared.record.Record.{Record}
use Rattle.amqp_driver.specs.Heads.{has}
use Rattle.amqp_driver.specs.Record.{none}
use Rattle.amqp_links.specs.declared.life.LinkEnd.{LinkEnd}
use Rattle.amqp_links.specs.declared.life.LinkEnd.TheVariants as by
use Rattle.amqp_links.specs.declared.receiving.TransferError.TheVariants as error
use Rattle.amqp_links.specs.declared.session.attaching.PeerAttach.{PeerAttach}
use Rattle.amqp_links.specs.declared.session.taking.ReceivedPart.{ReceivedPart}
use Rattle.amqp_links.specs.declared.session.taking.TakePartError.{TakePartError}
use Rattle.amqp_links.specs.declared.session.taking.TakePartError.TheVariants as take
use Rattle.amqp_links.specs.Attaching.{AttachesAt, EndsAt}
use Rattle.amqp_links.specs.Ends.{end_at}
use Rattle.amqp_links.specs.Granting.{FlowsAt}
use Rattle.amqp_links.specs.Session.{LinksView}
use Rattle.amqp_links.specs.TakingParts.{TakesAt}
use Rattle.amqp_endpoints.specs.declared.event.LinkEvent.{LinkEvent}
use Rattle.amqp_endpoints.specs.declared.event.LinkEvent.TheVariants.{Nothing, Attached, Flow, Part, PassedOver, Fault, Ended}
use Rattle.amqp_endpoints.specs.declared.event.RecordError.{RecordError}
use Rattle.amqp_endpoints.specs.declared.event.RecordError.TheVariants as no
use Rattle.amqp_endpoints.specs.declared.place.LinkPlace.{LinkPlace}
use Rattle.amqp_endpoints.specs.Endpoint.{EndpointView, OnLinks}
use Rattle.amqp_endpoints.specs.Places.{PutsPlace, place_at}
use Rattle.amqp_endpoints.specs.Reading.{credit_flow, if_set, part_head, part_tag, peer_attach, settled_range}

-- the links step, and the place of this handle is changed; nothing else is
abbrev pub OnPlace : (LinksView → LinksView → Type 0) → ℕ → LinkPlace → EndpointView → EndpointView → Type 0
OnPlace Step h p v w = Step v.links w.links × PutsPlace v.places h p w.places × (w ≡ record v { links = w.links; places = w.places })

-- this side's Detach is to be sent for the link of this handle, and closes it for good, or not
abbrev pub owing : EndpointView → ℕ → Bool → LinkPlace
owing v h closes = record (place_at v.places h) { owes = true; closes = closes }

-- the link that a frame names by the peer's handle, if it names one
abbrev pub named_by : EndpointView → Record → Option ℕ
named_by v r = if has r.flags 4096 then map.get v.inputs r.input else None

-- the link of a record: that of this side's handle, or the one that the peer's handle means, where this side has detached it
abbrev pub link_by : EndpointView → Record → Option ℕ
link_by v r = if nat_eq r.output none then named_by v r else Some r.output

-- ---- an Attach

-- It says this, and its handle means the link from then on.
abbrev pub with_input : EndpointView → Record → ℕ → EndpointView
with_input v r h = record v { inputs = map.insert v.inputs r.input h }

abbrev pub TellsAttach : EndpointView → Record → ℕ → PeerAttach → Result LinkEvent RecordError → EndpointView → Type 0
TellsAttach v r h a (Ok (Attached k life)) w = (k ≡ h)
    × OnLinks (λ l m. AttachesAt (end_at l.ends h) l h a (Some life) m) (with_input v r h) w
TellsAttach v r h a (Ok Nothing) w = (end_at v.links.ends h ≡ None) × (w ≡ v)
TellsAttach v r h a (Err no.OutOfMemory) w = (w ≡ v) × SomeRefused
TellsAttach v r h a result w = ⊥

-- ---- a flow

abbrev pub TellsFlow : EndpointView → Record → ℕ → LinkEvent → EndpointView → Type 0
TellsFlow v r h (Flow k used) w = (k ≡ h)
    × OnLinks (λ l m. FlowsAt (end_at l.ends h) l h (credit_flow r) (Some (Ok used)) m) v w
TellsFlow v r h (Fault k fault n) w = (k ≡ h) × (n ≡ None)
    × OnPlace (λ l m. FlowsAt (end_at l.ends h) l h (credit_flow r) (Some (Err fault)) m) h (owing v h true) v w
TellsFlow v r h Nothing w = OnLinks (λ l m. FlowsAt (end_at l.ends h) l h (credit_flow r) None m) v w
TellsFlow v r h e w = ⊥

-- ---- a transfer

-- it is taken by the link
abbrev pub TakesBy : EndpointView → Record → ℕ → ℕ → Result ReceivedPart TakePartError → LinksView → LinksView → Type 0
TakesBy v r h given answer l m = TakesAt (end_at l.ends h) l h (part_head (part_tag (place_at v.places h) r) r) given answer m

-- the tag of a delivery that begins is kept, where more of it follows
abbrev pub goes_on : PartEnd → Bool
goes_on More = true
goes_on Last = false
goes_on Aborted = false

abbrev pub keeps_tag : PartModel → Bool
keeps_tag p = p.is_first && goes_on p.end

abbrev pub with_tag : LinkPlace → Record → LinkPlace
with_tag p r = record p { tag_size = r.tag_size; tag = r.tag }

abbrev pub KeepsTag : Bool → EndpointView → Record → ℕ → (LinksView → LinksView → Type 0) → EndpointView → Type 0
KeepsTag true v r h Step w = OnPlace Step h (with_tag (place_at v.places h) r) v w
KeepsTag false v r h Step w = OnLinks Step v w

abbrev pub TellsPart : EndpointView → Record → ℕ → ℕ → Result LinkEvent RecordError → EndpointView → Type 0
TellsPart v r h given (Ok (Part k told)) w = (k ≡ h) × KeepsTag (keeps_tag told.part) v r h (TakesBy v r h given (Ok told)) w
TellsPart v r h given (Ok (PassedOver k n)) w = (k ≡ h) × (n ≡ if_set r 1 r.first) × OnLinks (TakesBy v r h given (Err (take.Link error.NotAttached))) v w
TellsPart v r h given (Ok (Fault k fault n)) w = (k ≡ h) × (n ≡ if_set r 1 r.first)
    × OnPlace (TakesBy v r h given (Err (take.Link (error.Fault fault)))) h (owing v h true) v w
TellsPart v r h given (Ok Nothing) w = OnLinks (TakesBy v r h given (Err take.NoReceiver)) v w
TellsPart v r h given (Err no.NotNext) w = OnLinks (TakesBy v r h given (Err take.NotNext)) v w
TellsPart v r h given (Err no.OutOfMemory) w = OnLinks (TakesBy v r h given (Err take.OutOfMemory)) v w
TellsPart v r h given result w = ⊥

-- ---- a Detach

-- it is to be answered by one
abbrev pub is_unanswered : LinkEnd → Bool
is_unanswered by.Refused = true
is_unanswered by.ByPeer = true
is_unanswered by.Answered = false
is_unanswered by.Stray = false

-- its handle means no link from then on
abbrev pub without_input : EndpointView → Record → EndpointView
without_input v r = record v { inputs = map.remove v.inputs r.input }

abbrev pub OwesIf : Bool → EndpointView → ℕ → Bool → (LinksView → LinksView → Type 0) → EndpointView → Type 0
OwesIf true v h closes Step w = OnPlace Step h (owing v h closes) v w
OwesIf false v h closes Step w = OnLinks Step v w

abbrev pub TellsDetach : EndpointView → Record → ℕ → LinkEvent → EndpointView → Type 0
TellsDetach v r h (Ended k end closed) w = (k ≡ h) × (closed ≡ has r.flags 512)
    × OwesIf (is_unanswered end) (without_input v r) h closed (λ l m. EndsAt (end_at l.ends h) l h (Some end) m) w
TellsDetach v r h Nothing w = OnLinks (λ l m. EndsAt (end_at l.ends h) l h None m) (without_input v r) w
TellsDetach v r h e w = ⊥

-- ---- a record

abbrev pub TellsOk : (LinkEvent → EndpointView → Type 0) → Result LinkEvent RecordError → EndpointView → Type 0
TellsOk Tells (Ok e) w = Tells e w
TellsOk Tells (Err error) w = ⊥

-- the first, where this is so, and else the second
abbrev pub Choose : Bool → Type 0 → Type 0 → Type 0
Choose true there other = there
Choose false there other = other

-- nothing is said of it
abbrev pub SaysNothing : EndpointView → Result LinkEvent RecordError → EndpointView → Type 0
SaysNothing v result w = (result ≡ Ok Nothing) × (w ≡ v)

-- by its kind, to the link: one that is no Transfer
abbrev pub TellsOther : EndpointView → Record → ℕ → Result LinkEvent RecordError → EndpointView → Type 0
TellsOther v r h result w =
    Choose (nat_eq r.kind 5) (TellsOk (TellsFlow v r h) result w)
    (Choose (nat_eq r.kind 3) (TellsAttach v r h (peer_attach r) result w)
    (Choose (nat_eq r.kind 8) (TellsOk (TellsDetach v r h) result w)
    (SaysNothing v result w)))

-- and any
abbrev pub TellsLink : EndpointView → Record → ℕ → ℕ → Result LinkEvent RecordError → EndpointView → Type 0
TellsLink v r h given result w =
    Choose (nat_eq r.kind 6) (TellsPart v r h given result w) (TellsOther v r h result w)

-- one that is of no link says nothing
abbrev pub TellsAny : Option ℕ → EndpointView → Record → ℕ → Result LinkEvent RecordError → EndpointView → Type 0
TellsAny None v r given result w = SaysNothing v result w
TellsAny (Some h) v r given result w = TellsLink v r h given result w

-- A record of another session says nothing; a Disposition says which deliveries are settled, of any link; and any other is told to its link.
abbrev pub OnRecord : EndpointView → Record → ℕ → Result LinkEvent RecordError → EndpointView → Type 0
OnRecord v r given result w =
    Choose (not (nat_eq r.session v.session.0)) (SaysNothing v result w)
    (Choose (nat_eq r.kind 7) ((result ≡ Ok (settled_range r)) × (w ≡ v))
    (TellsAny (link_by v r) v r given result w))
