-- Part: other calls.
-- What the calls on the links of a session do, by what lies in a place before and afterwards (AMQP 1.0 part 2, sections 2.6 and 2.7).
use Rattle.std.specs.Prelude.{◌≡◌, ◌⊎◌, ℕ, ◌==◌, length, Bool, true, false, List, Option, Some, None, Result, Ok, Err}
use Rattle.std.specs.FinMap as map
use Rattle.amqp_memory.specs.Refusal.{SomeRefused}
use Rattle.amqp_types.specs.Attach.{AttachModel}
use Rattle.amqp_types.specs.Disposition.{DispositionModel}
use Rattle.amqp_types.specs.Error.{ErrorModel}
use Rattle.amqp_types.specs.declared.definitions.Role.{Role}
use Rattle.amqp_types.specs.declared.definitions.Role.TheVariants.{Sender, Receiver}
use Rattle.amqp_types.specs.declared.states.ConnectionState.{ConnectionState}
use Rattle.amqp_credit.specs.declared.receiver.Renewal.{Renewal}
use Rattle.amqp_session.specs.Relay.{Relays}
use Rattle.amqp_session.specs.declared.numbers.OutputHandle.{OutputHandle}
use Rattle.amqp_driver.specs.declared.asked.Asked.{Asked}
use Rattle.amqp_driver.specs.declared.head.TransferHead.{TransferHead}
use Rattle.amqp_driver.specs.declared.plain.PlainRelay.{PlainRelay}
use Rattle.amqp_driver.specs.declared.record.Record.{Record}
use Rattle.amqp_driver.specs.Settling.{state_of}
use Rattle.amqp_driver.specs.Stream.{StreamView}
use Rattle.amqp_unsettled.specs.declared.entry.Entry.{Entry}
use Rattle.amqp_links.specs.declared.session.RemoveError.{RemoveError}
use Rattle.amqp_links.specs.declared.session.RemoveError.TheVariants.{NoLink}
use Rattle.amqp_links.specs.declared.session.granting.FlowWish.{FlowWish}
use Rattle.amqp_links.specs.declared.session.sending.SendPartError.TheVariants.{NoSender}
use Rattle.amqp_endpoints.specs.declared.endpoint.attaching.AttachError.{AttachError}
use Rattle.amqp_endpoints.specs.declared.endpoint.attaching.AttachError.TheVariants as attach
use Rattle.amqp_endpoints.specs.declared.endpoint.sending.SendFailure.{SendFailure}
use Rattle.amqp_endpoints.specs.declared.endpoint.sending.SendFailure.TheVariants.{Link}
use Rattle.amqp_endpoints.specs.declared.endpoint.sending.SentDelivery.{SentDelivery}
use Rattle.amqp_endpoints.specs.declared.endpoint.settling.NoMemory.{NoMemory}
use Rattle.amqp_endpoints.specs.declared.event.LinkEvent.{LinkEvent}
use Rattle.amqp_endpoints.specs.declared.event.LinkEvent.TheVariants.{Nothing}
use Rattle.amqp_endpoints.specs.declared.event.RecordError.{RecordError}
use Rattle.amqp_endpoints.specs.Attaching.{AttachesUnder}
use Rattle.amqp_endpoints.specs.Endpoint.{EndpointView, LeavesReceived, LeavesSent, Removes, SettlesNext}
use Rattle.amqp_endpoints.specs.Flowing.{Detaches, SaysFlow}
use Rattle.amqp_endpoints.specs.Responding.{Responds}
use Rattle.amqp_endpoints.specs.Reading.{first_attach}
use Rattle.amqp_endpoints.specs.Sending.{SendsDelivery}
use Rattle.amqp_endpoints.specs.Settling.{LeavesNext, SettlesAs, SettlesBy}
use Rattle.amqp_endpoints.specs.Telling.{OnRecord, TellsAttach}
use Rattle.amqp_endpoints.specs.Waiting.{TakesDue}
use Rattle.amqp1.specs.declared.status.Status.{Status}
use Rattle.amqp1.specs.declared.status.Status.TheVariants as status
use Rattle.amqp1.specs.ClientView.{ClientView}
use Rattle.amqp1.specs.Occupant.{Provides, Saying, links_of}
use Rattle.amqp1.specs.OccupantView.{OccupantView}
use Rattle.amqp1.specs.Refused.{RefusedModel, last_by}
use Rattle.amqp1.specs.Status.{status_of}

-- ---- flows and Detaches

abbrev pub saying : Relays PlainRelay → ℕ → FlowWish → Saying
saying g h wish v s a s' w = SaysFlow g v s h wish a s' w

abbrev pub responding : Relays PlainRelay → LinkEvent → ℕ → Saying
responding g e available v s a s' w = Responds g v s e available a s' w

abbrev pub detaching : Relays PlainRelay → ℕ → Bool → Option ErrorModel → Saying
detaching g h closed error v s a s' w = Detaches g v s h closed error a s' w

-- ---- steps of one session's links

-- Only the links of the session change, to these.
abbrev pub Becomes : OccupantView → ℕ → EndpointView → OccupantView → Type 0
Becomes o n w o' = o' ≡ record o { links = map.insert o.links n w }

-- The links of the session take a step, which answers this; where it has none the answer is another.
abbrev pub StepsBy : {X : Type 0} → Option EndpointView → X → (EndpointView → X → EndpointView → Type 0) → ℕ → OccupantView → X → OccupantView → Type 0
StepsBy None none Step n o x o' = (x ≡ none) × (o' ≡ o)
StepsBy (Some v) none Step n o x o' = (w : EndpointView) × Step v x w × Becomes o n w o'

abbrev pub Steps : {X : Type 0} → X → (EndpointView → X → EndpointView → Type 0) → ℕ → OccupantView → X → OccupantView → Type 0
Steps none Step n o x o' = StepsBy (links_of o n) none Step n o x o'

abbrev pub SettlesNextOf : ℕ → Role → ℕ → ℕ → OccupantView → Option Entry → OccupantView → Type 0
SettlesNextOf n role first last o given o' = Steps None (λ v x w. SettlesNext role first last v x w) n o given o'

-- of this side's deliveries, or of those that have come
abbrev pub LeavesIn : Role → EndpointView → Option Entry → EndpointView → Type 0
LeavesIn Sender v x w = LeavesSent v x w
LeavesIn Receiver v x w = LeavesReceived v x w

abbrev pub LeavesAllOf : ℕ → Role → OccupantView → Option Entry → OccupantView → Type 0
LeavesAllOf n role o given o' = Steps None (λ v x w. LeavesIn role v x w) n o given o'

abbrev pub RemovesLink : ℕ → ℕ → OccupantView → Result (Unit {0}) RemoveError → OccupantView → Type 0
RemovesLink n h o result o' = Steps (Err NoLink) (λ v x w. Removes v h x w) n o result o'

abbrev pub TellsLinks : Record → ℕ → OccupantView → Result LinkEvent RecordError → OccupantView → Type 0
TellsLinks r given o result o' = Steps (Ok Nothing) (λ v x w. OnRecord v r given x w) r.session o result o'

abbrev pub TellsWanted : Record → ℕ → OccupantView → Result LinkEvent RecordError → OccupantView → Type 0
TellsWanted r h o result o' = Steps (Ok Nothing) (λ v x w. TellsAttach v r h (first_attach r) x w) r.session o result o'

-- by what waits in the client's stream
abbrev pub DuesOf : ℕ → OccupantView → LinkEvent → OccupantView → Type 0
DuesOf n o e o' = Steps Nothing (λ v x w. TakesDue v.late v o.client.stream x w) n o e o'

-- ---- a transfer

-- the links and the stream of the client take the transfer, or do not
abbrev pub LinksSend : Relays PlainRelay → TransferHead → List ℕ → ℕ → EndpointView → ClientView → Result SentDelivery SendFailure → ClientView → EndpointView → Type 0
LinksSend g head bytes given v c result c' w = SendsDelivery g v c.stream head bytes given result c'.stream w × (c'.last ≡ c.last)

-- Those of the session do; nothing else has changed.
abbrev pub SendsBy : Option EndpointView → Relays PlainRelay → TransferHead → List ℕ → ℕ → OccupantView → Result SentDelivery SendFailure → OccupantView → Type 0
SendsBy None g head bytes given o result o' = (result ≡ Err (Link NoSender)) × (o' ≡ o)
SendsBy (Some v) g head bytes given o result o' =
    (w : EndpointView) × LinksSend g head bytes given v o.client result o'.client w × (o'.links ≡ map.insert o.links head.session w)

abbrev pub SendsLink : Relays PlainRelay → TransferHead → List ℕ → ℕ → OccupantView → Result SentDelivery SendFailure → OccupantView → Type 0
SendsLink g head bytes given o result o' = SendsBy (links_of o head.session) g head bytes given o result o'

-- ---- what is left on a link

-- the session lets the oldest one go, and it is taken out
abbrev pub LinksLeave : Relays PlainRelay → ℕ → EndpointView → ClientView → Result (Option Entry) NoMemory → ClientView → EndpointView → Type 0
LinksLeave g h v c result c' w = LeavesNext g v c.stream h result c'.stream w × (c'.last ≡ c.last)

abbrev pub LeavesBy : Option EndpointView → Relays PlainRelay → ℕ → ℕ → OccupantView → Result (Option Entry) NoMemory → OccupantView → Type 0
LeavesBy None g n h o result o' = (result ≡ Ok None) × (o' ≡ o)
LeavesBy (Some v) g n h o result o' = (w : EndpointView) × LinksLeave g h v o.client result o'.client w × (o'.links ≡ map.insert o.links n w)

abbrev pub LeavesOf : Relays PlainRelay → ℕ → ℕ → OccupantView → Result (Option Entry) NoMemory → OccupantView → Type 0
LeavesOf g n h o result o' = LeavesBy (links_of o n) g n h o result o'

-- ---- a disposition

abbrev pub last_settled : RefusedModel → ConnectionState → Option Asked → RefusedModel
last_settled last s None = last
last_settled last s (Some a) = last_by last s a

abbrev pub settled_status : Option Asked → Status
settled_status None = status.BadArgument
settled_status (Some a) = status_of a

-- a step of the stream for the links of a session, which stay as they are
abbrev pub Settling : Type 1
Settling = EndpointView → StreamView PlainRelay → Option Asked → StreamView PlainRelay → Type 0

-- The status says what became of the request, and a refusal is kept.
abbrev pub LinksSettle : Settling → EndpointView → ClientView → Status → ClientView → Type 0
LinksSettle Step v c s c' = (a : Option Asked) × Step v c.stream a c'.stream × (s ≡ settled_status a)
    × (c'.last ≡ last_settled c.last c'.stream.driver.engine.connection.state a)

abbrev pub SettlesOf : Option EndpointView → Settling → OccupantView → Status → OccupantView → Type 0
SettlesOf None Step o s o' = (s ≡ status.Nothing) × (o' ≡ o)
SettlesOf (Some v) Step o s o' = LinksSettle Step v o.client s o'.client × (o'.links ≡ o.links)

-- The disposition is requested, and where it settles them the session lets the deliveries go.
abbrev pub settling : Relays PlainRelay → Role → ℕ → ℕ → Bool → ℕ → Settling
settling g role first last settled outcome v s a s' = SettlesBy g v s role first last settled (state_of outcome) a s'

abbrev pub SettlesLink : Relays PlainRelay → ℕ → Role → ℕ → ℕ → Bool → ℕ → OccupantView → Status → OccupantView → Type 0
SettlesLink g n role first last settled outcome o s o' = SettlesOf (links_of o n) (settling g role first last settled outcome) o s o'

-- the same by a disposition of any state
abbrev pub settling_by : Relays PlainRelay → DispositionModel → Settling
settling_by g d v s a s' = (b : Asked) × (a ≡ Some b) × SettlesAs g v s d b s'

abbrev pub SettlesLinkBy : Relays PlainRelay → ℕ → DispositionModel → OccupantView → Status → OccupantView → Type 0
SettlesLinkBy g n d o s o' = SettlesOf (links_of o n) (settling_by g d) o s o'

-- ---- an Attach

-- the name to which the handle was allotted: that of the Attach, where none is said
abbrev pub name_by : Bool → List ℕ → AttachModel → List ℕ
name_by true name a = a.name
name_by false name a = name

abbrev pub name_under : List ℕ → AttachModel → List ℕ
name_under name a = name_by (length name == 0) name a

abbrev pub attach_status : AttachError → Status
attach_status attach.NoLink = status.NoLink
attach_status attach.InUse = status.InUse
attach_status attach.OutOfMemory = status.NoMemory
attach_status (attach.Asked a) = status_of a

abbrev pub last_attach : RefusedModel → ConnectionState → AttachError → RefusedModel
last_attach last s (attach.Asked a) = last_by last s a
last_attach last s e = last

abbrev pub attached_as : Result OutputHandle AttachError → Result OutputHandle Status
attached_as (Ok h) = Ok h
attached_as (Err e) = Err (attach_status e)

abbrev pub last_attached : RefusedModel → ConnectionState → Result OutputHandle AttachError → RefusedModel
last_attached last s (Ok h) = last
last_attached last s (Err e) = last_attach last s e

-- a link is attached, or is not, for this reason
abbrev pub LinksAttachAs : Relays PlainRelay → List ℕ → AttachModel → Option Renewal → EndpointView → ClientView → Result OutputHandle Status → ClientView → EndpointView → Type 0
LinksAttachAs g name a renewal v c result c' w = (r : Result OutputHandle AttachError)
    × AttachesUnder g name v c.stream a renewal r c'.stream w × (result ≡ attached_as r)
    × (c'.last ≡ last_attached c.last c'.stream.driver.engine.connection.state r)

abbrev pub LinksAttach : Relays PlainRelay → List ℕ → AttachModel → Option Renewal → EndpointView → ClientView → Result OutputHandle Status → ClientView → EndpointView → Type 0
LinksAttach g name a renewal v c result c' w = LinksAttachAs g (name_under name a) a renewal v c result c' w

-- one of this session
abbrev pub AttachesBy : Option EndpointView → Relays PlainRelay → ℕ → List ℕ → AttachModel → Option Renewal → OccupantView → Result OutputHandle Status → OccupantView → Type 0
AttachesBy None g n name a renewal o result o' = (result ≡ Err status.Nothing) × (o' ≡ o)
AttachesBy (Some v) g n name a renewal o result o' =
    (w : EndpointView) × LinksAttach g name a renewal v o.client result o'.client w × (o'.links ≡ map.insert o.links n w)

abbrev pub AttachesOn : Relays PlainRelay → ℕ → List ℕ → AttachModel → Option Renewal → OccupantView → Result OutputHandle Status → OccupantView → Type 0
AttachesOn g n name a renewal o result o' = AttachesBy (links_of o n) g n name a renewal o result o'

-- There is no memory for the links of a session that has none; or it has some, and then the link is attached, or is not.
abbrev pub AttachesLinkOf : Relays PlainRelay → ℕ → List ℕ → AttachModel → Option Renewal → OccupantView → Result OutputHandle Status → OccupantView → Type 0
AttachesLinkOf g n name a renewal o result o' =
    ((result ≡ Err status.NoMemory) × (o' ≡ o) × SomeRefused)
    ⊎ ((m : OccupantView) × Provides o n m × AttachesOn g n name a renewal m result o')
