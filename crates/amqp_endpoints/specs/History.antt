-- Part: other calls.
-- The history of an endpoint: its calls with their answers, the oldest first, whatever the stream was at each.
use Rattle.std.specs.Prelude.{ℕ, ◌^◌, ◌<◌, Bool, List, Option, Result, Ok}
use Rattle.amqp_types.specs.Attach.{AttachModel}
use Rattle.amqp_types.specs.Error.{ErrorModel}
use Rattle.amqp_types.specs.declared.definitions.Role.{Role}
use Rattle.amqp_connection.specs.declared.numbers.SessionNo.{SessionNo}
use Rattle.amqp_credit.specs.Chain.{Chain}
use Rattle.amqp_credit.specs.declared.receiver.Renewal.{Renewal}
use Rattle.amqp_unsettled.specs.declared.entry.Entry.{Entry}
use Rattle.amqp_session.specs.Relay.{Relays}
use Rattle.amqp_session.specs.declared.numbers.OutputHandle.{OutputHandle}
use Rattle.amqp_driver.specs.declared.head.TransferHead.{TransferHead}
use Rattle.amqp_driver.specs.declared.record.Record.{Record}
use Rattle.amqp_driver.specs.Record.{number_or}
use Rattle.amqp_driver.specs.Stream.{StreamView}
use Rattle.amqp_links.specs.declared.session.RemoveError.{RemoveError}
use Rattle.amqp_links.specs.declared.session.granting.FlowWish.{FlowWish}
use Rattle.amqp_links.specs.SessionHistory.{LinksCall, LinksLeadTo}
use Rattle.amqp_endpoints.specs.declared.endpoint.attaching.AttachError.{AttachError}
use Rattle.amqp_endpoints.specs.declared.endpoint.sending.SendFailure.{SendFailure}
use Rattle.amqp_endpoints.specs.declared.endpoint.sending.SentDelivery.{SentDelivery}
use Rattle.amqp_endpoints.specs.declared.endpoint.settling.NoMemory.{NoMemory}
use Rattle.amqp_endpoints.specs.declared.event.LinkAnswer.{LinkAnswer}
use Rattle.amqp_endpoints.specs.declared.event.LinkEvent.{LinkEvent}
use Rattle.amqp_endpoints.specs.declared.event.LinkEvent.TheVariants.{Part}
use Rattle.amqp_endpoints.specs.declared.event.RecordError.{RecordError}
use Rattle.amqp_endpoints.specs.Attaching.{AttachesLink, AttachesUnder}
use Rattle.amqp_endpoints.specs.Endpoint.{EndpointView, LeavesReceived, LeavesSent, Removes, SettlesNext, new_endpoint}
use Rattle.amqp_endpoints.specs.Flowing as flowing
use Rattle.amqp_endpoints.specs.Responding as responding
use Rattle.amqp_endpoints.specs.Reading.{first_attach}
use Rattle.amqp_endpoints.specs.Settling.{LeavesNext}
use Rattle.amqp_endpoints.specs.Sending.{SendsDelivery, is_first_of, number_of}
use Rattle.amqp_endpoints.specs.Telling.{OnRecord, TellsAttach}
use Rattle.amqp_endpoints.specs.Waiting.{TakesDue}
use Rattle.amqp_links.specs.Ends.{end_at}

-- One call, and its answer.
pub data EndpointCall : Type 0 where
  Told : Record → ℕ → Result LinkEvent RecordError → EndpointCall
  Wanted : Record → ℕ → Result LinkEvent RecordError → EndpointCall
  Attaches : AttachModel → Option Renewal → Result OutputHandle AttachError → EndpointCall
  AttachesNamed : List ℕ → AttachModel → Option Renewal → Result OutputHandle AttachError → EndpointCall
  Says : ℕ → FlowWish → LinkAnswer → EndpointCall
  Detaches : ℕ → Bool → Option ErrorModel → LinkAnswer → EndpointCall
  Responds : LinkEvent → ℕ → LinkAnswer → EndpointCall
  TellsDue : LinkEvent → EndpointCall
  Sends : TransferHead → List ℕ → ℕ → Result SentDelivery SendFailure → EndpointCall
  Settles : Role → ℕ → ℕ → Option Entry → EndpointCall
  Leaves : ℕ → Result (Option Entry) NoMemory → EndpointCall
  LeavesOfSent : Option Entry → EndpointCall
  LeavesOfReceived : Option Entry → EndpointCall
  RemovesLink : ℕ → Result (Unit {0}) RemoveError → EndpointCall

-- the number of a delivery that is sent has four bytes
abbrev pub IsNumbered : {R : Type 0} → EndpointView → StreamView R → TransferHead → Type 0
IsNumbered v s head = number_of v s head.link (is_first_of (end_at v.links.ends head.link)) < 2 ^ 32

-- what is told of a part has a number of four bytes
abbrev pub IsTold : Result LinkEvent RecordError → Type 0
IsTold (Ok (Part h told)) = told.part.number < 2 ^ 32
IsTold result = Unit {0}

-- the call as its contract says it, with the stream before it and after it
abbrev pub EndpointStep : {R : Type 0} → Relays R → EndpointView → EndpointCall → EndpointView → Type 0
EndpointStep g v (Told r given result) w = (r.count < 2 ^ 32) × IsTold result × OnRecord v r given result w
EndpointStep g v (Wanted r h result) w = (r.count < 2 ^ 32) × TellsAttach v r h (first_attach r) result w
EndpointStep g v (Attaches a renewal result) w = (s : StreamView _) × (s' : StreamView _)
    × (number_or 0 a.initial_delivery_count < 2 ^ 32) × AttachesLink g v s a renewal result s' w
EndpointStep g v (AttachesNamed name a renewal result) w = (s : StreamView _) × (s' : StreamView _)
    × (number_or 0 a.initial_delivery_count < 2 ^ 32) × AttachesUnder g name v s a renewal result s' w
EndpointStep g v (Says h wish answer) w = (s : StreamView _) × (s' : StreamView _) × flowing.SaysFlow g v s h wish answer s' w
EndpointStep g v (Detaches h closed error answer) w = (s : StreamView _) × (s' : StreamView _) × flowing.Detaches g v s h closed error answer s' w
EndpointStep g v (Responds e available answer) w = (s : StreamView _) × (s' : StreamView _) × responding.Responds g v s e available answer s' w
EndpointStep {R} g v (TellsDue e) w = (s : StreamView R) × TakesDue v.late v s e w
EndpointStep g v (Sends head bytes given result) w = (s : StreamView _) × (s' : StreamView _)
    × IsNumbered v s head × SendsDelivery g v s head bytes given result s' w
EndpointStep g v (Settles role first last given) w = SettlesNext role first last v given w
EndpointStep g v (Leaves h result) w = (s : StreamView _) × (s' : StreamView _) × LeavesNext g v s h result s' w
EndpointStep g v (LeavesOfSent given) w = LeavesSent v given w
EndpointStep g v (LeavesOfReceived given) w = LeavesReceived v given w
EndpointStep g v (RemovesLink h result) w = Removes v h result w

-- a legal history of an endpoint from its beginning, and the view that it leads to
abbrev pub EndpointsLeadTo : {R : Type 0} → Relays R → SessionNo → List EndpointCall → EndpointView → Type 0
EndpointsLeadTo g n H v = Chain (EndpointStep g) (new_endpoint n) H v

-- The links of every endpoint are those of a history of a session's links.
abbrev pub HaveHistories : {R : Type 0} → Relays R → Type 0
HaveHistories g = (n : SessionNo) (H : List EndpointCall) (v : EndpointView) → EndpointsLeadTo g n H v → (K : List LinksCall) × LinksLeadTo K v.links
