-- Part: other calls.
-- The history of a session's links: its calls with their answers, the oldest first, and what of it each link has seen.
use Rattle.std.specs.Prelude.{ℕ, ◌^◌, ◌<◌, ◌≡◌, nat_eq, cond, List, [], ◌∷◌, ◌++◌, Option, Some, None, Result, Ok, Err}
use Rattle.std.specs.List.{find}
use Rattle.amqp_credit.specs.Chain.{Chain}
use Rattle.amqp_credit.specs.declared.part.PartHead.{PartHead}
use Rattle.amqp_credit.specs.declared.receiver.Grant.{Grant}
use Rattle.amqp_credit.specs.declared.receiver.Renewal.{Renewal}
use Rattle.amqp_unsettled.specs.declared.entry.Entry.{Entry}
use Rattle.amqp_unsettled.specs.Table.{has_number}
use Rattle.amqp_links.specs.declared.end.End.{End}
use Rattle.amqp_links.specs.declared.end.End.TheVariants.{Sending, Receiving}
use Rattle.amqp_links.specs.declared.life.Life.{Life}
use Rattle.amqp_links.specs.declared.life.LinkEnd.{LinkEnd}
use Rattle.amqp_links.specs.declared.receiving.LinkFault.{LinkFault}
use Rattle.amqp_links.specs.declared.sending.CreditFlow.{CreditFlow}
use Rattle.amqp_links.specs.declared.sending.SenderFlow.{SenderFlow}
use Rattle.amqp_links.specs.declared.session.AddError.{AddError}
use Rattle.amqp_links.specs.declared.session.RemoveError.{RemoveError}
use Rattle.amqp_links.specs.declared.session.attaching.PeerAttach.{PeerAttach}
use Rattle.amqp_links.specs.declared.session.granting.LinkFlow.{LinkFlow}
use Rattle.amqp_links.specs.declared.session.sending.SentPart.{SentPart}
use Rattle.amqp_links.specs.declared.session.sending.SendPartError.{SendPartError}
use Rattle.amqp_links.specs.declared.session.taking.ReceivedPart.{ReceivedPart}
use Rattle.amqp_links.specs.declared.session.taking.TakePartError.{TakePartError}
use Rattle.amqp_links.specs.declared.session.taking.TakePartError.TheVariants as take
use Rattle.amqp_links.specs.Ends.{end_at}
use Rattle.amqp_links.specs.Sending.{new_sending}
use Rattle.amqp_links.specs.Receiving.{new_receiving}
use Rattle.amqp_links.specs.SendingHistory.{SendingCall, SendingLeadsTo}
use Rattle.amqp_links.specs.SendingHistory as sending
use Rattle.amqp_links.specs.ReceivingHistory.{ReceivingCall, ReceivingLeadsTo}
use Rattle.amqp_links.specs.ReceivingHistory as receiving
use Rattle.amqp_links.specs.Session.{LinksView, no_links, AddsEnd, HasSameEnds, RemovesEnd}
use Rattle.amqp_links.specs.Attaching.{AttachesAt, DetachesAt, EndsAt}
use Rattle.amqp_links.specs.Granting.{FlowsAt, AnswersAt, GrantsAt, DrainsAt, RenewsAt}
use Rattle.amqp_links.specs.SendingParts.{SendsAt}
use Rattle.amqp_links.specs.TakingParts.{TakesAt}
use Rattle.amqp_links.specs.Settling.{SettlesSent, SettlesReceived, LeavesNext, LeavesSentOfAll, LeavesReceivedOfAll}

-- One call, and its answer; those of a link have its handle first. The last three are questions.
pub data LinksCall : Type 0 where
  MakesRoom : ℕ → LinksCall
  AddsSender : ℕ → ℕ → Result (Unit {0}) AddError → LinksCall
  AddsReceiver : ℕ → Option Renewal → Option ℕ → Result (Unit {0}) AddError → LinksCall
  Attaches : ℕ → PeerAttach → Option Life → LinksCall
  Detaches : ℕ → Option Life → LinksCall
  Ends : ℕ → Option LinkEnd → LinksCall
  Flows : ℕ → CreditFlow → Option (Result ℕ LinkFault) → LinksCall
  Answers : ℕ → ℕ → Option LinkFlow → LinksCall
  Grants : ℕ → ℕ → Option LinkFlow → LinksCall
  Drains : ℕ → Option LinkFlow → LinksCall
  Renews : ℕ → Option LinkFlow → LinksCall
  Sends : ℕ → SentPart → Result (Option ℕ) SendPartError → LinksCall
  Takes : ℕ → PartHead → ℕ → Result ReceivedPart TakePartError → LinksCall
  Leaves : ℕ → Option Entry → LinksCall
  Removes : ℕ → Result (Unit {0}) RemoveError → LinksCall
  SettlesOfSent : ℕ → ℕ → Option Entry → LinksCall
  SettlesOfReceived : ℕ → ℕ → Option Entry → LinksCall
  LeavesOfSent : Option Entry → LinksCall
  LeavesOfReceived : Option Entry → LinksCall
  AsksEnd : ℕ → Option End → LinksCall
  AsksSent : ℕ → Option Entry → LinksCall
  AsksReceived : ℕ → Option Entry → LinksCall

-- what is told of a part has a number of four bytes
abbrev pub IsNumbered : Result ReceivedPart TakePartError → Type 0
IsNumbered (Ok told) = told.part.number < 2 ^ 32
IsNumbered (Err error) = Unit {0}

-- the call as its contract says it
abbrev pub LinksStep : LinksView → LinksCall → LinksView → Type 0
LinksStep v (MakesRoom h) w = HasSameEnds v w
LinksStep v (AddsSender h initial answer) w = (initial < 2 ^ 32) × AddsEnd v h (Sending (new_sending initial)) answer w
LinksStep v (AddsReceiver h renewal limit answer) w = AddsEnd v h (Receiving (new_receiving renewal limit)) answer w
LinksStep v (Attaches h a answer) w = (a.initial_delivery_count < 2 ^ 32) × AttachesAt (end_at v.ends h) v h a answer w
LinksStep v (Detaches h answer) w = DetachesAt (end_at v.ends h) v h answer w
LinksStep v (Ends h answer) w = EndsAt (end_at v.ends h) v h answer w
LinksStep v (Flows h f answer) w = FlowsAt (end_at v.ends h) v h f answer w
LinksStep v (Answers h available answer) w = AnswersAt (end_at v.ends h) v h available answer w
LinksStep v (Grants h credit answer) w = GrantsAt (end_at v.ends h) v h credit answer w
LinksStep v (Drains h answer) w = DrainsAt (end_at v.ends h) v h answer w
LinksStep v (Renews h answer) w = RenewsAt (end_at v.ends h) v h answer w
LinksStep v (Sends h p answer) w = (p.number < 2 ^ 32) × SendsAt (end_at v.ends h) v h p answer w
LinksStep v (Takes h head given answer) w = IsNumbered answer × TakesAt (end_at v.ends h) v h head given answer w
LinksStep v (Leaves h given) w = LeavesNext (end_at v.ends h) v h given w
LinksStep v (Removes h answer) w = RemovesEnd (end_at v.ends h) v h answer w
LinksStep v (SettlesOfSent first last given) w = SettlesSent first last v given w
LinksStep v (SettlesOfReceived first last given) w = SettlesReceived first last v given w
LinksStep v (LeavesOfSent given) w = LeavesSentOfAll v given w
LinksStep v (LeavesOfReceived given) w = LeavesReceivedOfAll v given w
LinksStep v (AsksEnd h answer) w = (answer ≡ end_at v.ends h) × (w ≡ v)
LinksStep v (AsksSent n answer) w = (answer ≡ find (has_number n) v.sent) × (w ≡ v)
LinksStep v (AsksReceived n answer) w = (answer ≡ find (has_number n) v.received) × (w ≡ v)

-- a legal history of a session's links from its beginning, and the view that it leads to
abbrev pub LinksLeadTo : List LinksCall → LinksView → Type 0
LinksLeadTo H v = Chain LinksStep no_links H v

-- what holds of every history of every session's links
abbrev pub OfLinks : (List LinksCall → LinksView → Type 0) → Type 0
OfLinks P = (H : List LinksCall) (v : LinksView) → LinksLeadTo H v → P H v

-- ---- what one link has seen

-- what a flow says, as a sender's and as a receiver's
abbrev pub or_zero : Option ℕ → ℕ
or_zero None = 0
or_zero (Some n) = n

abbrev pub as_sender : LinkFlow → SenderFlow
as_sender f = record { delivery_count = f.delivery_count; link_credit = f.link_credit; available = or_zero f.available; drain = f.drain }

abbrev pub as_grant : LinkFlow → Grant
as_grant f = record { delivery_count = f.delivery_count; link_credit = f.link_credit; drain = f.drain }

-- a call, as one of a sending end alone; none, where it changes nothing
abbrev pub sender_calls : LinksCall → List SendingCall
sender_calls (Attaches k a answer) = sending.Attaches a.is_accepted a.max_message_size ∷ []
sender_calls (Detaches k answer) = sending.Detaches ∷ []
sender_calls (Ends k (Some told)) = sending.Ends told ∷ []
sender_calls (Flows k f answer) = sending.Flows f ∷ []
sender_calls (Answers k available (Some told)) = sending.Answers available (Some (as_sender told)) ∷ []
sender_calls (Sends k p (Ok given)) = sending.Sends p.size p.end (Ok tt) ∷ []
sender_calls c = []

-- the same of a receiving end
abbrev pub receiver_calls : LinksCall → List ReceivingCall
receiver_calls (Attaches k a answer) = receiving.Attaches a.is_accepted a.initial_delivery_count ∷ []
receiver_calls (Detaches k answer) = receiving.Detaches ∷ []
receiver_calls (Ends k (Some told)) = receiving.Ends told ∷ []
receiver_calls (Flows k f (Some used)) = receiving.Hears f.delivery_count f.echo used ∷ []
receiver_calls (Answers k available (Some told)) = receiving.Answers (Some (as_grant told)) ∷ []
receiver_calls (Grants k credit (Some told)) = receiving.Grants credit (Some (as_grant told)) ∷ []
receiver_calls (Drains k (Some told)) = receiving.Drains (Some (as_grant told)) ∷ []
receiver_calls (Renews k (Some told)) = receiving.Renews (Some (as_grant told)) ∷ []
receiver_calls (Takes k head given (Ok told)) = receiving.Takes head (Ok told.part) ∷ []
receiver_calls (Takes k head given (Err (take.Link error))) = receiving.Takes head (Err error) ∷ []
receiver_calls c = []

-- The end that a handle has, by the history: none; or a sending or a receiving one, as it was added, with its calls since then.
pub data Owner : Type 0 where
  nobody : Owner
  a_sender : ℕ → List SendingCall → Owner
  a_receiver : Option Renewal → Option ℕ → List ReceivingCall → Owner

-- an end goes on by a call
abbrev pub going_on : LinksCall → Owner → Owner
going_on c nobody = nobody
going_on c (a_sender initial K) = a_sender initial (K ++ sender_calls c)
going_on c (a_receiver renewal limit K) = a_receiver renewal limit (K ++ receiver_calls c)

-- the first, where a call has this handle, and else the second
abbrev pub if_at : ℕ → ℕ → Owner → Owner → Owner
if_at h k there other = cond (nat_eq k h) there other

abbrev pub owner_after : ℕ → LinksCall → Owner → Owner
owner_after h (AddsSender k initial (Ok done)) o = if_at h k (a_sender initial []) o
owner_after h (AddsReceiver k renewal limit (Ok done)) o = if_at h k (a_receiver renewal limit []) o
owner_after h (Removes k (Ok done)) o = if_at h k nobody o
owner_after h (Attaches k a answer) o = if_at h k (going_on (Attaches k a answer) o) o
owner_after h (Detaches k answer) o = if_at h k (going_on (Detaches k answer) o) o
owner_after h (Ends k answer) o = if_at h k (going_on (Ends k answer) o) o
owner_after h (Flows k f answer) o = if_at h k (going_on (Flows k f answer) o) o
owner_after h (Answers k available answer) o = if_at h k (going_on (Answers k available answer) o) o
owner_after h (Grants k credit answer) o = if_at h k (going_on (Grants k credit answer) o) o
owner_after h (Drains k answer) o = if_at h k (going_on (Drains k answer) o) o
owner_after h (Renews k answer) o = if_at h k (going_on (Renews k answer) o) o
owner_after h (Sends k p answer) o = if_at h k (going_on (Sends k p answer) o) o
owner_after h (Takes k head given answer) o = if_at h k (going_on (Takes k head given answer) o) o
owner_after h c o = o

abbrev pub owner_by : ℕ → Owner → List LinksCall → Owner
owner_by h o [] = o
owner_by h o (c ∷ cs) = owner_by h (owner_after h c o) cs

-- ---- the law

-- the end is that of a link of its own, with this history
abbrev pub IsOwn : Owner → Option End → Type 0
IsOwn nobody e = e ≡ None
IsOwn (a_sender initial K) (Some (Sending s)) = SendingLeadsTo initial K s
IsOwn (a_receiver renewal limit K) (Some (Receiving r)) = ReceivingLeadsTo renewal limit K r
IsOwn o e = ⊥

-- Each handle has an end where one was added and not removed since; and that end is as if it were alone, with the calls of its handle.
abbrev pub EachIsAlone : List LinksCall → LinksView → Type 0
EachIsAlone H v = (h : ℕ) → IsOwn (owner_by h nobody H) (end_at v.ends h)
