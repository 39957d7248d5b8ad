-- Part: other calls.
-- Both ends of one link that both sides have attached, and what is on the way between them, in order, the first one that was sent first (AMQP 1.0 part 2,
-- sections 2.6.7 and 2.6.14).
use Rattle.std.specs.Prelude.{ℕ, ◌+◌, ◌^◌, ◌<◌, ◌≤◌, ◌≡◌, ⊤, Bool, false, List, [], ◌∷◌, ◌++◌, Option, Some, None, Result, Ok, Err}
use Rattle.amqp_credit.specs.Assembly as assembly
use Rattle.amqp_credit.specs.Assembly.{end_of, is_new}
use Rattle.amqp_credit.specs.Chain.{Chain, Each}
use Rattle.amqp_credit.specs.Pair.{IsRule}
use Rattle.amqp_credit.specs.Receiver.{new_receiver}
use Rattle.amqp_credit.specs.declared.part.Part.{Part}
use Rattle.amqp_credit.specs.declared.part.PartHead.{PartHead}
use Rattle.amqp_credit.specs.declared.part.PartTag.TheVariants.{New}
use Rattle.amqp_credit.specs.declared.receiver.Grant.{Grant}
use Rattle.amqp_credit.specs.declared.receiver.Renewal.{Renewal}
use Rattle.amqp_links.specs.declared.life.Life.TheVariants.{Attached}
use Rattle.amqp_links.specs.declared.receiving.LinkFault.{LinkFault}
use Rattle.amqp_links.specs.declared.receiving.TransferError.{TransferError}
use Rattle.amqp_links.specs.declared.sending.CreditFlow.{CreditFlow}
use Rattle.amqp_links.specs.declared.sending.SenderFlow.{SenderFlow}
use Rattle.amqp_links.specs.declared.sending.SendError.{SendError}
use Rattle.amqp_links.specs.Receiving as receiving
use Rattle.amqp_links.specs.Receiving.{ReceivingView, new_receiving}
use Rattle.amqp_links.specs.Sending as sending
use Rattle.amqp_links.specs.Sending.{SendingView, new_sending}

-- what is on the way to the receiver: a transfer, or a flow of the sender with its count
pub data Sent : Type 0 where
  Transfer : PartHead → Sent
  Flow : ℕ → Sent

pub record Joined : Type 0 where
  pub sender : SendingView
  pub receiver : ReceivingView
  pub to_sender : List Grant
  pub to_receiver : List Sent

-- Both Attaches have come. The sender's begins with this count, and the receiver's sets this limit.
abbrev pub joined : ℕ → Option Renewal → Option ℕ → Joined
joined initial renewal limit = record {
  sender = record (new_sending initial) { life = Attached; limit = limit };
  receiver = record (new_receiving renewal limit) { life = Attached; credit = new_receiver initial renewal };
  to_sender = [];
  to_receiver = [];
}

-- A call of the sending end, or of the receiving one; or what is first on the way comes to one of them.
pub data JoinedCall : Type 0 where
  Sends : PartHead → Result (Unit {0}) SendError → JoinedCall
  Answers : ℕ → Option SenderFlow → JoinedCall
  Grants : ℕ → Option Grant → JoinedCall
  Drains : Option Grant → JoinedCall
  Renews : Option Grant → JoinedCall
  Echoes : Option Grant → JoinedCall
  FlowComes : Bool → JoinedCall
  TransferComes : PartHead → Result Part TransferError → JoinedCall
  CountComes : ℕ → Bool → Result ℕ LinkFault → JoinedCall

-- A transfer that begins a delivery says its number and its tag; a later one says no number and no format, and no other tag (section 2.7.5).
abbrev pub IsHead : Option ℕ → PartHead → Type 0
IsHead None head = (n : ℕ) × (head.number ≡ Some n) × (head.tag ≡ New)
IsHead (Some size) head = (head.number ≡ None) × (head.format ≡ None) × (is_new head.tag ≡ false)

-- what goes out by a call
abbrev pub transfers : PartHead → Result (Unit {0}) SendError → List Sent
transfers head (Ok done) = Transfer head ∷ []
transfers head (Err error) = []

abbrev pub counts : Option SenderFlow → List Sent
counts None = []
counts (Some told) = Flow told.delivery_count ∷ []

abbrev pub grants : Option Grant → List Grant
grants None = []
grants (Some told) = told ∷ []

-- the receiver's flow as it comes to the sender, which it asks for one in answer, or not
abbrev pub flow_by : Grant → Bool → CreditFlow
flow_by told echo = record {
  delivery_count = Some told.delivery_count;
  link_credit = Some told.link_credit;
  drain = told.drain;
  echo = echo;
}

-- a call of the receiver, which says this
abbrev pub SaysStep : (ReceivingView → Option Grant → ReceivingView → Type 0) → Joined → Option Grant → Joined → Type 0
SaysStep Step p answer q =
    Step p.receiver answer q.receiver × (q ≡ record p { receiver = q.receiver; to_sender = p.to_sender ++ grants answer })

-- the first flow on the way comes to the sender
abbrev pub FlowStep : List Grant → Joined → Bool → Joined → Type 0
FlowStep [] p echo q = ⊥
FlowStep (told ∷ others) p echo q =
    sending.FlowsStep p.sender (flow_by told echo) q.sender × (q ≡ record p { sender = q.sender; to_sender = others })

-- what is first on the way comes to the receiver
abbrev pub TransferStep : List Sent → Joined → PartHead → Result Part TransferError → Joined → Type 0
TransferStep [] p head answer q = ⊥
TransferStep (Flow n ∷ others) p head answer q = ⊥
TransferStep (Transfer first ∷ others) p head answer q = (head ≡ first) × receiving.TakesStep p.receiver head answer q.receiver
    × (q ≡ record p { receiver = q.receiver; to_receiver = others })

abbrev pub CountStep : List Sent → Joined → ℕ → Bool → Result ℕ LinkFault → Joined → Type 0
CountStep [] p n echo answer q = ⊥
CountStep (Transfer first ∷ others) p n echo answer q = ⊥
CountStep (Flow first ∷ others) p n echo answer q = (n ≡ first) × receiving.HeardStep p.receiver (Some n) echo answer q.receiver
    × (q ≡ record p { receiver = q.receiver; to_receiver = others })

-- A receiver grants no less than its credit is: one that is less may be passed by deliveries that are on the way.
abbrev pub JoinedStep : Joined → JoinedCall → Joined → Type 0
JoinedStep p (Sends head answer) q = IsHead p.sender.under_way head
    × sending.SendsStep p.sender head.size (end_of head.more head.aborted) answer q.sender
    × (q ≡ record p { sender = q.sender; to_receiver = p.to_receiver ++ transfers head answer })
JoinedStep p (Answers available answer) q = sending.AnswerStep p.sender available answer q.sender
    × (q ≡ record p { sender = q.sender; to_receiver = p.to_receiver ++ counts answer })
JoinedStep p (Grants n answer) q =
    (p.receiver.credit.credit ≤ n) × (n < 2 ^ 32) × SaysStep (λ v told w. receiving.GrantStep v n told w) p answer q
JoinedStep p (Drains answer) q = SaysStep (λ v told w. receiving.DrainStep v told w) p answer q
JoinedStep p (Renews answer) q = SaysStep (λ v told w. receiving.RenewStep v told w) p answer q
JoinedStep p (Echoes answer) q = SaysStep (λ v told w. receiving.AnswerStep v told w) p answer q
JoinedStep p (FlowComes echo) q = FlowStep p.to_sender p echo q
JoinedStep p (TransferComes head answer) q = TransferStep p.to_receiver p head answer q
JoinedStep p (CountComes n echo answer) q = CountStep p.to_receiver p n echo answer q

-- what holds of every history of every two ends that are joined, and of what it leads to
abbrev pub OfJoined : (List JoinedCall → Joined → Type 0) → Type 0
OfJoined P = (initial : ℕ) (renewal : Option Renewal) (limit : Option ℕ) (H : List JoinedCall) (p : Joined) →
    initial < 2 ^ 32 → IsRule renewal → Chain JoinedStep (joined initial renewal limit) H p → P H p

-- ---- the law

-- the receiver refuses what came
abbrev pub IsRefused : JoinedCall → Type 0
IsRefused (TransferComes head (Err refused)) = ⊤
IsRefused (CountComes n echo (Err refused)) = ⊤
IsRefused c = ⊥

-- Nothing that comes is refused: no transfer passes the credit or the limit, or is a part of no delivery.
abbrev pub NoneRefused : List JoinedCall → Type 0
NoneRefused H = Each H (λ before c. IsRefused c → ⊥)

-- the transfers that were sent, that have come, and that are on the way
abbrev pub sent_by : JoinedCall → List PartHead
sent_by (Sends head (Ok done)) = head ∷ []
sent_by c = []

abbrev pub sent_in : List JoinedCall → List PartHead
sent_in [] = []
sent_in (c ∷ cs) = sent_by c ++ sent_in cs

abbrev pub come_by : JoinedCall → List PartHead
come_by (TransferComes head answer) = head ∷ []
come_by c = []

abbrev pub come_in : List JoinedCall → List PartHead
come_in [] = []
come_in (c ∷ cs) = come_by c ++ come_in cs

abbrev pub way_of : Sent → List PartHead
way_of (Transfer head) = head ∷ []
way_of (Flow n) = []

abbrev pub on_way : List Sent → List PartHead
on_way [] = []
on_way (it ∷ others) = way_of it ++ on_way others

-- Each transfer that was sent comes once, in the order in which they were sent, or is on the way.
abbrev pub ComeInOrder : List JoinedCall → Joined → Type 0
ComeInOrder H p = come_in H ++ on_way p.to_receiver ≡ sent_in H

-- how many deliveries begin with these
abbrev pub begun_by : Option ℕ → ℕ
begun_by None = 0
begun_by (Some n) = 1

abbrev pub begun_in : List PartHead → ℕ
begun_in [] = 0
begun_in (head ∷ others) = begun_by head.number + begun_in others

-- What the sender may still begin, and what is on the way, is no more than the receiver granted.
abbrev pub CreditIsKept : Joined → Type 0
CreditIsKept p = p.sender.credit.credit + begun_in (on_way p.to_receiver) ≤ p.receiver.credit.credit

-- With nothing on the way both ends have the same count and credit, and a delivery is under way at both or at none.
abbrev pub EndsAgree : Joined → Type 0
EndsAgree p = p.to_sender ≡ [] → p.to_receiver ≡ [] →
    (p.sender.credit.count ≡ p.receiver.credit.count) × (p.sender.credit.credit ≡ p.receiver.credit.credit)
    × (sending.is_none p.sender.under_way ≡ assembly.is_none p.receiver.parts.current)
