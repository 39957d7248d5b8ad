-- Part: other calls.
-- Both ends of one link: a sender and a receiver, and what is on the way between them, in order, the first one that
-- was sent first.
use Rattle.std.specs.Prelude.{ℕ, ◌+◌, ◌^◌, ◌<◌, ◌≤◌, ◌≡◌, ⊤, List, [], ◌∷◌, ◌++◌, Option, Some, None, Ok, Err}
use Rattle.amqp_credit.specs.declared.receiver.Renewal.{Renewal}
use Rattle.amqp_credit.specs.declared.receiver.Grant.{Grant}
use Rattle.amqp_credit.specs.Chain.{Chain, Each}
use Rattle.amqp_credit.specs.Sender.{SenderView, new_sender}
use Rattle.amqp_credit.specs.SenderHistory as sender
use Rattle.amqp_credit.specs.SenderHistory.{SenderCall, SenderStep}
use Rattle.amqp_credit.specs.Receiver.{ReceiverView, new_receiver}
use Rattle.amqp_credit.specs.ReceiverHistory as receiver
use Rattle.amqp_credit.specs.ReceiverHistory.{ReceiverCall, ReceiverStep}

-- what is on the way to the receiver: a delivery that was begun, or a flow of the sender with its count
pub data Sent : Type 0 where
  Begun : Sent
  Says : ℕ → Sent

pub record Pair : Type 0 where
  pub sender : SenderView
  pub receiver : ReceiverView
  pub to_sender : List Grant
  pub to_receiver : List Sent

-- both ends of a link whose sender's Attach begins with this count
abbrev pub new_pair : ℕ → Option Renewal → Pair
new_pair initial renewal = record {
  sender = new_sender initial;
  receiver = new_receiver initial renewal;
  to_sender = [];
  to_receiver = [];
}

-- A call of one end, or what is first on the way comes: a flow to the sender, and to the receiver what is a call there
-- with its answer.
pub data PairCall : Type 0 where
  AtSender : SenderCall → PairCall
  AtReceiver : ReceiverCall → PairCall
  FlowComes : PairCall
  Comes : ReceiverCall → PairCall

-- what a sender does by itself: it takes no flow that did not come
abbrev pub SenderMay : SenderCall → Type 0
SenderMay (sender.Flows seen granted drain) = ⊥
SenderMay c = ⊤

-- What a receiver does by itself: it takes nothing that did not come, and a grant is no less than the credit is. One
-- that is less may be passed by deliveries that are on the way.
abbrev pub ReceiverMay : ReceiverView → ReceiverCall → Type 0
ReceiverMay v (receiver.Hears count answer) = ⊥
ReceiverMay v (receiver.Takes answer) = ⊥
ReceiverMay v (receiver.Grants credit told) = (v.credit ≤ credit) × (credit < 2 ^ 32)
ReceiverMay v c = ⊤

-- what goes out by a call: a delivery, or a flow with the count that it has then
abbrev pub sent_by : SenderCall → ℕ → List Sent
sent_by (sender.Sends (Ok done)) count = Begun ∷ []
sent_by (sender.UsesUp used) count = Says count ∷ []
sent_by (sender.AsksCount n) count = Says n ∷ []
sent_by c count = []

-- the flow of the receiver that goes out by a call
abbrev pub told_to_sender : ReceiverCall → List Grant
told_to_sender (receiver.Grants credit told) = told ∷ []
told_to_sender (receiver.Drains told) = told ∷ []
told_to_sender (receiver.Renews (Some told)) = told ∷ []
told_to_sender (receiver.AsksFlowState told) = told ∷ []
told_to_sender c = []

-- the call that a receiver makes of what comes
abbrev pub IsFor : Sent → ReceiverCall → Type 0
IsFor Begun (receiver.Takes answer) = ⊤
IsFor (Says n) (receiver.Hears said answer) = said ≡ Some n
IsFor it c = ⊥

-- the first flow on the way comes to the sender
abbrev pub FlowStep : List Grant → Pair → Pair → Type 0
FlowStep [] p q = ⊥
FlowStep (told ∷ others) p q =
    SenderStep p.sender (sender.Flows (Some told.delivery_count) (Some told.link_credit) told.drain) q.sender
    × (q ≡ record p { sender = q.sender; to_sender = others })

-- what is first on the way comes to the receiver
abbrev pub ComeStep : List Sent → Pair → ReceiverCall → Pair → Type 0
ComeStep [] p c q = ⊥
ComeStep (it ∷ others) p c q =
    IsFor it c × ReceiverStep p.receiver c q.receiver × (q ≡ record p { receiver = q.receiver; to_receiver = others })

abbrev pub PairStep : Pair → PairCall → Pair → Type 0
PairStep p (AtSender c) q =
    SenderMay c × SenderStep p.sender c q.sender
    × (q ≡ record p { sender = q.sender; to_receiver = p.to_receiver ++ sent_by c q.sender.count })
PairStep p (AtReceiver c) q =
    ReceiverMay p.receiver c × ReceiverStep p.receiver c q.receiver
    × (q ≡ record p { receiver = q.receiver; to_sender = p.to_sender ++ told_to_sender c })
PairStep p FlowComes q = FlowStep p.to_sender p q
PairStep p (Comes c) q = ComeStep p.to_receiver p c q

-- a rule of renewal, whose numbers are of four bytes
abbrev pub IsRule : Option Renewal → Type 0
IsRule None = ⊤
IsRule (Some rule) = (rule.low < 2 ^ 32) × (rule.high < 2 ^ 32)

-- what holds of every history of every pair, and of what it leads to
abbrev pub OfPairs : (List PairCall → Pair → Type 0) → Type 0
OfPairs P = (initial : ℕ) (renewal : Option Renewal) (H : List PairCall) (p : Pair) →
    initial < 2 ^ 32 → IsRule renewal → Chain PairStep (new_pair initial renewal) H p → P H p

-- the receiver refuses what came
abbrev pub IsRefused : PairCall → Type 0
IsRefused (Comes (receiver.Takes (Err refused))) = ⊤
IsRefused (Comes (receiver.Hears said (Err refused))) = ⊤
IsRefused c = ⊥

-- Nothing that comes is refused: no delivery, and no flow.
abbrev pub NoneRefused : List PairCall → Type 0
NoneRefused H = Each H (λ before c. IsRefused c → ⊥)

-- how many deliveries are on the way
abbrev pub begun_in : List Sent → ℕ
begun_in [] = 0
begun_in (Begun ∷ others) = 1 + begun_in others
begun_in (Says n ∷ others) = begun_in others

-- What the sender may still begin, and what is on the way, is no more than the receiver granted.
abbrev pub CreditIsKept : Pair → Type 0
CreditIsKept p = p.sender.credit + begun_in p.to_receiver ≤ p.receiver.credit

-- With nothing on the way both ends have the same count and the same credit, and know the same of a drain.
abbrev pub EndsAgree : Pair → Type 0
EndsAgree p = p.to_sender ≡ [] → p.to_receiver ≡ [] →
    (p.sender.count ≡ p.receiver.count) × (p.sender.credit ≡ p.receiver.credit)
    × (p.sender.drain ≡ p.receiver.draining)
