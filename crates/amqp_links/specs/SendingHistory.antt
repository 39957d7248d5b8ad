-- Part: other calls.
-- The history of one sending end: its calls with their answers, the oldest first, and what holds of each (AMQP 1.0 part 2, sections 2.6.3 and 2.6.7).
use Rattle.std.specs.Prelude.{ℕ, ◌^◌, ◌<◌, ◌≡◌, Bool, true, false, List, [], ◌∷◌, ◌++◌, Option, Result, Ok}
use Rattle.amqp_credit.specs.Chain.{Chain, Each}
use Rattle.amqp_credit.specs.SenderHistory.{SenderCall, SenderLeadsTo}
use Rattle.amqp_credit.specs.SenderHistory as credit
use Rattle.amqp_credit.specs.declared.part.PartEnd.{PartEnd}
use Rattle.amqp_credit.specs.declared.part.PartEnd.TheVariants.{More, Last, Aborted}
use Rattle.amqp_links.specs.declared.life.Life.{Life}
use Rattle.amqp_links.specs.declared.life.Life.TheVariants.{Attaching, Attached, Detached}
use Rattle.amqp_links.specs.declared.life.LinkEnd.{LinkEnd}
use Rattle.amqp_links.specs.declared.sending.CreditFlow.{CreditFlow}
use Rattle.amqp_links.specs.declared.sending.SenderFlow.{SenderFlow}
use Rattle.amqp_links.specs.declared.sending.SendError.{SendError}
use Rattle.amqp_links.specs.Life.{having_attached, having_detached}
use Rattle.amqp_links.specs.Sending.{SendingView, new_sending, AttachStep, FlowsStep, SendsStep, AnswerStep, DetachStep, EndsStep}

-- One call, and its answer. The last four are questions.
pub data SendingCall : Type 0 where
  Attaches : Bool → Option ℕ → SendingCall
  Flows : CreditFlow → SendingCall
  Sends : ℕ → PartEnd → Result (Unit {0}) SendError → SendingCall
  Answers : ℕ → Option SenderFlow → SendingCall
  Detaches : SendingCall
  Ends : LinkEnd → SendingCall
  AsksLife : Life → SendingCall
  AsksCredit : ℕ → SendingCall
  AsksCount : ℕ → SendingCall
  AsksUnderWay : Option ℕ → SendingCall

abbrev pub SendingStep : SendingView → SendingCall → SendingView → Type 0
SendingStep v (Attaches accepts limit) w = AttachStep v accepts limit w
SendingStep v (Flows f) w = FlowsStep v f w
SendingStep v (Sends size end answer) w = SendsStep v size end answer w
SendingStep v (Answers available answer) w = AnswerStep v available answer w
SendingStep v Detaches w = DetachStep v w
SendingStep v (Ends answer) w = EndsStep v answer w
SendingStep v (AsksLife answer) w = (answer ≡ v.life) × (w ≡ v)
SendingStep v (AsksCredit n) w = (n ≡ v.credit.credit) × (w ≡ v)
SendingStep v (AsksCount n) w = (n ≡ v.credit.count) × (w ≡ v)
SendingStep v (AsksUnderWay answer) w = (answer ≡ v.under_way) × (w ≡ v)

-- a legal history of a sending end whose Attach begins with this count, and the view that it leads to
abbrev pub SendingLeadsTo : ℕ → List SendingCall → SendingView → Type 0
SendingLeadsTo initial H w = (initial < 2 ^ 32) × Chain SendingStep (new_sending initial) H w

-- what holds of every history of every sending end
abbrev pub OfSendings : (ℕ → List SendingCall → SendingView → Type 0) → Type 0
OfSendings P = (initial : ℕ) (H : List SendingCall) (v : SendingView) → SendingLeadsTo initial H v → P initial H v

-- ---- where the link stands, by the history alone

abbrev pub life_after : SendingCall → Life → Life
life_after (Attaches accepts limit) life = having_attached accepts life
life_after Detaches life = having_detached life
life_after (Ends told) life = Detached
life_after c life = life

abbrev pub life_by : Life → List SendingCall → Life
life_by life [] = life
life_by life (c ∷ cs) = life_by (life_after c life) cs

-- a delivery is under way after a transfer with more to follow
abbrev pub is_more : PartEnd → Bool
is_more More = true
is_more Last = false
is_more Aborted = false

abbrev pub busy_after : SendingCall → Bool → Bool
busy_after (Sends size end (Ok done)) busy = is_more end
busy_after c busy = busy

abbrev pub busy_by : Bool → List SendingCall → Bool
busy_by busy [] = busy
busy_by busy (c ∷ cs) = busy_by (busy_after c busy) cs

-- ---- what counts for the credit

-- a flow that came while the link was attached, and a delivery that was begun
pub data Counted : Type 0 where
  Flowed : Option ℕ → Option ℕ → Bool → Counted
  Begun : Counted

abbrev pub counted_flow : Life → CreditFlow → List Counted
counted_flow Attached f = Flowed f.delivery_count f.link_credit f.drain ∷ []
counted_flow life f = []

-- a transfer that begins a delivery, since none is under way
abbrev pub counted_send : Bool → List Counted
counted_send false = Begun ∷ []
counted_send true = []

-- a call on a link that stands there, with a delivery under way or not
abbrev pub counted_of : Life → Bool → SendingCall → List Counted
counted_of life busy (Flows f) = counted_flow life f
counted_of life busy (Sends size end (Ok done)) = counted_send busy
counted_of life busy c = []

abbrev pub counted_by : Life → Bool → List SendingCall → List Counted
counted_by life busy [] = []
counted_by life busy (c ∷ cs) = counted_of life busy c ++ counted_by (life_after c life) (busy_after c busy) cs

-- the same of the calls of a sender's credit
abbrev pub counted_in : List SenderCall → List Counted
counted_in [] = []
counted_in (credit.Flows seen granted drain ∷ cs) = Flowed seen granted drain ∷ counted_in cs
counted_in (credit.Sends (Ok done) ∷ cs) = Begun ∷ counted_in cs
counted_in (c ∷ cs) = counted_in cs

-- The credit of a link is that of a sender to which the same flows came, and which began the same deliveries, in the same order. So what holds of
-- every history of a sender's credit holds of the link's.
pub record IsCreditOf (initial : ℕ) (H : List SendingCall) (v : SendingView) : Type 0 where
  pub calls : List SenderCall
  pub leads : SenderLeadsTo initial calls v.credit
  pub same : counted_in calls ≡ counted_by Attaching false H

-- It stands where the history says.
abbrev pub StandsBy : List SendingCall → SendingView → Type 0
StandsBy H v = v.life ≡ life_by Attaching H

-- a transfer that is sent
abbrev pub WhereSent : SendingCall → Type 0 → Type 0
WhereSent (Sends size end (Ok done)) P = P
WhereSent c P = Unit {0}

-- Nothing is sent but on a link that both sides have attached, and neither has detached.
abbrev pub SentWhereAttached : List SendingCall → Type 0
SentWhereAttached H = Each H (λ before c. WhereSent c (life_by Attaching before ≡ Attached))
