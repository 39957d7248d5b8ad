-- Part: other calls.
-- The history of one receiving end: its calls with their answers, the oldest first, and what holds of each (AMQP 1.0 part 2, sections 2.6.3, 2.6.7
-- and 2.6.14).
use Rattle.std.specs.Prelude.{ℕ, ◌^◌, ◌<◌, ◌≡◌, Bool, List, [], ◌∷◌, ◌++◌, Option, Some, Result, Ok, Err, if◌then◌else◌}
use Rattle.amqp_credit.specs.Chain.{Chain, Each}
use Rattle.amqp_credit.specs.Assembly.{new_assembly}
use Rattle.amqp_credit.specs.AssemblyHistory.{AssemblyCall, AssemblyStep, Comes, AsksNumber}
use Rattle.amqp_credit.specs.Assembly.{number_in}
use Rattle.amqp_credit.specs.ReceiverHistory.{ReceiverCall, ReceiverLeadsTo}
use Rattle.amqp_credit.specs.ReceiverHistory as credit
use Rattle.amqp_credit.specs.declared.part.Part.{Part}
use Rattle.amqp_credit.specs.declared.part.PartHead.{PartHead}
use Rattle.amqp_credit.specs.declared.receiver.Grant.{Grant}
use Rattle.amqp_credit.specs.declared.receiver.Renewal.{Renewal}
use Rattle.amqp_links.specs.declared.life.Life.{Life}
use Rattle.amqp_links.specs.declared.life.Life.TheVariants.{Attaching, Attached, Detaching, Detached}
use Rattle.amqp_links.specs.declared.life.LinkEnd.{LinkEnd}
use Rattle.amqp_links.specs.declared.receiving.LinkFault.{LinkFault}
use Rattle.amqp_links.specs.declared.receiving.LinkFault.TheVariants as fault
use Rattle.amqp_links.specs.declared.receiving.TransferError.{TransferError}
use Rattle.amqp_links.specs.declared.receiving.TransferError.TheVariants as transfer
use Rattle.amqp_links.specs.Life.{having_attached, having_detached}
use Rattle.amqp_links.specs.Receiving.{ReceivingView, new_receiving, AttachStep, GrantStep, DrainStep, RenewStep, HeardStep, AnswerStep, TakesStep}
use Rattle.amqp_links.specs.Receiving.{DetachStep, EndsStep}

-- One call, and its answer. The last three are questions.
pub data ReceivingCall : Type 0 where
  Attaches : Bool → ℕ → ReceivingCall
  Grants : ℕ → Option Grant → ReceivingCall
  Drains : Option Grant → ReceivingCall
  Renews : Option Grant → ReceivingCall
  Hears : Option ℕ → Bool → Result ℕ LinkFault → ReceivingCall
  Answers : Option Grant → ReceivingCall
  Takes : PartHead → Result Part TransferError → ReceivingCall
  Detaches : ReceivingCall
  Ends : LinkEnd → ReceivingCall
  AsksLife : Life → ReceivingCall
  AsksCredit : ℕ → ReceivingCall
  AsksUnderWay : Option ℕ → ReceivingCall

abbrev pub ReceivingStep : ReceivingView → ReceivingCall → ReceivingView → Type 0
ReceivingStep v (Attaches accepts initial) w = (initial < 2 ^ 32) × AttachStep v accepts initial w
ReceivingStep v (Grants n answer) w = GrantStep v n answer w
ReceivingStep v (Drains answer) w = DrainStep v answer w
ReceivingStep v (Renews answer) w = RenewStep v answer w
ReceivingStep v (Hears count echo answer) w = HeardStep v count echo answer w
ReceivingStep v (Answers answer) w = AnswerStep v answer w
ReceivingStep v (Takes head answer) w = TakesStep v head answer w
ReceivingStep v Detaches w = DetachStep v w
ReceivingStep v (Ends told) w = EndsStep v told w
ReceivingStep v (AsksLife answer) w = (answer ≡ v.life) × (w ≡ v)
ReceivingStep v (AsksCredit n) w = (n ≡ v.credit.credit) × (w ≡ v)
ReceivingStep v (AsksUnderWay answer) w = (answer ≡ number_in v.parts.current) × (w ≡ v)

-- a legal history of a receiving end that renews by this rule and has this limit for the size of a delivery, and the view that it leads to
abbrev pub ReceivingLeadsTo : Option Renewal → Option ℕ → List ReceivingCall → ReceivingView → Type 0
ReceivingLeadsTo renewal limit H w = Chain ReceivingStep (new_receiving renewal limit) H w

-- what holds of every history of every receiving end
abbrev pub OfReceivings : (Option Renewal → Option ℕ → List ReceivingCall → ReceivingView → Type 0) → Type 0
OfReceivings P = (renewal : Option Renewal) (limit : Option ℕ) (H : List ReceivingCall) (v : ReceivingView) →
    ReceivingLeadsTo renewal limit H v → P renewal limit H v

-- ---- where the link stands, by the history alone: what the sender may not do detaches it

abbrev pub life_after : ReceivingCall → Life → Life
life_after (Attaches accepts initial) life = having_attached accepts life
life_after (Hears count echo (Err f)) life = Detaching
life_after (Takes head (Err (transfer.Fault f))) life = Detaching
life_after Detaches life = having_detached life
life_after (Ends told) life = Detached
life_after c life = life

abbrev pub life_by : Life → List ReceivingCall → Life
life_by life [] = life
life_by life (c ∷ cs) = life_by (life_after c life) cs

-- ---- the parts

-- what is told of a transfer is told of a part; so is what refuses one, but for the credit
abbrev pub parts_of : ReceivingCall → List AssemblyCall
parts_of (Takes head (Ok p)) = Comes head (Ok p) ∷ []
parts_of (Takes head (Err (transfer.Fault (fault.Part e)))) = Comes head (Err e) ∷ []
parts_of (AsksUnderWay answer) = AsksNumber answer ∷ []
parts_of c = []

abbrev pub parts_by : List ReceivingCall → List AssemblyCall
parts_by [] = []
parts_by (c ∷ cs) = parts_of c ++ parts_by cs

-- The parts that are told are those of an assembly to which the same parts came: so what holds of every history of parts holds of them.
abbrev pub IsAssemblyOf : Option ℕ → List ReceivingCall → ReceivingView → Type 0
IsAssemblyOf limit H v = Chain AssemblyStep (new_assembly limit) (parts_by H) v.parts

-- ---- the credit

-- the calls of a receiver's credit that a call is, on a link that is attached
abbrev pub credit_of : ReceivingCall → List ReceiverCall
credit_of (Grants n (Some told)) = credit.Grants n told ∷ []
credit_of (Drains (Some told)) = credit.Drains told ∷ []
credit_of (Renews told) = credit.Renews told ∷ []
credit_of (Hears count echo (Ok used)) = credit.Hears count (Ok used) ∷ []
credit_of (Hears count echo (Err f)) = credit.Hears count (Err (record {})) ∷ []
credit_of (Answers (Some told)) = credit.AsksFlowState told ∷ []
credit_of (Takes head (Ok p)) = if p.is_first then credit.Takes (Ok tt) ∷ [] else []
credit_of (Takes head (Err (transfer.Fault fault.OverCredit))) = credit.Takes (Err (record {})) ∷ []
credit_of (AsksCredit n) = credit.AsksCredit n ∷ []
credit_of c = []

-- calls count while the link is attached
abbrev pub if_attached : Life → List ReceiverCall → List ReceiverCall
if_attached Attached cs = cs
if_attached life cs = []

abbrev pub credit_by : Life → List ReceivingCall → List ReceiverCall
credit_by life [] = []
credit_by life (c ∷ cs) = if_attached life (credit_of c) ++ credit_by (life_after c life) cs

-- the count that the credit begins with: that of the Attach by which the link was attached
abbrev pub begins_with : Life → ReceivingCall → ℕ → ℕ
begins_with Attaching (Attaches accepts initial) before = initial
begins_with life c before = before

abbrev pub begun_by : Life → ℕ → List ReceivingCall → ℕ
begun_by life before [] = before
begun_by life before (c ∷ cs) = begun_by (life_after c life) (begins_with life c before) cs

-- The credit of a link is that of a receiver that granted the same and took the same deliveries: so what holds of every history of a receiver's credit
-- holds of the link's.
abbrev pub IsCreditOf : Option Renewal → List ReceivingCall → ReceivingView → Type 0
IsCreditOf renewal H v = ReceiverLeadsTo (begun_by Attaching 0 H) renewal (credit_by Attaching H) v.credit

-- It stands where the history says.
abbrev pub StandsBy : List ReceivingCall → ReceivingView → Type 0
StandsBy H v = v.life ≡ life_by Attaching H

-- a transfer that is told
abbrev pub WhereTold : ReceivingCall → Type 0 → Type 0
WhereTold (Takes head (Ok p)) P = P
WhereTold c P = Unit {0}

-- No transfer is told but of a link that both sides have attached, that neither has detached, and whose sender did nothing that it may not do.
abbrev pub ToldWhereAttached : List ReceivingCall → Type 0
ToldWhereAttached H = Each H (λ before c. WhereTold c (life_by Attaching before ≡ Attached))
