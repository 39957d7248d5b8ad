-- Part: other calls; inner.
-- The receiving end of a link, and what each call makes of it (AMQP 1.0 part 2, sections 2.6.3, 2.6.7 and 2.6.14).
use Rattle.std.specs.Prelude.{ℕ, ◌≡◌, ◌||◌, ◌&&◌, nat_eq, if◌then◌else◌, Bool, true, false, List, Option, Some, None, Result, Ok, Err, codes, is_some}
use Rattle.amqp_credit.specs.Assembly.{AssemblyView, new_assembly, PartStep, finished, is_none, prepared}
use Rattle.amqp_credit.specs.Receiver.{ReceiverView, new_receiver, told_by, wanted, taken_off, or_zero, used_up}
use Rattle.amqp_credit.specs.Receiver as receiver
use Rattle.amqp_credit.specs.declared.part.Part.{Part}
use Rattle.amqp_credit.specs.declared.part.PartHead.{PartHead}
use Rattle.amqp_credit.specs.declared.part.PartError.{PartError}
use Rattle.amqp_credit.specs.declared.part.PartError.TheVariants as part
use Rattle.amqp_credit.specs.declared.receiver.Grant.{Grant}
use Rattle.amqp_credit.specs.declared.receiver.Renewal.{Renewal}
use Rattle.amqp_links.specs.declared.life.Life.{Life}
use Rattle.amqp_links.specs.declared.life.Life.TheVariants.{Attaching, Attached, Detaching, Detached}
use Rattle.amqp_links.specs.declared.life.LinkEnd.{LinkEnd}
use Rattle.amqp_links.specs.declared.receiving.LinkFault.{LinkFault}
use Rattle.amqp_links.specs.declared.receiving.LinkFault.TheVariants as fault
use Rattle.amqp_links.specs.declared.receiving.TransferError.{TransferError}
use Rattle.amqp_links.specs.declared.receiving.TransferError.TheVariants as transfer
use Rattle.amqp_links.specs.Life.{having_attached, having_detached, end_of}

-- What a receiving end knows: where it stands, its credit, the parts of its deliveries, when credit is renewed, and whether the sender waits for a
-- flow.
pub record ReceivingView : Type 0 where
  pub life : Life
  pub credit : ReceiverView
  pub parts : AssemblyView
  pub renewal : Option Renewal
  pub echo : Bool

abbrev pub new_receiving : Option Renewal → Option ℕ → ReceivingView
new_receiving renewal limit = record {
  life = Attaching;
  credit = new_receiver 0 renewal;
  parts = new_assembly limit;
  renewal = renewal;
  echo = false;
}

-- The peer's Attach came: while this end is attaching, the link is attached or refused, and its count begins.
abbrev pub with_count : Life → ℕ → ReceivingView → ReceivingView
with_count Attaching initial v = record v { credit = new_receiver initial v.renewal }
with_count life initial v = v

abbrev pub AttachStep : ReceivingView → Bool → ℕ → ReceivingView → Type 0
AttachStep v accepts initial w = w ≡ record (with_count v.life initial v) { life = having_attached accepts v.life }

-- ---- credit

-- the credit goes from one view to the other, with this to say in a flow
abbrev pub SaysOf : (ReceiverView → Grant → ReceiverView → Type 0) → ReceivingView → Option Grant → ReceivingView → Type 0
SaysOf Step v (Some told) w = Step v.credit told w.credit × (w ≡ record v { credit = w.credit })
SaysOf Step v None w = ⊥

-- of a link that is attached; else nothing is said, and nothing changes
abbrev pub IfAttached : Life → (ReceiverView → Grant → ReceiverView → Type 0) → ReceivingView → Option Grant → ReceivingView → Type 0
IfAttached Attached Step v result w = SaysOf Step v result w
IfAttached life Step v result w = (result ≡ None) × (w ≡ v)

abbrev pub GrantStep : ReceivingView → ℕ → Option Grant → ReceivingView → Type 0
GrantStep v credit result w = IfAttached v.life (λ c told d. receiver.GrantStep c credit told d) v result w

abbrev pub DrainStep : ReceivingView → Option Grant → ReceivingView → Type 0
DrainStep v result w = IfAttached v.life (λ c told d. receiver.DrainStep c told d) v result w

abbrev pub RenewsIfAttached : Life → ReceivingView → Option Grant → ReceivingView → Type 0
RenewsIfAttached Attached v result w = receiver.RenewStep v.credit result w.credit × (w ≡ record v { credit = w.credit })
RenewsIfAttached life v result w = (result ≡ None) × (w ≡ v)

abbrev pub RenewStep : ReceivingView → Option Grant → ReceivingView → Type 0
RenewStep v result w = RenewsIfAttached v.life v result w

-- a flow would renew the credit
abbrev pub due_if_attached : Life → ReceivingView → Bool
due_if_attached Attached v = is_some (wanted v.credit)
due_if_attached life v = false

abbrev pub is_renewal_due : ReceivingView → Bool
is_renewal_due v = due_if_attached v.life v

-- A flow of the sender: so many of the credit were used up; or it says a count past all that was granted, and this side detaches.
abbrev pub HeardOf : Option ℕ → ReceivingView → Option ℕ → Bool → Result ℕ LinkFault → ReceivingView → Type 0
HeardOf (Some used) v count echo result w =
    (result ≡ Ok used) × (w ≡ record v { credit = taken_off used v.credit; echo = v.echo || echo })
HeardOf None v count echo result w =
    (result ≡ Err fault.CountPastLimit) × (w ≡ record v { life = Detaching; credit = taken_off 0 v.credit })

abbrev pub HeardIfAttached : Life → ReceivingView → Option ℕ → Bool → Result ℕ LinkFault → ReceivingView → Type 0
HeardIfAttached Attached v count echo result w = HeardOf (used_up v.credit count) v count echo result w
HeardIfAttached life v count echo result w = (result ≡ Ok 0) × (w ≡ v)

abbrev pub HeardStep : ReceivingView → Option ℕ → Bool → Result ℕ LinkFault → ReceivingView → Type 0
HeardStep v count echo result w = HeardIfAttached v.life v count echo result w

-- the flow that the sender waits for
abbrev pub AnsweredIf : Bool → ReceivingView → Option Grant → ReceivingView → Type 0
AnsweredIf true v result w = (result ≡ Some (told_by v.credit)) × (w ≡ record v { echo = false })
AnsweredIf false v result w = (result ≡ None) × (w ≡ v)

abbrev pub AnswersIfAttached : Life → ReceivingView → Option Grant → ReceivingView → Type 0
AnswersIfAttached Attached v result w = AnsweredIf v.echo v result w
AnswersIfAttached life v result w = (result ≡ None) × (w ≡ v)

abbrev pub AnswerStep : ReceivingView → Option Grant → ReceivingView → Type 0
AnswerStep v result w = AnswersIfAttached v.life v result w

-- ---- a transfer

-- a part would begin a delivery, and there is no credit
abbrev pub is_over : ReceivingView → Bool
is_over v = is_none v.parts.current && nat_eq v.credit.credit 0

-- a part that begins a delivery takes one of the credit
abbrev pub counted : Result Part PartError → ReceiverView → ReceiverView
counted (Ok p) c = if p.is_first then taken_off 1 c else c
counted (Err e) c = c

abbrev pub or_fault : Result Part PartError → Result Part LinkFault
or_fault (Ok p) = Ok p
or_fault (Err e) = Err (fault.Part e)

-- what a part is, by the parts before it
abbrev pub CountsIf : Bool → ReceivingView → PartHead → Result Part LinkFault → ReceivingView → Type 0
CountsIf true v head result w = (result ≡ Err fault.OverCredit) × (w ≡ v)
CountsIf false v head result w =
    (told : Result Part PartError) × PartStep v.parts head told w.parts × (result ≡ or_fault told)
    × (w ≡ record v { credit = counted told v.credit; parts = w.parts })

abbrev pub CountsStep : ReceivingView → PartHead → Result Part LinkFault → ReceivingView → Type 0
CountsStep v head result w = CountsIf (is_over v) v head result w

-- It is told what the part is; or this side detaches, since the sender may not do this.
abbrev pub TakenAs : ReceivingView → PartHead → Result Part TransferError → ReceivingView → Type 0
TakenAs v head (Ok p) w = CountsStep v head (Ok p) w
TakenAs v head (Err (transfer.Fault f)) w = (m : ReceivingView) × CountsStep v head (Err f) m × (w ≡ record m { life = Detaching })
TakenAs v head (Err transfer.NotAttached) w = ⊥

abbrev pub TakesIfAttached : Life → ReceivingView → PartHead → Result Part TransferError → ReceivingView → Type 0
TakesIfAttached Attached v head result w = TakenAs v head result w
TakesIfAttached life v head result w = (result ≡ Err transfer.NotAttached) × (w ≡ v)

abbrev pub TakesStep : ReceivingView → PartHead → Result Part TransferError → ReceivingView → Type 0
TakesStep v head result w = TakesIfAttached v.life v head result w

-- ---- a transfer in two halves

abbrev pub told_by_parts : Result Part PartError → Result Part TransferError
told_by_parts (Ok p) = Ok p
told_by_parts (Err e) = Err (transfer.Fault (fault.Part e))

abbrev pub told_unless : Bool → ReceivingView → PartHead → Result Part TransferError
told_unless true v head = Err (transfer.Fault fault.OverCredit)
told_unless false v head = told_by_parts (prepared v.parts head)

abbrev pub told_if_attached : Life → ReceivingView → PartHead → Result Part TransferError
told_if_attached Attached v head = told_unless (is_over v) v head
told_if_attached life v head = Err transfer.NotAttached

-- what is answered to a transfer, before anything has changed
abbrev pub prepared_part : ReceivingView → PartHead → Result Part TransferError
prepared_part v head = told_if_attached v.life v head

-- a delivery takes one of the credit, if there is any
abbrev pub begun : ReceiverView → ReceiverView
begun c = if nat_eq c.credit 0 then c else taken_off 1 c

-- the part that was prepared for this head counts
abbrev pub with_taken : ReceivingView → PartHead → Part → ReceivingView
with_taken v head p = record v { credit = if p.is_first then begun v.credit else v.credit; parts = finished v.parts head p }

-- a transfer was refused: this side detaches for a fault
abbrev pub refusing : TransferError → ReceivingView → ReceivingView
refusing (transfer.Fault f) v = record v { life = Detaching }
refusing transfer.NotAttached v = v

-- the condition of the Detach that ends a link for a fault
abbrev pub condition_of : LinkFault → List ℕ
condition_of fault.OverCredit = codes "amqp:link:transfer-limit-exceeded"
condition_of (fault.Part part.TooLarge) = codes "amqp:link:message-size-exceeded"
condition_of f = codes "amqp:invalid-field"

-- ---- the end

abbrev pub DetachStep : ReceivingView → ReceivingView → Type 0
DetachStep v w = w ≡ record v { life = having_detached v.life }

abbrev pub EndsStep : ReceivingView → LinkEnd → ReceivingView → Type 0
EndsStep v result w = (result ≡ end_of v.life) × (w ≡ record v { life = Detached })
