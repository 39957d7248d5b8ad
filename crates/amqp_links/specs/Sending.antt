-- Part: other calls; inner.
-- The sending end of a link, and what each call makes of it (AMQP 1.0 part 2, sections 2.6.3, 2.6.7 and 2.6.14).
use Rattle.std.specs.Prelude.{ℕ, zero, suc, ◌+◌, ◌-◌, ◌^◌, ◌<◌, ◌≡◌, ◌||◌, ◌&&◌, min, nat_lt, nat_eq, Bool, true, false}
use Rattle.std.specs.Prelude.{Option, Some, None, Result, Ok, Err, if◌then◌else◌}
use Rattle.amqp_credit.specs.Sender.{SenderView, new_sender, flowed, taken_from, drainable, is_drain_wanted}
use Rattle.amqp_credit.specs.declared.part.PartEnd.{PartEnd}
use Rattle.amqp_credit.specs.declared.part.PartEnd.TheVariants.{More, Last, Aborted}
use Rattle.amqp_links.specs.declared.life.Life.{Life}
use Rattle.amqp_links.specs.declared.life.Life.TheVariants.{Attaching, Attached, Detached}
use Rattle.amqp_links.specs.declared.life.LinkEnd.{LinkEnd}
use Rattle.amqp_links.specs.declared.sending.CreditFlow.{CreditFlow}
use Rattle.amqp_links.specs.declared.sending.SenderFlow.{SenderFlow}
use Rattle.amqp_links.specs.declared.sending.SendError.{SendError}
use Rattle.amqp_links.specs.declared.sending.Sendable.{Sendable}
use Rattle.amqp_links.specs.declared.sending.SendError.TheVariants.{NotAttached, TooLarge, NoCredit, NoneUnderWay}
use Rattle.amqp_links.specs.Life.{having_attached, having_detached, end_of}

-- What a sending end knows: where it stands, its credit, the receiver's max-message-size, how many bytes the delivery that is under way has, what
-- the receiver said last of draining, and whether it waits for a flow.
pub record SendingView : Type 0 where
  pub life : Life
  pub credit : SenderView
  pub limit : Option ℕ
  pub under_way : Option ℕ
  pub drain : Bool
  pub echo : Bool

abbrev pub new_sending : ℕ → SendingView
new_sending initial = record {
  life = Attaching;
  credit = new_sender initial;
  limit = None;
  under_way = None;
  drain = false;
  echo = false;
}

-- The peer's Attach came: while this end is attaching, the link is attached or refused, with its limit.
abbrev pub with_limit : Life → Option ℕ → SendingView → SendingView
with_limit Attaching limit v = record v { limit = limit }
with_limit life limit v = v

abbrev pub AttachStep : SendingView → Bool → Option ℕ → SendingView → Type 0
AttachStep v accepts limit w = w ≡ record (with_limit v.life limit v) { life = having_attached accepts v.life }

-- what the receiver says of draining stands in a flow with a credit
abbrev pub drain_by : Option ℕ → Bool → Bool → Bool
drain_by None said before = before
drain_by (Some credit) said before = said

-- a flow came, for a link that is attached; else it changes nothing
abbrev pub flowing : Life → CreditFlow → SendingView → SendingView
flowing Attached f v = record v {
  credit = flowed f.delivery_count f.link_credit f.drain v.credit;
  drain = drain_by f.link_credit f.drain v.drain;
  echo = v.echo || f.echo;
}
flowing life f v = v

abbrev pub FlowsStep : SendingView → CreditFlow → SendingView → Type 0
FlowsStep v f w = w ≡ flowing v.life f v

-- ---- a transfer

abbrev pub so_far : Option ℕ → ℕ
so_far None = 0
so_far (Some size) = size

-- how many bytes the delivery has with a transfer; those of one that aborts it do not count
abbrev pub size_with : Option ℕ → ℕ → PartEnd → ℕ
size_with under_way size Aborted = so_far under_way
size_with under_way size end = min (so_far under_way + size) (2 ^ 64 - 1)

-- it has more than the receiver takes; 0 is no limit (section 2.7.3); and one that is aborted never has
abbrev pub is_too_large : Option ℕ → ℕ → PartEnd → Bool
is_too_large limit size Aborted = false
is_too_large None size end = false
is_too_large (Some zero) size end = false
is_too_large (Some (suc n)) size end = nat_lt (suc n) size

-- what is under way after a transfer
abbrev pub left_under_way : PartEnd → ℕ → Option ℕ
left_under_way More size = Some size
left_under_way Last size = None
left_under_way Aborted size = None

-- A delivery is begun where there is credit, of which it takes one. None is begun by what aborts one.
abbrev pub BeginsStep : SendingView → PartEnd → Result (Unit {0}) SendError → SendingView → Type 0
BeginsStep v Aborted result w = (result ≡ Err NoneUnderWay) × (w ≡ v)
BeginsStep v end (Ok done) w = (0 < v.credit.credit) × (w ≡ record v { credit = taken_from 1 v.credit })
BeginsStep v end (Err e) w = (e ≡ NoCredit) × (v.credit.credit ≡ 0) × (w ≡ v)

-- the transfer is sent, from this view on, and so many bytes are under way, or none
abbrev pub SentFrom : SendingView → Option ℕ → Result (Unit {0}) SendError → SendingView → Type 0
SentFrom v under_way (Ok done) w = w ≡ record v { under_way = under_way }
SentFrom v under_way (Err e) w = ⊥

-- a transfer that begins a delivery
abbrev pub BegunBy : SendingView → ℕ → PartEnd → Result (Unit {0}) SendError → SendingView → Type 0
BegunBy v whole end (Ok done) w = (m : SendingView) × BeginsStep v end (Ok tt) m × (w ≡ record m { under_way = left_under_way end whole })
BegunBy v whole end (Err e) w = BeginsStep v end (Err e) w

-- a transfer within the receiver's limit
abbrev pub WithinStep : Option ℕ → SendingView → ℕ → PartEnd → Result (Unit {0}) SendError → SendingView → Type 0
WithinStep None v whole end result w = BegunBy v whole end result w
WithinStep (Some size) v whole end result w = SentFrom v (left_under_way end whole) result w

abbrev pub SizedStep : Bool → SendingView → ℕ → PartEnd → Result (Unit {0}) SendError → SendingView → Type 0
SizedStep true v whole end result w = (result ≡ Err TooLarge) × (w ≡ v)
SizedStep false v whole end result w = WithinStep v.under_way v whole end result w

abbrev pub AttachedSend : Life → SendingView → ℕ → PartEnd → Result (Unit {0}) SendError → SendingView → Type 0
AttachedSend Attached v size end result w =
    SizedStep (is_too_large v.limit (size_with v.under_way size end) end) v (size_with v.under_way size end) end result w
AttachedSend life v size end result w = (result ≡ Err NotAttached) × (w ≡ v)

-- a transfer is to be sent: of a link that is attached, within its limit, and where it begins a delivery by credit
abbrev pub SendsStep : SendingView → ℕ → PartEnd → Result (Unit {0}) SendError → SendingView → Type 0
SendsStep v size end result w = AttachedSend v.life v size end result w

-- ---- a transfer in two halves

-- a delivery may be begun: there is credit, and the transfer aborts none
abbrev pub may_begin : SendingView → PartEnd → Result (Unit {0}) SendError
may_begin v Aborted = Err NoneUnderWay
may_begin v More = if nat_eq v.credit.credit 0 then Err NoCredit else Ok tt
may_begin v Last = if nat_eq v.credit.credit 0 then Err NoCredit else Ok tt

abbrev pub sendable_if : Result (Unit {0}) SendError → Option ℕ → Result Sendable SendError
sendable_if (Ok done) under_way = Ok (record { is_first = true; under_way = under_way })
sendable_if (Err error) under_way = Err error

abbrev pub sendable_within : Option ℕ → SendingView → ℕ → PartEnd → Result Sendable SendError
sendable_within None v whole end = sendable_if (may_begin v end) (left_under_way end whole)
sendable_within (Some n) v whole end = Ok (record { is_first = false; under_way = left_under_way end whole })

abbrev pub sendable_sized : Bool → SendingView → ℕ → PartEnd → Result Sendable SendError
sendable_sized true v whole end = Err TooLarge
sendable_sized false v whole end = sendable_within v.under_way v whole end

abbrev pub sendable_at : Life → SendingView → ℕ → PartEnd → Result Sendable SendError
sendable_at Attached v size end = sendable_sized (is_too_large v.limit (size_with v.under_way size end) end) v (size_with v.under_way size end) end
sendable_at life v size end = Err NotAttached

-- what is answered to a transfer, before anything has changed
abbrev pub prepared_send : SendingView → ℕ → PartEnd → Result Sendable SendError
prepared_send v size end = sendable_at v.life v size end

-- a delivery takes one of the credit, if there is any
abbrev pub begun : SenderView → SenderView
begun c = if nat_eq c.credit 0 then c else taken_from 1 c

-- the transfer that was prepared is sent
abbrev pub having_sent : SendingView → Sendable → SendingView
having_sent v s = record v { credit = if s.is_first then begun v.credit else v.credit; under_way = s.under_way }

-- ---- what is answered

abbrev pub is_none : Option ℕ → Bool
is_none None = true
is_none (Some n) = false

-- nothing is left to send, so that credit may be used up
abbrev pub is_ready : ℕ → Option ℕ → Bool
is_ready available under_way = nat_eq available 0 && is_none under_way

-- the receiver asked to drain, and nothing is left to send: the credit is used up
abbrev pub is_drained : ℕ → SendingView → Bool
is_drained available v = is_ready available v.under_way && is_drain_wanted v.credit

abbrev pub drained : Bool → SenderView → SenderView
drained true c = taken_from (drainable c) c
drained false c = c

abbrev pub told_of : ℕ → SendingView → SenderFlow
told_of available w = record {
  delivery_count = w.credit.count;
  link_credit = w.credit.credit;
  available = available;
  drain = w.drain;
}

abbrev pub AnsweredIf : Bool → ℕ → SendingView → Option SenderFlow → SendingView → Type 0
AnsweredIf true available v result w =
    (w ≡ record v { credit = drained (is_drained available v) v.credit; echo = false }) × (result ≡ Some (told_of available w))
AnsweredIf false available v result w = (result ≡ None) × (w ≡ v)

abbrev pub AttachedAnswer : Life → ℕ → SendingView → Option SenderFlow → SendingView → Type 0
AttachedAnswer Attached available v result w = AnsweredIf (is_drained available v || v.echo) available v result w
AttachedAnswer life available v result w = (result ≡ None) × (w ≡ v)

abbrev pub AnswerStep : SendingView → ℕ → Option SenderFlow → SendingView → Type 0
AnswerStep v available result w = AttachedAnswer v.life available v result w

-- ---- the end

abbrev pub DetachStep : SendingView → SendingView → Type 0
DetachStep v w = w ≡ record v { life = having_detached v.life }

abbrev pub EndsStep : SendingView → LinkEnd → SendingView → Type 0
EndsStep v result w = (result ≡ end_of v.life) × (w ≡ record v { life = Detached })
