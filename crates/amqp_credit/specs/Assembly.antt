-- Part: other calls.
-- The parts of the deliveries of one link, and what each transfer is to its delivery (AMQP 1.0 part 2, sections 2.6.14
-- and 2.7.5).
use Rattle.std.specs.Prelude.{ℕ, zero, suc, ◌+◌, ◌-◌, ◌^◌, ◌≡◌, ◌||◌, min, not, nat_le, nat_eq, Bool, true, false}
use Rattle.std.specs.Prelude.{Option, Some, None, Result, Ok, Err, if◌then◌else◌}
use Rattle.amqp_credit.specs.declared.part.PartTag.{PartTag}
use Rattle.amqp_credit.specs.declared.part.PartTag.TheVariants.{Absent, New}
use Rattle.amqp_credit.specs.declared.part.PartHead.{PartHead}
use Rattle.amqp_credit.specs.declared.part.PartEnd.{PartEnd}
use Rattle.amqp_credit.specs.declared.part.PartEnd.TheVariants.{More, Last, Aborted}
use Rattle.amqp_credit.specs.declared.part.Part.{Part}
use Rattle.amqp_credit.specs.declared.part.PartError.{PartError}
use Rattle.amqp_credit.specs.declared.part.PartError.TheVariants.{NoneUnderWay, NoNumber, NoTag, OtherDelivery}
use Rattle.amqp_credit.specs.declared.part.PartError.TheVariants.{OtherFormat, TooLarge}
use Rattle.amqp_credit.specs.declared.assembly.Delivery.{Delivery}

-- the limit for the size of a delivery, and the delivery that is under way
pub record AssemblyView : Type 0 where
  pub limit : Option ℕ
  pub current : Option Delivery

abbrev pub new_assembly : Option ℕ → AssemblyView
new_assembly limit = record { limit = limit; current = None }

-- the delivery that a first part begins: it has to have a number and a tag
abbrev pub begun : Option ℕ → PartTag → Option ℕ → Result Delivery PartError
begun None Absent format = Err NoneUnderWay
begun None tag format = Err NoNumber
begun (Some number) Absent format = Err NoTag
begun (Some number) tag format = Ok (record { number = number; format = format; settled = false; size = 0 })

-- a part gives another number than the first one; it may leave it out
abbrev pub differs : Option ℕ → Option ℕ → Bool
differs first None = false
differs None (Some given) = true
differs (Some first) (Some given) = not (nat_eq first given)

abbrev pub is_new : PartTag → Bool
is_new New = true
is_new tag = false

-- a part goes on with the delivery that is under way: where it has a number, tag and format, it has to be the same
abbrev pub goes_on : Delivery → PartHead → Result Delivery PartError
goes_on d head =
    if is_new head.tag || differs (Some d.number) head.number then Err OtherDelivery
    else (if differs d.format head.format then Err OtherFormat else Ok d)

-- the delivery that a part belongs to, before it counts
abbrev pub belongs : Option Delivery → PartHead → Result Delivery PartError
belongs None head = begun head.number head.tag head.format
belongs (Some d) head = goes_on d head

abbrev pub says_settled : Option Bool → Bool
says_settled None = false
says_settled (Some settled) = settled

-- a part settles its delivery, or aborts it
abbrev pub settles : PartHead → Bool
settles head = head.aborted || says_settled head.settled

-- the bytes of a part; those of one that aborts its delivery are ignored
abbrev pub bytes_of : PartHead → ℕ
bytes_of head = if head.aborted then 0 else head.size

-- A delivery with one part more. It is settled where a part says so; what is aborted is settled too. Its size is that
-- of its parts, but 2^64 - 1 at most.
abbrev pub with_part : Delivery → PartHead → Delivery
with_part d head = record d {
  settled = d.settled || settles head;
  size = min (d.size + bytes_of head) (2 ^ 64 - 1);
}

-- whether a delivery ends with a part: where one aborts it, more is ignored
abbrev pub end_of : Bool → Bool → PartEnd
end_of more true = Aborted
end_of true false = More
end_of false false = Last

-- a delivery is within the limit; 0 is none (section 2.7.3); and one that is aborted always is
abbrev pub fits : Option ℕ → ℕ → PartEnd → Bool
fits limit size Aborted = true
fits None size end = true
fits (Some zero) size end = true
fits (Some (suc n)) size end = nat_le size (suc n)

-- what a part is to this delivery, which has it already
abbrev pub part_of : Delivery → Bool → PartEnd → Part
part_of d is_first end = record {
  number = d.number;
  is_first = is_first;
  end = end;
  settled = d.settled;
  size = d.size;
}

abbrev pub is_none : Option Delivery → Bool
is_none None = true
is_none (Some d) = false

-- the delivery that is under way after a part
abbrev pub left_under_way : PartEnd → Delivery → Option Delivery
left_under_way More d = Some d
left_under_way Last d = None
left_under_way Aborted d = None

-- a part that belongs to this delivery, which has it already: it is refused where that is too large
abbrev pub TakenStep : AssemblyView → Delivery → PartEnd → Result Part PartError → AssemblyView → Type 0
TakenStep v d end result w =
    (result ≡ (if fits v.limit d.size end then Ok (part_of d (is_none v.current) end) else Err TooLarge))
    × (w ≡ (if fits v.limit d.size end then record v { current = left_under_way end d } else v))

abbrev pub TriedStep :
    AssemblyView → PartHead → Result Delivery PartError → Result Part PartError → AssemblyView → Type 0
TriedStep v head (Err error) result w = (result ≡ Err error) × (w ≡ v)
TriedStep v head (Ok d) result w = TakenStep v (with_part d head) (end_of head.more head.aborted) result w

abbrev pub PartStep : AssemblyView → PartHead → Result Part PartError → AssemblyView → Type 0
PartStep v head result w = TriedStep v head (belongs v.current head) result w

-- the number of the delivery that is under way
abbrev pub number_in : Option Delivery → Option ℕ
number_in None = None
number_in (Some d) = Some d.number

-- ---- a part in two halves

-- what a part is to this delivery, which has it already, unless that is too large
abbrev pub told_of : AssemblyView → PartEnd → Delivery → Result Part PartError
told_of v end d = if fits v.limit d.size end then Ok (part_of d (is_none v.current) end) else Err TooLarge

abbrev pub told_or : AssemblyView → PartHead → Result Delivery PartError → Result Part PartError
told_or v head (Err error) = Err error
told_or v head (Ok d) = told_of v (end_of head.more head.aborted) (with_part d head)

-- what is answered to a part, before it is taken
abbrev pub prepared : AssemblyView → PartHead → Result Part PartError
prepared v head = told_or v head (belongs v.current head)

-- the message format of the delivery that a part belongs to: that of its first part
abbrev pub format_of : Option Delivery → PartHead → Option ℕ
format_of None head = head.format
format_of (Some d) head = d.format

-- the delivery that is under way once this part of it is taken
abbrev pub left_by : PartEnd → Option ℕ → Part → Option Delivery
left_by More format p = Some (record { number = p.number; format = format; settled = p.settled; size = p.size })
left_by Last format p = None
left_by Aborted format p = None

-- the part that was prepared for this head is taken
abbrev pub finished : AssemblyView → PartHead → Part → AssemblyView
finished v head p = record v { current = left_by p.end (format_of v.current head) p }

-- A part that is prepared and then finished is accepted.
abbrev pub HalvesTake : Type 0
HalvesTake = (v : AssemblyView) (head : PartHead) (p : Part) → Ok p ≡ prepared v head → PartStep v head (Ok p) (finished v head p)

-- One that is refused as it is prepared is refused, and changes nothing.
abbrev pub HalvesRefuse : Type 0
HalvesRefuse = (v : AssemblyView) (head : PartHead) (error : PartError) → Err error ≡ prepared v head → PartStep v head (Err error) v
