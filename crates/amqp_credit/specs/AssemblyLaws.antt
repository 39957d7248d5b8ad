-- Part: other calls.
-- What holds of every history of the parts of one link (AMQP 1.0 part 2, sections 2.6.14 and 2.7.5).
use Rattle.std.specs.Prelude.{ℕ, zero, suc, ◌-◌, ◌^◌, ◌<◌, ◌≤◌, ◌≡◌, ◌⊎◌, ⊤, min, Bool, true, false}
use Rattle.std.specs.Prelude.{List, [], ◌∷◌, ◌++◌, Option, Some, None, Ok, Err}
use Rattle.amqp_credit.specs.declared.part.PartTag.{PartTag}
use Rattle.amqp_credit.specs.declared.part.PartTag.TheVariants.{Absent, New}
use Rattle.amqp_credit.specs.declared.part.PartHead.{PartHead}
use Rattle.amqp_credit.specs.declared.part.PartEnd.TheVariants.{More, Last, Aborted}
use Rattle.amqp_credit.specs.declared.part.Part.{Part}
use Rattle.amqp_credit.specs.declared.part.PartError.{PartError}
use Rattle.amqp_credit.specs.declared.part.PartError.TheVariants.{NoneUnderWay, NoNumber, NoTag, OtherDelivery}
use Rattle.amqp_credit.specs.declared.part.PartError.TheVariants.{OtherFormat, TooLarge}
use Rattle.amqp_credit.specs.Assembly.{end_of, is_new}
use Rattle.amqp_credit.specs.AssemblyHistory.{AssemblyCall, parts_by, total, is_settled_by, has_accepted, Comes}
use Rattle.amqp_credit.specs.AssemblyHistory.{AsksNumber}

-- of each part of a history that is accepted: those before it of the same delivery, and what is answered
abbrev pub EachPart : List AssemblyCall → (List PartHead → PartHead → Part → Type 0) → Type 0
EachPart H P = (before after : List AssemblyCall) (head : PartHead) (part : Part) →
    H ≡ before ++ Comes head (Ok part) ∷ after → P (parts_by [] before) head part

-- of each part of a history that is refused: the parts of the delivery that is under way, and why it is refused
abbrev pub EachRefused : List AssemblyCall → (List PartHead → PartHead → PartError → Type 0) → Type 0
EachRefused H P = (before after : List AssemblyCall) (head : PartHead) (error : PartError) →
    H ≡ before ++ Comes head (Err error) ∷ after → P (parts_by [] before) head error

abbrev pub is_empty : List PartHead → Bool
is_empty [] = true
is_empty (head ∷ heads) = false

-- a part gives no value, or the one that the first part gave
abbrev pub MayGive : Option ℕ → Option ℕ → Type 0
MayGive first None = ⊤
MayGive first (Some given) = first ≡ Some given

-- a part that goes on with a delivery of this number and format
abbrev pub GoesOn : Option ℕ → Option ℕ → PartHead → Type 0
GoesOn number format head = MayGive number head.number × MayGive format head.format × (is_new head.tag ≡ false)

abbrev pub AllGoOn : Option ℕ → Option ℕ → List PartHead → Type 0
AllGoOn number format [] = ⊤
AllGoOn number format (head ∷ heads) = GoesOn number format head × AllGoOn number format heads

abbrev pub is_absent : PartTag → Bool
is_absent Absent = true
is_absent tag = false

-- The parts of one delivery of this number: the first one gives it, and a tag; each other one gives the same number,
-- tag and format, where it gives any.
abbrev pub AreOf : ℕ → List PartHead → Type 0
AreOf number [] = ⊥
AreOf number (head ∷ heads) =
    (head.number ≡ Some number) × (is_absent head.tag ≡ false) × AllGoOn (Some number) head.format heads

-- Each part that is accepted belongs to one delivery: that under way, with all of its parts, or else one that it
-- begins.
abbrev pub BelongToOne : List AssemblyCall → Type 0
BelongToOne H = EachPart H (λ parts head part.
    (part.is_first ≡ is_empty parts) × AreOf part.number (parts ++ head ∷ [])
    × (part.end ≡ end_of head.more head.aborted))

-- The size that is told is that of all parts of the delivery so far, and it is settled where one of them says so or
-- aborts it.
abbrev pub SizesAddUp : List AssemblyCall → Type 0
SizesAddUp H = EachPart H (λ parts head part.
    (part.size ≡ min (total (parts ++ head ∷ [])) (2 ^ 64 - 1))
    × (part.settled ≡ is_settled_by (parts ++ head ∷ [])))

-- a size is within a limit; 0 is none
abbrev pub IsWithin : Option ℕ → ℕ → Type 0
IsWithin None size = ⊤
IsWithin (Some zero) size = ⊤
IsWithin (Some (suc n)) size = size ≤ suc n

-- the size that is told of a delivery that is not aborted is within the limit
abbrev pub NoneTooLarge : Option ℕ → List AssemblyCall → Type 0
NoneTooLarge limit H = EachPart H (λ parts head part. head.aborted ≡ false → IsWithin limit part.size)

-- of two parts of which the second one is the next that is accepted: it goes on with the same delivery, or else the
-- first one has ended it
abbrev pub Follows : Part → Part → Type 0
Follows part next =
    ((part.end ≡ More) × (next.is_first ≡ false) × (next.number ≡ part.number))
    ⊎ (((part.end ≡ Last) ⊎ (part.end ≡ Aborted)) × (next.is_first ≡ true))

-- Between the first part of a delivery and its end only its own parts are accepted, and after its end none of it.
abbrev pub InARow : List AssemblyCall → Type 0
InARow H = (before between after : List AssemblyCall) (head following : PartHead) (part next : Part) →
    H ≡ before ++ Comes head (Ok part) ∷ (between ++ Comes following (Ok next) ∷ after) →
    has_accepted between ≡ false → Follows part next

-- the delivery of these parts has another number than this one, or another format
abbrev pub NumberDiffers : List PartHead → Option ℕ → Type 0
NumberDiffers [] given = ⊥
NumberDiffers (head ∷ heads) given = MayGive head.number given → ⊥

abbrev pub FormatDiffers : List PartHead → Option ℕ → Type 0
FormatDiffers [] given = ⊥
FormatDiffers (head ∷ heads) given = MayGive head.format given → ⊥

-- a size is over a limit
abbrev pub IsOver : Option ℕ → ℕ → Type 0
IsOver None size = ⊥
IsOver (Some zero) size = ⊥
IsOver (Some (suc n)) size = suc n < size

-- why a part is refused, where these parts of a delivery are under way
abbrev pub Reason : Option ℕ → List PartHead → PartHead → PartError → Type 0
Reason limit parts head NoneUnderWay = (parts ≡ []) × (head.number ≡ None) × (head.tag ≡ Absent)
Reason limit parts head NoNumber = (parts ≡ []) × (head.number ≡ None) × (is_absent head.tag ≡ false)
Reason limit parts head NoTag = (parts ≡ []) × (head.number ≡ None → ⊥) × (head.tag ≡ Absent)
Reason limit parts head OtherDelivery =
    (is_empty parts ≡ false) × ((head.tag ≡ New) ⊎ NumberDiffers parts head.number)
Reason limit parts head OtherFormat = FormatDiffers parts head.format
Reason limit parts head TooLarge = (head.aborted ≡ false) × IsOver limit (total (parts ++ head ∷ []))

-- Each part that is refused has the reason that is told.
abbrev pub RefusedForReason : Option ℕ → List AssemblyCall → Type 0
RefusedForReason limit H = EachRefused H (λ parts head error. Reason limit parts head error)

-- the number that these parts give
abbrev pub number_of : List PartHead → Option ℕ
number_of [] = None
number_of (head ∷ heads) = head.number

-- The number that is told to be under way is that of the parts that are.
abbrev pub UnderWayIsExact : List AssemblyCall → Type 0
UnderWayIsExact H = (before after : List AssemblyCall) (answer : Option ℕ) →
    H ≡ before ++ AsksNumber answer ∷ after → answer ≡ number_of (parts_by [] before)
