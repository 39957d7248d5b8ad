-- A part that is prepared and then finished is taken; one that is refused changes nothing.
use Rattle.std.proofs.Common.{◌≡◌, ◌||◌, ℕ, Bool, true, false, Option, Some, None, Result, Ok, Err, if◌then◌else◌, refl, sym, ap, ◌∙◌, subst}
use Rattle.amqp_credit.specs.declared.part.PartTag.{PartTag}
use Rattle.amqp_credit.specs.declared.part.PartTag.TheVariants.{Absent, Same, New}
use Rattle.amqp_credit.specs.declared.part.PartHead.{PartHead}
use Rattle.amqp_credit.specs.declared.part.PartEnd.{PartEnd}
use Rattle.amqp_credit.specs.declared.part.PartEnd.TheVariants.{More, Last, Aborted}
use Rattle.amqp_credit.specs.declared.part.Part.{Part}
use Rattle.amqp_credit.specs.declared.part.PartError.{PartError}
use Rattle.amqp_credit.specs.declared.part.PartError.TheVariants.{OtherDelivery, OtherFormat, TooLarge}
use Rattle.amqp_credit.specs.declared.assembly.Delivery.{Delivery}
use Rattle.amqp_credit.specs.Assembly.{AssemblyView, PartStep, TriedStep, begun, belongs, differs, end_of, finished, fits, format_of}
use Rattle.amqp_credit.specs.Assembly.{is_new, is_none}
use Rattle.amqp_credit.specs.Assembly.{left_by, left_under_way, part_of, prepared, told_or, with_part}

abbrev is_done : {A B : Type 0} → Result A B → Type 0
is_done (Ok a) = Unit {0}
is_done (Err b) = ⊥

err≢ok : {A B : Type 0} {a : A} {b : B} → Err b ≡ Ok a → ⊥
err≢ok e = subst is_done (sym e) tt

abbrev or_else : {A B : Type 0} → A → Result A B → A
or_else a (Ok b) = b
or_else a (Err error) = a

-- ---- the message format is that of the first part

begun_format : (n : Option ℕ) (tag : PartTag) (format : Option ℕ) (d : Delivery) → begun n tag format ≡ Ok d → format ≡ d.format
begun_format None Absent format d e = absurd (err≢ok e)
begun_format None Same format d e = absurd (err≢ok e)
begun_format None New format d e = absurd (err≢ok e)
begun_format (Some n) Absent format d e = absurd (err≢ok e)
begun_format (Some n) Same format d e = ap (λ (r : Result Delivery PartError). (or_else d r).format) e
begun_format (Some n) New format d e = ap (λ (r : Result Delivery PartError). (or_else d r).format) e

chosen : (a b : Bool) (x y : PartError) (c d : Delivery) → (if a then Err x else (if b then Err y else Ok c)) ≡ Ok d → c ≡ d
chosen true b x y c d e = absurd (err≢ok e)
chosen false true x y c d e = absurd (err≢ok e)
chosen false false x y c d e = ap (or_else c) e

format_is : (o : Option Delivery) (head : PartHead) (d : Delivery) → belongs o head ≡ Ok d → format_of o head ≡ d.format
format_is None head d e = begun_format head.number head.tag head.format d e
format_is (Some c) head d e = ap (λ (x : Delivery). x.format)
    (chosen (is_new head.tag || differs (Some c.number) head.number) (differs c.format head.format) OtherDelivery OtherFormat c d e)

-- ---- what is under way

same_left : (end : PartEnd) (format : Option ℕ) (first : Bool) (d : Delivery) → format ≡ d.format →
    left_by end format (part_of d first end) ≡ left_under_way end d
same_left More format first d e = ap (λ f. Some (record { number = d.number; format = f; settled = d.settled; size = d.size })) e
same_left Last format first d e = refl
same_left Aborted format first d e = refl

taken : (b : Bool) (v : AssemblyView) (head : PartHead) (end : PartEnd) (d : Delivery) (p : Part) → format_of v.current head ≡ d.format →
    Ok p ≡ (if b then Ok (part_of d (is_none v.current) end) else Err TooLarge) →
    finished v head p ≡ (if b then record v { current = left_under_way end d } else v)
taken true v head end d p format e =
    let is : p ≡ part_of d (is_none v.current) end = ap (or_else p) e in
    ap (λ (x : Part). finished v head x) is ∙ ap (λ o. record v { current = o }) (same_left end (format_of v.current head) (is_none v.current) d format)
taken false v head end d p format e = absurd (err≢ok (sym e))

by : (b : Result Delivery PartError) (v : AssemblyView) (head : PartHead) (p : Part) → belongs v.current head ≡ b → Ok p ≡ told_or v head b →
    TriedStep v head b (Ok p) (finished v head p)
by (Err error) v head p is e = absurd (err≢ok (sym e))
by (Ok d) v head p is e =
    let end = end_of head.more head.aborted in
    (e, taken (fits v.limit (with_part d head).size end) v head end (with_part d head) p (format_is v.current head d is) e)

pub takes : (v : AssemblyView) (head : PartHead) (p : Part) → Ok p ≡ prepared v head → PartStep v head (Ok p) (finished v head p)
takes v head p e = by (belongs v.current head) v head p refl e

pub takes_as : (v w : AssemblyView) (head : PartHead) (p : Part) → Ok p ≡ prepared v head → w ≡ finished v head p → PartStep v head (Ok p) w
takes_as v w head p e is = subst (λ x. PartStep v head (Ok p) x) (sym is) (takes v head p e)

-- ---- what is refused

unchanged : (b : Bool) (v : AssemblyView) (p : Part) (w : AssemblyView) (error : PartError) →
    Err error ≡ (if b then Ok p else Err TooLarge) → v ≡ (if b then w else v)
unchanged true v p w error e = absurd (err≢ok e)
unchanged false v p w error e = refl

not_by : (b : Result Delivery PartError) (v : AssemblyView) (head : PartHead) (error : PartError) → Err error ≡ told_or v head b →
    TriedStep v head b (Err error) v
not_by (Err other) v head error e = (e, refl)
not_by (Ok d) v head error e =
    let end = end_of head.more head.aborted in (
      e,
      unchanged (fits v.limit (with_part d head).size end) v (part_of (with_part d head) (is_none v.current) end)
          (record v { current = left_under_way end (with_part d head) }) error e,
    )

pub refuses : (v : AssemblyView) (head : PartHead) (error : PartError) → Err error ≡ prepared v head → PartStep v head (Err error) v
refuses v head error e = not_by (belongs v.current head) v head error e

-- ---- which is the first

first_if : (b first : Bool) (p q : Part) → q.is_first ≡ first → Ok p ≡ (if b then Ok q else Err TooLarge) → p.is_first ≡ first
first_if true first p q f e = ap (λ (x : Part). x.is_first) (ap (or_else p) e) ∙ f
first_if false first p q f e = absurd (err≢ok (sym e))

first_by : (b : Result Delivery PartError) (v : AssemblyView) (head : PartHead) (p : Part) → Ok p ≡ told_or v head b → p.is_first ≡ is_none v.current
first_by (Err error) v head p e = absurd (err≢ok (sym e))
first_by (Ok d) v head p e =
    let end = end_of head.more head.aborted in
    first_if (fits v.limit (with_part d head).size end) (is_none v.current) p (part_of (with_part d head) (is_none v.current) end) refl e

-- a part is the first one where nothing is under way
pub first_is : (v : AssemblyView) (head : PartHead) (p : Part) → Ok p ≡ prepared v head → p.is_first ≡ is_none v.current
first_is v head p e = first_by (belongs v.current head) v head p e
