-- What a history of parts says of the delivery that is under way.
use Rattle.std.proofs.Common.{◌≡◌, ◌+◌, ◌-◌, ◌^◌, ◌<◌, ◌||◌, ℕ, zero, suc, Bool, true, false, List, [], ◌∷◌}
use Rattle.std.proofs.Common.{◌++◌, Option, Some, None, Result, Ok, Err, if◌then◌else◌, refl, sym, ap, ◌∙◌}
use Rattle.std.proofs.Common.{subst, arith, true≢false, min, nat_le, inl, inr}
use Rattle.std.proofs.lemmas.Bool.Decides.{nat_tests}
use Rattle.std.proofs.lemmas.Grind.{common_steps}
use Rattle.amqp_credit.specs.declared.part.PartTag.{PartTag}
use Rattle.amqp_credit.specs.declared.part.PartTag.TheVariants.{Absent, Same, New}
use Rattle.amqp_credit.specs.declared.part.PartHead.{PartHead}
use Rattle.amqp_credit.specs.declared.part.PartEnd.{PartEnd}
use Rattle.amqp_credit.specs.declared.part.PartEnd.TheVariants.{More, Last, Aborted}
use Rattle.amqp_credit.specs.declared.part.Part.{Part}
use Rattle.amqp_credit.specs.declared.part.PartError.{PartError}
use Rattle.amqp_credit.specs.declared.part.PartError.TheVariants.{OtherDelivery}
use Rattle.amqp_credit.specs.declared.part.PartError.TheVariants.{OtherFormat, TooLarge}
use Rattle.amqp_credit.specs.declared.assembly.Delivery.{Delivery}
use Rattle.amqp_credit.specs.Assembly.{AssemblyView, begun, differs, is_new, goes_on, belongs, bytes_of}
use Rattle.amqp_credit.specs.Assembly.{settles, with_part, end_of, fits, part_of, is_none, left_under_way}
use Rattle.amqp_credit.specs.Assembly.{TriedStep, PartStep, number_in}
use Rattle.amqp_credit.specs.AssemblyHistory.{total, is_settled_by}
use Rattle.amqp_credit.specs.AssemblyLaws.{MayGive, GoesOn, AllGoOn, is_absent, AreOf, is_empty, NumberDiffers}
use Rattle.amqp_credit.specs.AssemblyLaws.{FormatDiffers, IsOver, Reason}

-- ---- the delivery that is under way, and its parts

abbrev pub first_format : List PartHead → Option ℕ
first_format [] = None
first_format (head ∷ heads) = head.format

-- this delivery has these parts
pub record Has (d : Delivery) (parts : List PartHead) : Type 0 where
  pub are_of : AreOf d.number parts
  pub format_is : first_format parts ≡ d.format
  pub size_is : d.size ≡ min (total parts) (2 ^ 64 - 1)
  pub settled_is : d.settled ≡ is_settled_by parts

abbrev pub Matches : Option Delivery → List PartHead → Type 0
Matches None parts = parts ≡ []
Matches (Some d) parts = Has d parts

-- ---- one part more

total_more : (parts : List PartHead) (head : PartHead) → total (parts ++ head ∷ []) ≡ total parts + bytes_of head
total_more [] head = omega arith
total_more (p ∷ parts) head = by (bytes_of p) (total parts) (bytes_of head) (total_more parts head)
  where
    by : (a b c : ℕ) {s : ℕ} → s ≡ b + c → a + s ≡ a + b + c
    by a b c e = omega (arith, e)

or_more : (a b c : Bool) → (a || b) || c ≡ (a || (b || c))
or_more true b c = refl
or_more false b c = refl

or_none : (b : Bool) → (b || false) ≡ b
or_none true = refl
or_none false = refl

settled_more : (parts : List PartHead) (head : PartHead) →
    is_settled_by (parts ++ head ∷ []) ≡ (is_settled_by parts || settles head)
settled_more [] head = or_none (settles head)
settled_more (p ∷ parts) head =
    ap (λ b. settles p || b) (settled_more parts head)
    ∙ sym (or_more (settles p) (is_settled_by parts) (settles head))

all_more : (number format : Option ℕ) (parts : List PartHead) (head : PartHead) → AllGoOn number format parts →
    GoesOn number format head → AllGoOn number format (parts ++ head ∷ [])
all_more number format [] head a g = (g, tt)
all_more number format (p ∷ parts) head a g = (a.0, all_more number format parts head a.1 g)

are_more : (number : ℕ) (format : Option ℕ) (parts : List PartHead) (head : PartHead) → AreOf number parts →
    first_format parts ≡ format → GoesOn (Some number) format head → AreOf number (parts ++ head ∷ [])
are_more number format [] head a e g = absurd a
are_more number format (p ∷ parts) head a e g =
    (a.0, a.1, all_more (Some number) p.format parts head a.2 (subst (λ f. GoesOn (Some number) f head) (sym e) g))

first_more : (parts : List PartHead) (head : PartHead) (number : ℕ) → AreOf number parts →
    first_format (parts ++ head ∷ []) ≡ first_format parts
first_more [] head number a = absurd a
first_more (p ∷ parts) head number a = refl

size_more : (size total bytes : ℕ) → size ≡ min total (2 ^ 64 - 1) →
    min (size + bytes) (2 ^ 64 - 1) ≡ min (total + bytes) (2 ^ 64 - 1)
size_more size total bytes e = omega (arith, e)

pub has_more : (d : Delivery) (parts : List PartHead) (head : PartHead) → Has d parts →
    GoesOn (Some d.number) d.format head → Has (with_part d head) (parts ++ head ∷ [])
has_more d parts head h g = record {
  are_of = are_more d.number d.format parts head h.are_of h.format_is g;
  format_is = first_more parts head d.number h.are_of ∙ h.format_is;
  size_is = size_more d.size (total parts) (bytes_of head) h.size_is
      ∙ ap (λ n. min n (2 ^ 64 - 1)) (sym (total_more parts head));
  settled_is = ap (λ b. b || settles head) h.settled_is ∙ sym (settled_more parts head);
}

-- ---- what a part belongs to

may_give : (first given : Option ℕ) → differs first given ≡ false → MayGive first given
may_give first None e = tt
may_give None (Some n) e = absurd (true≢false e)
may_give (Some m) (Some n) e = let same : m ≡ n = grind (arith, nat_tests, common_steps) in ap Some same

gives_other : (first given : Option ℕ) → differs first given ≡ true → MayGive first given → ⊥
gives_other first None e g = true≢false (sym e)
gives_other None (Some n) e g = absurd cc
gives_other (Some m) (Some n) e g = grind (arith, nat_tests, common_steps)

-- ---- a part, and what is answered

-- what is accepted: the delivery has the part now
pub record Accepted (v : AssemblyView) (parts : List PartHead) (head : PartHead) (part : Part)
    (w : AssemblyView) : Type 0 where
  pub delivery : Delivery
  pub has : Has delivery (parts ++ head ∷ [])
  pub is_first : is_none v.current ≡ is_empty parts
  pub number_is : (number : ℕ) → number_in v.current ≡ Some number → delivery.number ≡ number
  pub fits_is : fits v.limit delivery.size (end_of head.more head.aborted) ≡ true
  pub part_is : part ≡ part_of delivery (is_none v.current) (end_of head.more head.aborted)
  pub after_is : w ≡ record v { current = left_under_way (end_of head.more head.aborted) delivery }

abbrev pub Outcome : AssemblyView → List PartHead → PartHead → Result Part PartError → AssemblyView → Type 0
Outcome v parts head (Ok part) w = Accepted v parts head part w
Outcome v parts head (Err error) w = Reason v.limit parts head error × (w ≡ v)

-- the delivery that a part belongs to, and that it counts
pub record Belongs (v : AssemblyView) (parts : List PartHead) (head : PartHead) (d : Delivery) : Type 0 where
  pub has : Has (with_part d head) (parts ++ head ∷ [])
  pub is_first : is_none v.current ≡ is_empty parts
  pub number_is : (number : ℕ) → number_in v.current ≡ Some number → d.number ≡ number

some_none : {X : Type 0} {a : X} → Some a ≡ None → ⊥
some_none e = absurd cc

some_is : {X : Type 0} {a b : X} → Some a ≡ Some b → a ≡ b
some_is e = cc

is_ok : {X Y : Type 0} {a b : X} → ◌≡◌ {A = Result X Y} (Ok a) (Ok b) → a ≡ b
is_ok e = cc

is_err : {X Y : Type 0} {a b : Y} → ◌≡◌ {A = Result X Y} (Err a) (Err b) → a ≡ b
is_err e = cc

bare_size : (n : ℕ) → min (0 + n) (2 ^ 64 - 1) ≡ min (n + 0) (2 ^ 64 - 1)
bare_size n = omega arith

bare : (head : PartHead) (number : ℕ) → head.number ≡ Some number → is_absent head.tag ≡ false →
    Has (with_part (record { number = number; format = head.format; settled = false; size = 0 }) head) (head ∷ [])
bare head number n t = record {
  are_of = (n, t, tt);
  format_is = refl;
  size_is = bare_size (bytes_of head);
  settled_is = sym (or_none (settles head));
}

begins : (number : Option ℕ) (tag : PartTag) (head : PartHead) (d : Delivery) → head.number ≡ number →
    head.tag ≡ tag → begun number tag head.format ≡ Ok d → Has (with_part d head) (head ∷ [])
begins None Absent head d n t e = absurd cc
begins None Same head d n t e = absurd cc
begins None New head d n t e = absurd cc
begins (Some number) Absent head d n t e = absurd cc
begins (Some number) Same head d n t e =
    subst (λ x. Has (with_part x head) (head ∷ [])) (is_ok e) (bare head number n (ap is_absent t))
begins (Some number) New head d n t e =
    subst (λ x. Has (with_part x head) (head ∷ [])) (is_ok e) (bare head number n (ap is_absent t))

begins_not : (limit : Option ℕ) (number : Option ℕ) (tag : PartTag) (head : PartHead) (error : PartError) →
    head.number ≡ number → head.tag ≡ tag → begun number tag head.format ≡ Err error → Reason limit [] head error
begins_not limit None Absent head error n t e = subst (Reason limit [] head) (is_err e) (refl, n, t)
begins_not limit None Same head error n t e = subst (Reason limit [] head) (is_err e) (refl, n, ap is_absent t)
begins_not limit None New head error n t e = subst (Reason limit [] head) (is_err e) (refl, n, ap is_absent t)
begins_not limit (Some number) Absent head error n t e =
    subst (Reason limit [] head) (is_err e) (refl, λ none. absurd (some_none (sym n ∙ none)), t)
begins_not limit (Some number) Same head error n t e = absurd cc
begins_not limit (Some number) New head error n t e = absurd cc

goes_with : (d : Delivery) (head : PartHead) (e : Delivery) → goes_on d head ≡ Ok e →
    (e ≡ d) × GoesOn (Some d.number) d.format head
goes_with d head e h = by (is_new head.tag) (differs (Some d.number) head.number) (differs d.format head.format)
    refl refl refl h
  where
    by : (a b c : Bool) → is_new head.tag ≡ a → differs (Some d.number) head.number ≡ b →
        differs d.format head.format ≡ c →
        (if a || b then Err OtherDelivery else (if c then Err OtherFormat else Ok d)) ≡ Ok e →
        (e ≡ d) × GoesOn (Some d.number) d.format head
    by true b c p q r h = absurd cc
    by false true c p q r h = absurd cc
    by false false true p q r h = absurd cc
    by false false false p q r h =
        (sym (is_ok h), (may_give (Some d.number) head.number q, may_give d.format head.format r, p))

has_some : (number : ℕ) (parts : List PartHead) → AreOf number parts → is_empty parts ≡ false
has_some number [] a = absurd a
has_some number (p ∷ parts) a = refl

number_differs : (number : ℕ) (parts : List PartHead) (given : Option ℕ) → AreOf number parts →
    differs (Some number) given ≡ true → NumberDiffers parts given
number_differs number [] given a e = absurd a
number_differs number (p ∷ parts) given a e =
    λ g. gives_other (Some number) given e (subst (λ x. MayGive x given) a.0 g)

format_differs : (number : ℕ) (format : Option ℕ) (parts : List PartHead) (given : Option ℕ) → AreOf number parts →
    first_format parts ≡ format → differs format given ≡ true → FormatDiffers parts given
format_differs number format [] given a f e = absurd a
format_differs number format (p ∷ parts) given a f e =
    λ g. gives_other format given e (subst (λ x. MayGive x given) f g)

new_tag : (tag : PartTag) → is_new tag ≡ true → tag ≡ New
new_tag Absent e = absurd cc
new_tag Same e = absurd cc
new_tag New e = refl

goes_not : (limit : Option ℕ) (d : Delivery) (parts : List PartHead) (head : PartHead) (error : PartError) →
    Has d parts → goes_on d head ≡ Err error → Reason limit parts head error
goes_not limit d parts head error has h =
    by (is_new head.tag) (differs (Some d.number) head.number) (differs d.format head.format) refl refl refl h
  where
    by : (a b c : Bool) → is_new head.tag ≡ a → differs (Some d.number) head.number ≡ b →
        differs d.format head.format ≡ c →
        (if a || b then Err OtherDelivery else (if c then Err OtherFormat else Ok d)) ≡ Err error →
        Reason limit parts head error
    by true b c p q r h =
        subst (Reason limit parts head) (is_err h) (has_some d.number parts has.are_of, inl (new_tag head.tag p))
    by false true c p q r h =
        subst (Reason limit parts head) (is_err h)
        (has_some d.number parts has.are_of, inr (number_differs d.number parts head.number has.are_of q))
    by false false true p q r h =
        subst (Reason limit parts head) (is_err h)
        (format_differs d.number d.format parts head.format has.are_of has.format_is r)
    by false false false p q r h = absurd cc

belongs_to : (v : AssemblyView) (parts : List PartHead) (head : PartHead) (d : Delivery) → Matches v.current parts →
    belongs v.current head ≡ Ok d → Belongs v parts head d
belongs_to v parts head d m e = by v.current refl m e
  where
    by : (current : Option Delivery) → v.current ≡ current → Matches current parts → belongs current head ≡ Ok d →
        Belongs v parts head d
    by None c m e = record {
      has = subst (λ xs. Has (with_part d head) (xs ++ head ∷ [])) (sym m)
          (begins head.number head.tag head d refl refl e);
      is_first = ap is_none c ∙ ap is_empty (sym m);
      number_is = λ number n. absurd (some_none (sym n ∙ ap number_in c));
    }
    by (Some under_way) c m e =
        let g = goes_with under_way head d e in record {
          has = subst (λ x. Has (with_part x head) (parts ++ head ∷ [])) (sym g.0)
              (has_more under_way parts head m g.1);
          is_first = ap is_none c ∙ sym (has_some under_way.number parts m.are_of);
          number_is = λ number n. ap (λ (x : Delivery). x.number) g.0 ∙ some_is (sym (ap number_in c) ∙ n);
        }

belongs_not : (v : AssemblyView) (parts : List PartHead) (head : PartHead) (error : PartError) →
    Matches v.current parts → belongs v.current head ≡ Err error → Reason v.limit parts head error
belongs_not v parts head error m e = by v.current m e
  where
    by : (current : Option Delivery) → Matches current parts → belongs current head ≡ Err error →
        Reason v.limit parts head error
    by None m e =
        subst (λ xs. Reason v.limit xs head error) (sym m)
        (begins_not v.limit head.number head.tag head error refl refl e)
    by (Some d) m e = goes_not v.limit d parts head error m e

-- ---- limits

over_by : (size sum k : ℕ) → size ≡ min sum (2 ^ 64 - 1) → nat_le size (suc k) ≡ false → suc k < sum
over_by size sum k e f = let more : suc k < size = grind (arith, nat_tests, common_steps) in omega (arith, e, more)

abbrev not_aborted : PartEnd → Bool
not_aborted Aborted = false
not_aborted end = true

is_over : (limit : Option ℕ) (size sum : ℕ) (end : PartEnd) → not_aborted end ≡ true → size ≡ min sum (2 ^ 64 - 1) →
    fits limit size end ≡ false → IsOver limit sum
is_over limit size sum Aborted n e f = absurd (true≢false f)
is_over None size sum More n e f = absurd (true≢false f)
is_over None size sum Last n e f = absurd (true≢false f)
is_over (Some zero) size sum More n e f = absurd (true≢false f)
is_over (Some zero) size sum Last n e f = absurd (true≢false f)
is_over (Some (suc k)) size sum More n e f = over_by size sum k e f
is_over (Some (suc k)) size sum Last n e f = over_by size sum k e f

over : (limit : Option ℕ) (size sum : ℕ) (more aborted : Bool) → size ≡ min sum (2 ^ 64 - 1) →
    fits limit size (end_of more aborted) ≡ false → (aborted ≡ false) × IsOver limit sum
over limit size sum more true e f = absurd (true≢false f)
over limit size sum true false e f = (refl, is_over limit size sum More refl e f)
over limit size sum false false e f = (refl, is_over limit size sum Last refl e f)

-- ---- the outcome

pub outcome : (v w : AssemblyView) (parts : List PartHead) (head : PartHead) (answer : Result Part PartError) →
    Matches v.current parts → PartStep v head answer w → Outcome v parts head answer w
outcome v w parts head answer m h = by (belongs v.current head) refl h
  where
    taken : (d : Delivery) (b : Bool) (answer : Result Part PartError) → Belongs v parts head d →
        fits v.limit (with_part d head).size (end_of head.more head.aborted) ≡ b →
        answer ≡ (if b then Ok (part_of (with_part d head) (is_none v.current) (end_of head.more head.aborted))
        else Err TooLarge) →
        w
        ≡ (if b then record v { current = left_under_way (end_of head.more head.aborted) (with_part d head) } else v) →
        Outcome v parts head answer w
    taken d true (Ok part) g f p q = record {
      delivery = with_part d head;
      has = g.has;
      is_first = g.is_first;
      number_is = g.number_is;
      fits_is = f;
      part_is = is_ok p;
      after_is = q;
    }
    taken d true (Err error) g f p q = absurd cc
    taken d false (Ok part) g f p q = absurd cc
    taken d false (Err error) g f p q = (
      subst (Reason v.limit parts head) (sym (is_err p))
          (over v.limit (with_part d head).size (total (parts ++ head ∷ [])) head.more head.aborted g.has.size_is f),
      q,
    )

    refused : (error : PartError) (answer : Result Part PartError) → belongs v.current head ≡ Err error →
        answer ≡ Err error → w ≡ v → Outcome v parts head answer w
    refused error (Ok part) e p q = absurd cc
    refused error (Err told) e p q =
        (subst (Reason v.limit parts head) (sym (is_err p)) (belongs_not v parts head error m e), q)

    by : (r : Result Delivery PartError) → belongs v.current head ≡ r → TriedStep v head r answer w →
        Outcome v parts head answer w
    by (Ok d) e h = taken d _ answer (belongs_to v parts head d m e) refl h.0 h.1
    by (Err error) e h = refused error answer e h.0 h.1
