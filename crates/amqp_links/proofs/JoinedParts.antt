-- The parts of deliveries that are on the way between the two ends of a link: each is one that the receiver takes.
use Rattle.std.proofs.Common.{◌≡◌, ◌+◌, ◌-◌, ◌^◌, ◌||◌, ℕ, zero, suc, min, nat_lt, nat_le, Bool, true, false, List, [], ◌∷◌, ◌++◌, Option, Some, None, Ok, Err}
use Rattle.std.proofs.Common.{if◌then◌else◌, refl, sym, ap, ap₂, ◌∙◌, subst, arith}
use Rattle.std.proofs.lemmas.Bool.Decides.{nat_tests}
use Rattle.std.proofs.lemmas.Grind.{common_steps}
use Rattle.amqp_credit.specs.declared.assembly.Delivery.{Delivery}
use Rattle.amqp_credit.specs.declared.part.PartEnd.{PartEnd}
use Rattle.amqp_credit.specs.declared.part.PartEnd.TheVariants.{More, Last, Aborted}
use Rattle.amqp_credit.specs.declared.part.PartError.TheVariants.{OtherDelivery, OtherFormat}
use Rattle.amqp_credit.specs.declared.part.PartHead.{PartHead}
use Rattle.amqp_credit.specs.Assembly as assembly
use Rattle.amqp_credit.specs.Assembly.{begun, belongs, differs, end_of, fits, is_new, with_part}
use Rattle.amqp_links.specs.Joined.{IsHead, Sent, Transfer, Flow, begun_by}
use Rattle.amqp_links.specs.Sending.{is_too_large, left_under_way, size_with, so_far}

-- what is under way at both ends, with nothing between
abbrev pub Same : Option Delivery → Option ℕ → Type 0
Same None None = Unit {0}
Same (Some d) (Some n) = d.size ≡ n
Same d u = ⊥

abbrev pub first_of : Option Delivery → ℕ
first_of None = 1
first_of (Some d) = 0

-- a part that the receiver takes, where this is under way there
pub record Fits (limit : Option ℕ) (d : Option Delivery) (head : PartHead) : Type 0 where
  pub of : Delivery
  pub is : belongs d head ≡ Ok of
  pub small : fits limit (with_part of head).size (end_of head.more head.aborted) ≡ true
  pub first : begun_by head.number ≡ first_of d

-- what is on the way leads from what is under way at the receiver to what is at the sender
abbrev pub Under : Option ℕ → Option Delivery → List Sent → Option ℕ → Type 0
Under limit d [] u = Same d u
Under limit d (Flow n ∷ others) u = Under limit d others u
Under limit d (Transfer head ∷ others) u =
    (f : Fits limit d head) × Under limit (assembly.left_under_way (end_of head.more head.aborted) (with_part f.of head)) others u

pub under_flow : (limit : Option ℕ) (d : Option Delivery) (xs : List Sent) (u : Option ℕ) (n : ℕ) → Under limit d xs u
    → Under limit d (xs ++ Flow n ∷ []) u
under_flow limit d [] u n h = h
under_flow limit d (Flow m ∷ xs) u n h = under_flow limit d xs u n h
under_flow limit d (Transfer head ∷ xs) u n h =
    (h.0, under_flow limit (assembly.left_under_way (end_of head.more head.aborted) (with_part h.0.of head)) xs u n h.1)

-- ---- one part more

le_of : (k n : ℕ) → nat_lt k n ≡ false → nat_le n k ≡ true
le_of k n h = by (nat_le n k) refl
  where
    not_less : nat_le n k ≡ false → nat_lt k n ≡ false → ⊥
    not_less f h = grind (arith, nat_tests, common_steps)

    by : (b : Bool) → nat_le n k ≡ b → nat_le n k ≡ true
    by true e = e
    by false e = absurd (not_less e h)

fits_of : (limit : Option ℕ) (n : ℕ) (end : PartEnd) → is_too_large limit n end ≡ false → fits limit n end ≡ true
fits_of limit n Aborted h = refl
fits_of None n More h = refl
fits_of None n Last h = refl
fits_of (Some zero) n More h = refl
fits_of (Some zero) n Last h = refl
fits_of (Some (suc k)) n More h = le_of (suc k) n h
fits_of (Some (suc k)) n Last h = le_of (suc k) n h

-- a part that does not abort its delivery counts alike at both ends
size_is : (e : Delivery) (u : Option ℕ) (head : PartHead) → head.aborted ≡ false → e.size ≡ so_far u
    → (with_part e head).size ≡ min (so_far u + head.size) (2 ^ 64 - 1)
size_is e u head whole size =
    ap (λ b. min (e.size + (if b then 0 else head.size)) (2 ^ 64 - 1)) whole ∙ ap (λ n. min (n + head.size) (2 ^ 64 - 1)) size

ends_as : (limit : Option ℕ) (e : Delivery) (u : Option ℕ) (head : PartHead) (more aborted : Bool) → head.aborted ≡ aborted → e.size ≡ so_far u
    → is_too_large limit (size_with u head.size (end_of more aborted)) (end_of more aborted) ≡ false
    → (fits limit (with_part e head).size (end_of more aborted) ≡ true)
    × Same (assembly.left_under_way (end_of more aborted) (with_part e head)) (left_under_way (end_of more aborted) (size_with u head.size (end_of more aborted)))
ends_as limit e u head true true is size small = (refl, tt)
ends_as limit e u head false true is size small = (refl, tt)
ends_as limit e u head true false is size small =
    let same = size_is e u head is size in
    (subst (λ n. fits limit n More ≡ true) (sym same) (fits_of limit (min (so_far u + head.size) (2 ^ 64 - 1)) More small), same)
ends_as limit e u head false false is size small =
    let same = size_is e u head is size in
    (subst (λ n. fits limit n Last ≡ true) (sym same) (fits_of limit (min (so_far u + head.size) (2 ^ 64 - 1)) Last small), tt)

-- what is under way at both ends after a part, with nothing between
abbrev Onward : Option ℕ → Option Delivery → Option ℕ → PartHead → Type 0
Onward limit d u head = (f : Fits limit d head)
    × Same (assembly.left_under_way (end_of head.more head.aborted) (with_part f.of head))
    (left_under_way (end_of head.more head.aborted) (size_with u head.size (end_of head.more head.aborted)))

onward : (limit : Option ℕ) (d : Option Delivery) (u : Option ℕ) (head : PartHead) (e : Delivery) → belongs d head ≡ Ok e → e.size ≡ so_far u
    → begun_by head.number ≡ first_of d
    → is_too_large limit (size_with u head.size (end_of head.more head.aborted)) (end_of head.more head.aborted) ≡ false → Onward limit d u head
onward limit d u head e is size first small =
    let ends = ends_as limit e u head head.more head.aborted refl size small in
    (record { of = e; is = is; small = ends.0; first = first }, ends.1)

goes_on_is : (e : Delivery) (head : PartHead) → head.number ≡ None → head.format ≡ None → is_new head.tag ≡ false → belongs (Some e) head ≡ Ok e
goes_on_is e head number format tag =
    ap (λ b. if b || differs (Some e.number) head.number then Err OtherDelivery else (if differs e.format head.format then Err OtherFormat else Ok e)) tag
    ∙ ap (λ n. if false || differs (Some e.number) n then Err OtherDelivery else (if differs e.format head.format then Err OtherFormat else Ok e)) number
    ∙ ap (λ n. if differs e.format n then Err OtherFormat else Ok e) format

at_end : (limit : Option ℕ) (d : Option Delivery) (u : Option ℕ) (head : PartHead) → Same d u → IsHead u head
    → is_too_large limit (size_with u head.size (end_of head.more head.aborted)) (end_of head.more head.aborted) ≡ false → Onward limit d u head
at_end limit None None head same is small =
    onward limit None None head (record { number = is.0; format = head.format; settled = false; size = 0 })
    (ap₂ (λ n t. begun n t head.format) is.1 is.2) refl (ap begun_by is.1) small
at_end limit (Some e) (Some n) head same is small =
    onward limit (Some e) (Some n) head e (goes_on_is e head is.0 is.1 is.2) same (ap begun_by is.0) small
at_end limit None (Some n) head same is small = absurd same
at_end limit (Some e) None head same is small = absurd same

pub under_more : (limit : Option ℕ) (d : Option Delivery) (xs : List Sent) (u : Option ℕ) (head : PartHead) → Under limit d xs u → IsHead u head
    → is_too_large limit (size_with u head.size (end_of head.more head.aborted)) (end_of head.more head.aborted) ≡ false
    → Under limit d (xs ++ Transfer head ∷ []) (left_under_way (end_of head.more head.aborted) (size_with u head.size (end_of head.more head.aborted)))
under_more limit d [] u head h is small = at_end limit d u head h is small
under_more limit d (Flow m ∷ xs) u head h is small = under_more limit d xs u head h is small
under_more limit d (Transfer first ∷ xs) u head h is small =
    (h.0, under_more limit (assembly.left_under_way (end_of first.more first.aborted) (with_part h.0.of first)) xs u head h.1 is small)
