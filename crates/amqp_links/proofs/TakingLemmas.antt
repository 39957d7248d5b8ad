-- A part that is prepared and then finished is taken; one that is refused leaves its end as before, or has it detach.
use Rattle.std.proofs.Common.{◌≡◌, ◌&&◌, ℕ, nat_eq, Bool, true, false, Option, Some, None, Result, Ok, Err, if◌then◌else◌, refl, sym, ap, ◌∙◌, subst}
use Rattle.amqp_credit.specs.Assembly.{finished, prepared}
use Rattle.amqp_credit.specs.Receiver.{ReceiverView, taken_off}
use Rattle.amqp_credit.specs.declared.part.Part.{Part}
use Rattle.amqp_credit.specs.declared.part.PartHead.{PartHead}
use Rattle.amqp_credit.specs.declared.part.PartError.{PartError}
use Rattle.amqp_credit.proofs.HalvesLemmas as halves
use Rattle.amqp_links.specs.declared.end.End.{End}
use Rattle.amqp_links.specs.declared.end.End.TheVariants.{Sending, Receiving}
use Rattle.amqp_links.specs.declared.life.Life.{Life}
use Rattle.amqp_links.specs.declared.life.Life.TheVariants.{Attaching, Refused, Attached, Detaching, Detached}
use Rattle.amqp_links.specs.declared.receiving.LinkFault.{LinkFault}
use Rattle.amqp_links.specs.declared.receiving.LinkFault.TheVariants as fault
use Rattle.amqp_links.specs.declared.receiving.TransferError.{TransferError}
use Rattle.amqp_links.specs.declared.receiving.TransferError.TheVariants as transfer
use Rattle.amqp_links.specs.declared.session.taking.ReceivedPart.{ReceivedPart}
use Rattle.amqp_links.specs.declared.session.taking.TakePartError.{TakePartError}
use Rattle.amqp_links.specs.declared.session.taking.TakePartError.TheVariants.{NoReceiver, Link, NotNext, OutOfMemory}
use Rattle.amqp_links.specs.Ends.{Puts}
use Rattle.amqp_links.specs.Receiving.{ReceivingView, CountsIf, TakesIfAttached, TakesStep, begun, is_over, prepared_part, refusing}
use Rattle.amqp_links.specs.Receiving.{told_by_parts, told_if_attached, told_unless, with_taken}
use Rattle.amqp_links.specs.Session.{LinksView}
use Rattle.amqp_links.specs.TakingParts.{NotesOn, TakesAt, TakesOn, prepared_at, refusing_at, with_part}

abbrev is_done : {A B : Type 0} → Result A B → Type 0
is_done (Ok a) = Unit {0}
is_done (Err b) = ⊥

err≢ok : {A B : Type 0} {a : A} {b : B} → Err b ≡ Ok a → ⊥
err≢ok e = subst is_done (sym e) tt

abbrev is_nothing : {A : Type 0} → Option A → Type 0
is_nothing None = Unit {0}
is_nothing (Some a) = ⊥

none≢some : {A : Type 0} {a : A} → None ≡ Some a → ⊥
none≢some e = subst is_nothing e tt

abbrev or_else : {A B : Type 0} → A → Result A B → A
or_else a (Ok b) = b
or_else a (Err error) = a

abbrev error_or : {A B : Type 0} → B → Result A B → B
error_or b (Ok a) = b
error_or b (Err error) = error

abbrev some_or : {A : Type 0} → A → Option A → A
some_or a None = a
some_or a (Some b) = b

abbrev fault_or : LinkFault → TransferError → LinkFault
fault_or d (transfer.Fault f) = f
fault_or d transfer.NotAttached = d

fault≢apart : (f : LinkFault) → transfer.Fault f ≡ transfer.NotAttached → ⊥
fault≢apart f e = cc

-- ---- a part that is told

begun_is : (first : Bool) (c : ReceiverView) → (first && nat_eq c.credit 0) ≡ false →
    (if first then begun c else c) ≡ (if first then taken_off 1 c else c)
begun_is false c h = refl
begun_is true c h = ap (λ b. if b then c else taken_off 1 c) h

told_is : (p : Part) (r : Result Part PartError) → Ok p ≡ told_by_parts r → Ok p ≡ r
told_is p (Ok q) e = ap Ok (ap (or_else p) e)
told_is p (Err error) e = absurd (err≢ok (sym e))

unless_over : (b : Bool) (v : ReceivingView) (head : PartHead) (p : Part) → Ok p ≡ told_unless b v head → Ok p ≡ prepared v.parts head
unless_over true v head p e = absurd (err≢ok (sym e))
unless_over false v head p e = told_is p (prepared v.parts head) e

if_attached_part : (l : Life) (v : ReceivingView) (head : PartHead) (p : Part) → Ok p ≡ told_if_attached l v head → Ok p ≡ prepared v.parts head
if_attached_part Attaching v head p e = absurd (err≢ok (sym e))
if_attached_part Refused v head p e = absurd (err≢ok (sym e))
if_attached_part Attached v head p e = unless_over (is_over v) v head p e
if_attached_part Detaching v head p e = absurd (err≢ok (sym e))
if_attached_part Detached v head p e = absurd (err≢ok (sym e))

-- a part that is prepared was prepared by the parts before it
pub prepares_part : (v : ReceivingView) (head : PartHead) (p : Part) → Ok p ≡ prepared_part v head → Ok p ≡ prepared v.parts head
prepares_part v head p e = if_attached_part v.life v head p e

-- and by the end that receives
pub told_there : (s : ReceivingView) (head : PartHead) (p : Part) → Some (Ok p) ≡ prepared_at (Some (Receiving s)) head → Ok p ≡ prepared_part s head
told_there s head p e = ap (some_or (Ok p)) e

counts : (b : Bool) (v : ReceivingView) (head : PartHead) (p : Part) → is_over v ≡ b → Ok p ≡ told_unless b v head →
    CountsIf b v head (Ok p) (with_taken v head p)
counts true v head p o e = absurd (err≢ok (sym e))
counts false v head p o e =
    let told : Ok p ≡ prepared v.parts head = told_is p (prepared v.parts head) e in
    let some : (p.is_first && nat_eq v.credit.credit 0) ≡ false =
    ap (λ b. b && nat_eq v.credit.credit 0) (halves.first_is v.parts head p told) ∙ o in (
      Ok p,
      halves.takes v.parts head p told,
      refl,
      ap (λ c. record v { credit = c; parts = finished v.parts head p }) (begun_is p.is_first v.credit some),
    )

takes_by : (l : Life) (v : ReceivingView) (head : PartHead) (p : Part) → Ok p ≡ told_if_attached l v head →
    TakesIfAttached l v head (Ok p) (with_taken v head p)
takes_by Attaching v head p e = absurd (err≢ok (sym e))
takes_by Refused v head p e = absurd (err≢ok (sym e))
takes_by Attached v head p e = counts (is_over v) v head p refl e
takes_by Detaching v head p e = absurd (err≢ok (sym e))
takes_by Detached v head p e = absurd (err≢ok (sym e))

pub takes : (v : ReceivingView) (head : PartHead) (p : Part) → Ok p ≡ prepared_part v head → TakesStep v head (Ok p) (with_taken v head p)
takes v head p e = takes_by v.life v head p e

-- ---- a transfer that is refused

by_parts : (r : Result Part PartError) (v : ReceivingView) (head : PartHead) (f : LinkFault) → r ≡ prepared v.parts head →
    Err (transfer.Fault f) ≡ told_by_parts r → CountsIf false v head (Err f) v
by_parts (Ok q) v head f is e = absurd (err≢ok e)
by_parts (Err q) v head f is e =
    let same : f ≡ fault.Part q = ap (λ r. fault_or f (error_or (transfer.Fault f) r)) e in
    (Err q, halves.refuses v.parts head q is, ap Err same, refl)

not_counted : (b : Bool) (v : ReceivingView) (head : PartHead) (f : LinkFault) → Err (transfer.Fault f) ≡ told_unless b v head →
    CountsIf b v head (Err f) v
not_counted true v head f e = (ap Err (ap (λ r. fault_or f (error_or (transfer.Fault f) r)) e), refl)
not_counted false v head f e = by_parts (prepared v.parts head) v head f refl e

never_apart : (r : Result Part PartError) → Err transfer.NotAttached ≡ told_by_parts r → ⊥
never_apart (Ok q) e = err≢ok e
never_apart (Err q) e = fault≢apart (fault.Part q) (sym (ap (error_or transfer.NotAttached) e))

never : (b : Bool) (v : ReceivingView) (head : PartHead) → Err transfer.NotAttached ≡ told_unless b v head → ⊥
never true v head e = fault≢apart fault.OverCredit (sym (ap (error_or transfer.NotAttached) e))
never false v head e = never_apart (prepared v.parts head) e

attached_refuses : (error : TransferError) (v : ReceivingView) (head : PartHead) → Err error ≡ told_unless (is_over v) v head →
    TakesIfAttached Attached v head (Err error) (refusing error v)
attached_refuses (transfer.Fault f) v head e = (v, not_counted (is_over v) v head f e, refl)
attached_refuses transfer.NotAttached v head e = absurd (never (is_over v) v head e)

refuses_by : (l : Life) (v : ReceivingView) (head : PartHead) (error : TransferError) → Err error ≡ told_if_attached l v head →
    TakesIfAttached l v head (Err error) (refusing error v)
refuses_by Attaching v head error e = (e, ap (λ (r : Result Part TransferError). refusing (error_or error r) v) e)
refuses_by Refused v head error e = (e, ap (λ (r : Result Part TransferError). refusing (error_or error r) v) e)
refuses_by Attached v head error e = attached_refuses error v head e
refuses_by Detaching v head error e = (e, ap (λ (r : Result Part TransferError). refusing (error_or error r) v) e)
refuses_by Detached v head error e = (e, ap (λ (r : Result Part TransferError). refusing (error_or error r) v) e)

pub refuses : (v : ReceivingView) (head : PartHead) (error : TransferError) → Err error ≡ prepared_part v head →
    TakesStep v head (Err error) (refusing error v)
refuses v head error e = refuses_by v.life v head error e

-- ---- on a session's links

pub not_there : (e : Option End) (v : LinksView) (h : ℕ) (head : PartHead) (given : ℕ) → None ≡ prepared_at e head →
    TakesAt e v h head given (Err NoReceiver) v
not_there None v h head given is = (refl, refl)
not_there (Some (Sending s)) v h head given is = (refl, refl)
not_there (Some (Receiving s)) v h head given is = absurd (none≢some is)

noted_on : (s : ReceivingView) (v w : LinksView) (h : ℕ) (head : PartHead) (p : Part) (given : ℕ) (result : Result ReceivedPart TakePartError) →
    Ok p ≡ prepared_part s head → NotesOn (Some (Receiving (with_taken s head p))) v h p given result w → TakesOn s v h head given result w
noted_on s v w h head p given (Ok told) is notes = (with_taken s head p, p, takes s head p is, notes)
noted_on s v w h head p given (Err NoReceiver) is notes = absurd notes
noted_on s v w h head p given (Err (Link error)) is notes = absurd notes
noted_on s v w h head p given (Err NotNext) is notes = (with_taken s head p, p, takes s head p is, notes)
noted_on s v w h head p given (Err OutOfMemory) is notes = (with_taken s head p, p, takes s head p is, notes)

pub noted : (e : Option End) (v w : LinksView) (h : ℕ) (head : PartHead) (p : Part) (given : ℕ) (result : Result ReceivedPart TakePartError) →
    Some (Ok p) ≡ prepared_at e head → NotesOn (with_part e head p) v h p given result w → TakesAt e v h head given result w
noted None v w h head p given result is notes = absurd (none≢some (sym is))
noted (Some (Sending s)) v w h head p given result is notes = absurd (none≢some (sym is))
noted (Some (Receiving s)) v w h head p given result is notes =
    noted_on s v w h head p given result (ap (some_or (Ok p)) is) notes

pub refused : (e : Option End) (v w : LinksView) (h : ℕ) (head : PartHead) (error : TransferError) (given : ℕ) →
    Some (Err error) ≡ prepared_at e head → Puts v.ends h (refusing_at error e) w.ends → w ≡ record v { ends = w.ends } →
    TakesAt e v h head given (Err (Link error)) w
refused None v w h head error given is puts same = absurd (none≢some (sym is))
refused (Some (Sending s)) v w h head error given is puts same = absurd (none≢some (sym is))
refused (Some (Receiving s)) v w h head error given is puts same =
    (refusing error s, refuses s head error (ap (some_or (Err error)) is), (puts, same))
