-- A transfer that is prepared and then finished is sent; one that is refused leaves its end as before.
use Rattle.std.proofs.Common.{◌≡◌, ◌<◌, ℕ, zero, suc, nat_eq, Bool, true, false, Option, Some, None, Result, Ok, Err, if◌then◌else◌}
use Rattle.std.proofs.Common.{refl, sym, ap, ◌∙◌, subst, arith, true≢false}
use Rattle.std.proofs.lemmas.Bool.{eqb-true}
use Rattle.amqp_credit.specs.Sender.{taken_from}
use Rattle.amqp_credit.specs.declared.part.PartEnd.{PartEnd}
use Rattle.amqp_credit.specs.declared.part.PartEnd.TheVariants.{More, Last, Aborted}
use Rattle.amqp_links.specs.declared.end.End.{End}
use Rattle.amqp_links.specs.declared.end.End.TheVariants.{Sending, Receiving}
use Rattle.amqp_links.specs.declared.life.Life.{Life}
use Rattle.amqp_links.specs.declared.life.Life.TheVariants.{Attaching, Refused, Attached, Detaching, Detached}
use Rattle.amqp_links.specs.declared.sending.SendError.{SendError}
use Rattle.amqp_links.specs.declared.sending.SendError.TheVariants.{NoCredit}
use Rattle.amqp_links.specs.declared.sending.Sendable.{Sendable}
use Rattle.amqp_links.specs.declared.session.sending.PreparedPart.{PreparedPart}
use Rattle.amqp_links.specs.declared.session.sending.SentPart.{SentPart}
use Rattle.amqp_links.specs.declared.session.sending.SendPartError.{SendPartError}
use Rattle.amqp_links.specs.declared.session.sending.SendPartError.TheVariants.{Link, NoSender, NotNext, OutOfMemory}
use Rattle.amqp_links.specs.Preparing.{NotesIf, NotesPrepared, PreparesAt, PreparesOn, opens, prepared_of, sendable_on}
use Rattle.amqp_links.specs.Sending.{SendingView, AttachedSend, BegunBy, SendsStep, SizedStep, WithinStep, having_sent, is_none, is_too_large}
use Rattle.amqp_links.specs.Sending.{left_under_way, may_begin, prepared_send, sendable_at, sendable_if, sendable_sized, sendable_within, size_with}
use Rattle.amqp_links.specs.Session.{LinksView}
use Rattle.amqp_links.proofs.ReceivingLemmas.{none≢some, ok≢err}

abbrev or_else : {A B : Type 0} → A → Result A B → A
or_else a (Ok b) = b
or_else a (Err error) = a

abbrev error_or : {A B : Type 0} → B → Result A B → B
error_or b (Ok a) = b
error_or b (Err error) = error

abbrev some_or : {A : Type 0} → A → Option A → A
some_or a None = a
some_or a (Some b) = b

-- ---- a transfer that is sent

some_credit : (n : ℕ) → nat_eq n 0 ≡ false → 0 < n
some_credit zero e = absurd (true≢false e)
some_credit (suc n) e = omega arith

abbrev first_part : PartEnd → ℕ → Sendable
first_part end whole = record { is_first = true; under_way = left_under_way end whole }

with_one : (s : SendingView) (end : PartEnd) (whole : ℕ) (x : Sendable) → nat_eq s.credit.credit 0 ≡ false → x ≡ first_part end whole →
    having_sent s x ≡ record s { credit = taken_from 1 s.credit; under_way = left_under_way end whole }
with_one s end whole x some e =
    ap (having_sent s) e
    ∙ ap (λ b. record s { credit = if b then s.credit else taken_from 1 s.credit; under_way = left_under_way end whole }) some

begun_more : (b : Bool) (s : SendingView) (whole : ℕ) (x : Sendable) → nat_eq s.credit.credit 0 ≡ b →
    Ok x ≡ sendable_if (if b then Err NoCredit else Ok tt) (left_under_way More whole) → BegunBy s whole More (Ok tt) (having_sent s x)
begun_more true s whole x is e = absurd (ok≢err e)
begun_more false s whole x is e =
    (record s { credit = taken_from 1 s.credit }, (some_credit s.credit.credit is, refl), with_one s More whole x is (ap (or_else x) e))

begun_last : (b : Bool) (s : SendingView) (whole : ℕ) (x : Sendable) → nat_eq s.credit.credit 0 ≡ b →
    Ok x ≡ sendable_if (if b then Err NoCredit else Ok tt) (left_under_way Last whole) → BegunBy s whole Last (Ok tt) (having_sent s x)
begun_last true s whole x is e = absurd (ok≢err e)
begun_last false s whole x is e =
    (record s { credit = taken_from 1 s.credit }, (some_credit s.credit.credit is, refl), with_one s Last whole x is (ap (or_else x) e))

begun_by : (end : PartEnd) (s : SendingView) (whole : ℕ) (x : Sendable) → Ok x ≡ sendable_if (may_begin s end) (left_under_way end whole) →
    BegunBy s whole end (Ok tt) (having_sent s x)
begun_by More s whole x e = begun_more (nat_eq s.credit.credit 0) s whole x refl e
begun_by Last s whole x e = begun_last (nat_eq s.credit.credit 0) s whole x refl e
begun_by Aborted s whole x e = absurd (ok≢err e)

sent_within : (u : Option ℕ) (s : SendingView) (whole : ℕ) (end : PartEnd) (x : Sendable) → Ok x ≡ sendable_within u s whole end →
    WithinStep u s whole end (Ok tt) (having_sent s x)
sent_within None s whole end x e = begun_by end s whole x e
sent_within (Some n) s whole end x e = ap (having_sent s) (ap (or_else x) e)

sent_sized : (b : Bool) (s : SendingView) (whole : ℕ) (end : PartEnd) (x : Sendable) → Ok x ≡ sendable_sized b s whole end →
    SizedStep b s whole end (Ok tt) (having_sent s x)
sent_sized true s whole end x e = absurd (ok≢err e)
sent_sized false s whole end x e = sent_within s.under_way s whole end x e

sent_at : (life : Life) (s : SendingView) (size : ℕ) (end : PartEnd) (x : Sendable) → Ok x ≡ sendable_at life s size end →
    AttachedSend life s size end (Ok tt) (having_sent s x)
sent_at Attached s size end x e =
    sent_sized (is_too_large s.limit (size_with s.under_way size end) end) s (size_with s.under_way size end) end x e
sent_at Attaching s size end x e = absurd (ok≢err e)
sent_at Refused s size end x e = absurd (ok≢err e)
sent_at Detaching s size end x e = absurd (ok≢err e)
sent_at Detached s size end x e = absurd (ok≢err e)

pub sent : (s : SendingView) (size : ℕ) (end : PartEnd) (x : Sendable) → Ok x ≡ prepared_send s size end → SendsStep s size end (Ok tt) (having_sent s x)
sent s size end x e = sent_at s.life s size end x e

-- ---- one that is not

no_credit : (n : ℕ) → nat_eq n 0 ≡ true → n ≡ 0
no_credit n e = eqb-true n 0 e

not_more : (b : Bool) (s : SendingView) (whole : ℕ) (error : SendError) → nat_eq s.credit.credit 0 ≡ b →
    Err error ≡ sendable_if (if b then Err NoCredit else Ok tt) (left_under_way More whole) → BegunBy s whole More (Err error) s
not_more true s whole error is e = (ap (error_or error) e, no_credit s.credit.credit is, refl)
not_more false s whole error is e = absurd (ok≢err (sym e))

not_last : (b : Bool) (s : SendingView) (whole : ℕ) (error : SendError) → nat_eq s.credit.credit 0 ≡ b →
    Err error ≡ sendable_if (if b then Err NoCredit else Ok tt) (left_under_way Last whole) → BegunBy s whole Last (Err error) s
not_last true s whole error is e = (ap (error_or error) e, no_credit s.credit.credit is, refl)
not_last false s whole error is e = absurd (ok≢err (sym e))

not_begun : (end : PartEnd) (s : SendingView) (whole : ℕ) (error : SendError) → Err error ≡ sendable_if (may_begin s end) (left_under_way end whole) →
    BegunBy s whole end (Err error) s
not_begun More s whole error e = not_more (nat_eq s.credit.credit 0) s whole error refl e
not_begun Last s whole error e = not_last (nat_eq s.credit.credit 0) s whole error refl e
not_begun Aborted s whole error e = (ap (λ (r : Result Sendable SendError). Err (error_or error r)) e, refl)

not_within : (u : Option ℕ) (s : SendingView) (whole : ℕ) (end : PartEnd) (error : SendError) → Err error ≡ sendable_within u s whole end →
    WithinStep u s whole end (Err error) s
not_within None s whole end error e = not_begun end s whole error e
not_within (Some n) s whole end error e = absurd (ok≢err (sym e))

not_sized : (b : Bool) (s : SendingView) (whole : ℕ) (end : PartEnd) (error : SendError) → Err error ≡ sendable_sized b s whole end →
    SizedStep b s whole end (Err error) s
not_sized true s whole end error e = (ap (λ (r : Result Sendable SendError). Err (error_or error r)) e, refl)
not_sized false s whole end error e = not_within s.under_way s whole end error e

not_at : (life : Life) (s : SendingView) (size : ℕ) (end : PartEnd) (error : SendError) → Err error ≡ sendable_at life s size end →
    AttachedSend life s size end (Err error) s
not_at Attached s size end error e =
    not_sized (is_too_large s.limit (size_with s.under_way size end) end) s (size_with s.under_way size end) end error e
not_at Attaching s size end error e = (ap (λ (r : Result Sendable SendError). Err (error_or error r)) e, refl)
not_at Refused s size end error e = (ap (λ (r : Result Sendable SendError). Err (error_or error r)) e, refl)
not_at Detaching s size end error e = (ap (λ (r : Result Sendable SendError). Err (error_or error r)) e, refl)
not_at Detached s size end error e = (ap (λ (r : Result Sendable SendError). Err (error_or error r)) e, refl)

pub not_sent : (s : SendingView) (size : ℕ) (end : PartEnd) (error : SendError) → Err error ≡ prepared_send s size end → SendsStep s size end (Err error) s
not_sent s size end error e = not_at s.life s size end error e

-- ---- which is the first

first_if : (r : Result (Unit {0}) SendError) (u : Option ℕ) (x : Sendable) → Ok x ≡ sendable_if r u → x.is_first ≡ true
first_if (Ok done) u x e = ap (λ (r : Result Sendable SendError). (or_else x r).is_first) e
first_if (Err error) u x e = absurd (ok≢err e)

first_within : (u : Option ℕ) (s : SendingView) (whole : ℕ) (end : PartEnd) (x : Sendable) → Ok x ≡ sendable_within u s whole end → x.is_first ≡ is_none u
first_within None s whole end x e = first_if (may_begin s end) (left_under_way end whole) x e
first_within (Some n) s whole end x e = ap (λ (r : Result Sendable SendError). (or_else x r).is_first) e

first_sized : (b : Bool) (s : SendingView) (whole : ℕ) (end : PartEnd) (x : Sendable) → Ok x ≡ sendable_sized b s whole end →
    x.is_first ≡ is_none s.under_way
first_sized true s whole end x e = absurd (ok≢err e)
first_sized false s whole end x e = first_within s.under_way s whole end x e

first_at : (life : Life) (s : SendingView) (size : ℕ) (end : PartEnd) (x : Sendable) → Ok x ≡ sendable_at life s size end → x.is_first ≡ is_none s.under_way
first_at Attached s size end x e =
    first_sized (is_too_large s.limit (size_with s.under_way size end) end) s (size_with s.under_way size end) end x e
first_at Attaching s size end x e = absurd (ok≢err e)
first_at Refused s size end x e = absurd (ok≢err e)
first_at Detaching s size end x e = absurd (ok≢err e)
first_at Detached s size end x e = absurd (ok≢err e)

-- ---- what is sent is what was prepared

not_none : (n : ℕ) → 0 < n → n ≡ 0 → ⊥
not_none n p e = omega (arith, p, e)

none_zero : (n : ℕ) → 0 < n → nat_eq n 0 ≡ false
none_zero n p = by (nat_eq n 0) refl
  where
    by : (b : Bool) → nat_eq n 0 ≡ b → nat_eq n 0 ≡ false
    by true e = absurd (not_none n p (eqb-true n 0 e))
    by false e = e

after_begin : (v m t : SendingView) (whole : ℕ) (end : PartEnd) → 0 < v.credit.credit → m ≡ record v { credit = taken_from 1 v.credit } →
    t ≡ record m { under_way = left_under_way end whole } → t ≡ having_sent v (record { is_first = true; under_way = t.under_way })
after_begin v m t whole end some e f =
    let u = left_under_way end whole in
    let is : t ≡ record v { credit = taken_from 1 v.credit; under_way = u } = f ∙ ap (λ (x : SendingView). record x { under_way = u }) e in
    let same : t.under_way ≡ u = ap (λ (x : SendingView). x.under_way) f in
    is ∙ sym (ap (λ o. having_sent v (record { is_first = true; under_way = o })) same
    ∙ ap (λ b. record v { credit = if b then v.credit else taken_from 1 v.credit; under_way = u }) (none_zero v.credit.credit some))

is_begun : (end : PartEnd) (v t : SendingView) (whole : ℕ) → BegunBy v whole end (Ok tt) t →
    t ≡ having_sent v (record { is_first = true; under_way = t.under_way })
is_begun More v t whole h = after_begin v h.0 t whole More h.1.0 h.1.1 h.2
is_begun Last v t whole h = after_begin v h.0 t whole Last h.1.0 h.1.1 h.2
is_begun Aborted v t whole h = absurd (ok≢err h.1.0)

is_within : (u : Option ℕ) (v t : SendingView) (whole : ℕ) (end : PartEnd) → WithinStep u v whole end (Ok tt) t →
    t ≡ having_sent v (record { is_first = is_none u; under_way = t.under_way })
is_within None v t whole end h = is_begun end v t whole h
is_within (Some n) v t whole end h = h ∙ ap (λ o. record v { under_way = o }) (sym (ap (λ (x : SendingView). x.under_way) h))

is_sized : (b : Bool) (v t : SendingView) (whole : ℕ) (end : PartEnd) → SizedStep b v whole end (Ok tt) t →
    t ≡ having_sent v (record { is_first = is_none v.under_way; under_way = t.under_way })
is_sized true v t whole end h = absurd (ok≢err h.0)
is_sized false v t whole end h = is_within v.under_way v t whole end h

is_at : (life : Life) (v t : SendingView) (size : ℕ) (end : PartEnd) → AttachedSend life v size end (Ok tt) t →
    t ≡ having_sent v (record { is_first = is_none v.under_way; under_way = t.under_way })
is_at Attached v t size end h =
    is_sized (is_too_large v.limit (size_with v.under_way size end) end) v t (size_with v.under_way size end) end h
is_at Attaching v t size end h = absurd (ok≢err h.0)
is_at Refused v t size end h = absurd (ok≢err h.0)
is_at Detaching v t size end h = absurd (ok≢err h.0)
is_at Detached v t size end h = absurd (ok≢err h.0)

pub sent_is : (v t : SendingView) (size : ℕ) (end : PartEnd) → SendsStep v size end (Ok tt) t →
    t ≡ having_sent v (record { is_first = is_none v.under_way; under_way = t.under_way })
sent_is v t size end h = is_at v.life v t size end h

-- ---- on a session's links

-- what is noted of a part that the link allows, by what the step is
pub prepares_on : (s t : SendingView) (v w : LinksView) (h : ℕ) (p : SentPart) (result : Result PreparedPart SendPartError) →
    SendsStep s p.size p.end (Ok tt) t → NotesPrepared (prepared_of s t h p) v result w → (b : Bool) → opens (is_none s.under_way) p ≡ b →
    PreparesOn s v h p result w
prepares_on s t v w h p (Ok q) step notes b e = (t, step, notes)
prepares_on s t v w h p (Err NoSender) step notes b e = (t, step, notes)
prepares_on s t v w h p (Err (Link error)) step notes true e = absurd (subst (λ x. NotesIf x (prepared_of s t h p) v (Err (Link error)) w) e notes)
prepares_on s t v w h p (Err (Link error)) step notes false e = absurd (subst (λ x. NotesIf x (prepared_of s t h p) v (Err (Link error)) w) e notes)
prepares_on s t v w h p (Err NotNext) step notes b e = (t, step, notes)
prepares_on s t v w h p (Err OutOfMemory) step notes b e = (t, step, notes)

pub no_sender : (e : Option End) (v : LinksView) (h : ℕ) (p : SentPart) → None ≡ sendable_on e p.size p.end → PreparesAt e v h p (Err NoSender) v
no_sender None v h p is = (refl, refl)
no_sender (Some (Receiving r)) v h p is = (refl, refl)
no_sender (Some (Sending s)) v h p is = absurd (none≢some is)

abbrev the_part : ℕ → SentPart → Sendable → PreparedPart
the_part h p x = record { handle = h; part = p; sendable = x }

as_prepared : (s : SendingView) (h : ℕ) (p : SentPart) (x : Sendable) → x.is_first ≡ is_none s.under_way →
    the_part h p x ≡ prepared_of s (having_sent s x) h p
as_prepared s h p x first = ap (λ b. the_part h p (record { is_first = b; under_way = x.under_way })) first

pub prepared : (e : Option End) (v w : LinksView) (h : ℕ) (p : SentPart) (x : Sendable) (result : Result PreparedPart SendPartError) →
    Some (Ok x) ≡ sendable_on e p.size p.end → NotesPrepared (record { handle = h; part = p; sendable = x }) v result w → PreparesAt e v h p result w
prepared None v w h p x result is notes = absurd (none≢some (sym is))
prepared (Some (Receiving r)) v w h p x result is notes = absurd (none≢some (sym is))
prepared (Some (Sending s)) v w h p x result is notes =
    let told : Ok x ≡ prepared_send s p.size p.end = ap (some_or (Ok x)) is in
    let first = first_at s.life s p.size p.end x told in
    prepares_on s (having_sent s x) v w h p result (sent s p.size p.end x told)
    (subst (λ q. NotesPrepared q v result w) (as_prepared s h p x first) notes) (opens (is_none s.under_way) p) refl

pub not_prepared : (e : Option End) (v : LinksView) (h : ℕ) (p : SentPart) (error : SendError) → Some (Err error) ≡ sendable_on e p.size p.end →
    PreparesAt e v h p (Err (Link error)) v
not_prepared None v h p error is = absurd (none≢some (sym is))
not_prepared (Some (Receiving r)) v h p error is = absurd (none≢some (sym is))
not_prepared (Some (Sending s)) v h p error is = (not_sent s p.size p.end error (ap (some_or (Err error)) is), refl)
