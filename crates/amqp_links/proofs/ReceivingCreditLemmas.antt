-- No more deliveries are told than were granted.
use Rattle.std.proofs.Common.{◌≡◌, ◌+◌, ◌-◌, ◌<◌, ◌≤◌, ℕ, Bool, true, false, List, [], ◌∷◌, ◌++◌, Option, Some, None}
use Rattle.std.proofs.Common.{Ok, Err, refl, sym, ap, ◌∙◌, subst, arith, true≢false, if◌then◌else◌, is_some}
use Rattle.amqp_credit.specs.Chain.{Chain}
use Rattle.amqp_credit.specs.Receiver.{ReceiverView, renewed, wanted}
use Rattle.amqp_credit.specs.Receiver as receiver
use Rattle.amqp_credit.specs.ReceiverHistory.{ReceiverCall, ReceiverStep}
use Rattle.amqp_credit.specs.ReceiverHistory as credit
use Rattle.amqp_credit.specs.declared.receiver.Grant.{Grant}
use Rattle.amqp_credit.specs.declared.part.Part.{Part}
use Rattle.amqp_credit.specs.declared.part.PartHead.{PartHead}
use Rattle.amqp_credit.proofs.ChainLemmas.{or_left, or_right, split_of}
use Rattle.amqp_links.specs.declared.life.Life.{Life}
use Rattle.amqp_links.specs.declared.life.Life.TheVariants.{Attaching, Refused, Attached, Detaching, Detached}
use Rattle.amqp_links.specs.declared.receiving.LinkFault.TheVariants as fault
use Rattle.amqp_links.specs.declared.receiving.TransferError.TheVariants as transfer
use Rattle.amqp_links.specs.Life.{having_detached}
use Rattle.amqp_links.specs.Receiving.{ReceivingView, IfAttached, RenewsIfAttached, TakesIfAttached, new_receiving, with_count}
use Rattle.amqp_links.specs.ReceivingHistory.{ReceivingCall, ReceivingStep, OfReceivings, credit_of, if_attached}
use Rattle.amqp_links.specs.ReceivingHistory.{Attaches, Grants, Drains, Renews, Hears, Answers, Takes, Detaches, Ends, AsksLife, AsksCredit, AsksUnderWay}
use Rattle.amqp_links.specs.ReceivingCredit.{NoneToldBefore, ToldWithinGrant, granted_by, has_granted, told_by, told_in}
use Rattle.amqp_links.proofs.ReceivingLemmas.{Made, answers, asks_credit, asks_number, drains, grants, hears, none≢some, ok≢err, renews, stands, takes}

-- ---- the calls of a receiver's credit

abbrev one : ReceiverCall → ℕ
one (credit.Takes (Ok done)) = 1
one c = 0

abbrev all : List ReceiverCall → ℕ
all [] = 0
all (c ∷ cs) = one c + all cs

as_before : (a b : ℕ) → a ≡ b → a + 0 ≤ b
as_before a b e = omega (arith, e)

fewer : (a b n : ℕ) → a ≡ b - n → a + 0 ≤ b
fewer a b n e = omega (arith, e)

one_fewer : (a b : ℕ) → 0 < b → a ≡ b - 1 → a + 1 ≤ b
one_fewer a b p e = omega (arith, p, e)

not_renewed : (n : Option ℕ) (v m : ReceiverView) → renewed n v None m → m ≡ v
not_renewed None v m h = h.1
not_renewed (Some n) v m h = absurd (none≢some h.0)

step_less : (v m : ReceiverView) (c : ReceiverCall) → is_some (credit.grant_of c) ≡ false → ReceiverStep v c m → m.credit + one c ≤ v.credit
step_less v m (credit.Grants n told) g h = absurd (true≢false g)
step_less v m (credit.Drains told) g h = as_before m.credit v.credit (ap (λ (x : ReceiverView). x.credit) h.1)
step_less v m (credit.Hears said answer) g h =
    fewer m.credit v.credit (receiver.or_zero (receiver.used_up v said)) (ap (λ (x : ReceiverView). x.credit) h.1)
step_less v m (credit.Takes (Ok done)) g h = one_fewer m.credit v.credit h.0 (ap (λ (x : ReceiverView). x.credit) h.1)
step_less v m (credit.Takes (Err refused)) g h = as_before m.credit v.credit (ap (λ (x : ReceiverView). x.credit) h.1)
step_less v m (credit.Renews (Some told)) g h = absurd (true≢false g)
step_less v m (credit.Renews None) g h = as_before m.credit v.credit (ap (λ (x : ReceiverView). x.credit) (not_renewed (wanted v) v m h))
step_less v m (credit.AsksWanted answer) g h = as_before m.credit v.credit (ap (λ (x : ReceiverView). x.credit) h.1)
step_less v m (credit.AsksFlowState told) g h = as_before m.credit v.credit (ap (λ (x : ReceiverView). x.credit) h.1)
step_less v m (credit.AsksCredit n) g h = as_before m.credit v.credit (ap (λ (x : ReceiverView). x.credit) h.1)
step_less v m (credit.AsksCount n) g h = as_before m.credit v.credit (ap (λ (x : ReceiverView). x.credit) h.1)
step_less v m (credit.AsksDraining answer) g h = as_before m.credit v.credit (ap (λ (x : ReceiverView). x.credit) h.1)

both : (a m b x y : ℕ) → m + x ≤ b → a + y ≤ m → a + (x + y) ≤ b
both a m b x y p q = omega (arith, p, q)

chain_less : (v w : ReceiverView) (cs : List ReceiverCall) → credit.has_granted cs ≡ false → Chain ReceiverStep v cs w → w.credit + all cs ≤ v.credit
chain_less v w [] g h = as_before w.credit v.credit (ap (λ (x : ReceiverView). x.credit) h)
chain_less v w (c ∷ cs) g h =
    both w.credit h.0.credit v.credit (one c) (all cs)
    (step_less v h.0 c (or_left (is_some (credit.grant_of c)) (credit.has_granted cs) g) h.1)
    (chain_less h.0 w cs (or_right (is_some (credit.grant_of c)) (credit.has_granted cs) g) h.2)

-- ---- the calls of a link, but for an Attach

in_attached : (life : Life) (cs : List ReceiverCall) → credit.has_granted cs ≡ false → credit.has_granted (if_attached life cs) ≡ false
in_attached Attached cs h = h
in_attached Attaching cs h = refl
in_attached Refused cs h = refl
in_attached Detaching cs h = refl
in_attached Detached cs h = refl

none_taken : (b : Bool) → credit.has_granted (if b then credit.Takes (Ok tt) ∷ [] else []) ≡ false
none_taken true = refl
none_taken false = refl

none_granted : (c : ReceivingCall) → is_some (granted_by c) ≡ false → credit.has_granted (credit_of c) ≡ false
none_granted (Attaches accepts n) h = refl
none_granted (Grants n (Some told)) h = absurd (true≢false h)
none_granted (Grants n None) h = refl
none_granted (Drains (Some told)) h = refl
none_granted (Drains None) h = refl
none_granted (Renews (Some told)) h = absurd (true≢false h)
none_granted (Renews None) h = refl
none_granted (Hears count echo (Ok used)) h = refl
none_granted (Hears count echo (Err f)) h = refl
none_granted (Answers (Some told)) h = refl
none_granted (Answers None) h = refl
none_granted (Takes head (Ok p)) h = none_taken p.is_first
none_granted (Takes head (Err (transfer.Fault fault.OverCredit))) h = refl
none_granted (Takes head (Err (transfer.Fault fault.CountPastLimit))) h = refl
none_granted (Takes head (Err (transfer.Fault (fault.Part e)))) h = refl
none_granted (Takes head (Err transfer.NotAttached)) h = refl
none_granted Detaches h = refl
none_granted (Ends told) h = refl
none_granted (AsksLife answer) h = refl
none_granted (AsksCredit n) h = refl
none_granted (AsksUnderWay answer) h = refl

made_less : (v m : ReceivingView) (c : ReceivingCall) → is_some (granted_by c) ≡ false → Made v m c →
    m.credit.credit + all (if_attached v.life (credit_of c)) ≤ v.credit.credit
made_less v m c g made =
    chain_less v.credit m.credit (if_attached v.life (credit_of c)) (in_attached v.life (credit_of c) (none_granted c g)) made.credit

abbrev Less : ReceivingView → ℕ → ReceivingView → Type 0
Less v n m = m.credit.credit + n ≤ v.credit.credit

no_more : (a b n : ℕ) → a + n ≤ b → a + 0 ≤ b
no_more a b n p = omega (arith, p)

quiet : (v m : ReceivingView) (c : ReceivingCall) → is_some (granted_by c) ≡ false → Made v m c → Less v 0 m
quiet v m c g made = no_more m.credit.credit v.credit.credit (all (if_attached v.life (credit_of c))) (made_less v m c g made)

taken_is : (b : Bool) → all (if b then credit.Takes (Ok tt) ∷ [] else []) ≡ (if b then 1 else 0)
taken_is true = refl
taken_is false = refl

told_less : (life : Life) (v m : ReceivingView) (head : PartHead) (p : Part) → v.life ≡ life → TakesIfAttached life v head (Ok p) m →
    Less v (told_by (Takes head (Ok p))) m
told_less Attached v m head p e h =
    subst (λ n. m.credit.credit + n ≤ v.credit.credit) (taken_is p.is_first)
    (subst (λ l. m.credit.credit + all (if_attached l (credit_of (Takes head (Ok p)))) ≤ v.credit.credit) e
    (made_less v m (Takes head (Ok p)) refl (takes Attached v m head (Ok p) e h)))
told_less Attaching v m head p e h = absurd (ok≢err h.0)
told_less Refused v m head p e h = absurd (ok≢err h.0)
told_less Detaching v m head p e h = absurd (ok≢err h.0)
told_less Detached v m head p e h = absurd (ok≢err h.0)

-- ---- an Attach

attach_less : (life : Life) (n : ℕ) (v : ReceivingView) → (with_count life n v).credit.credit + 0 ≤ v.credit.credit
attach_less Attaching n v = omega arith
attach_less Refused n v = as_before v.credit.credit v.credit.credit refl
attach_less Attached n v = as_before v.credit.credit v.credit.credit refl
attach_less Detaching n v = as_before v.credit.credit v.credit.credit refl
attach_less Detached n v = as_before v.credit.credit v.credit.credit refl

-- ---- each call

less : (v m : ReceivingView) (c : ReceivingCall) → is_some (granted_by c) ≡ false → ReceivingStep v c m → Less v (told_by c) m
less v m (Attaches accepts n) g h =
    subst (λ k. k + 0 ≤ v.credit.credit) (sym (ap (λ (x : ReceivingView). x.credit.credit) h.1)) (attach_less v.life n v)
less v m (Grants n answer) g h = quiet v m (Grants n answer) g (grants v.life v m n answer refl h)
less v m (Drains answer) g h = quiet v m (Drains answer) g (drains v.life v m answer refl h)
less v m (Renews answer) g h = quiet v m (Renews answer) g (renews v.life v m answer refl h)
less v m (Hears count echo answer) g h = quiet v m (Hears count echo answer) g (hears v.life v m count echo answer refl h)
less v m (Answers answer) g h = quiet v m (Answers answer) g (answers v.life v m answer refl h)
less v m (Takes head (Ok p)) g h = told_less v.life v m head p refl h
less v m (Takes head (Err e)) g h = quiet v m (Takes head (Err e)) g (takes v.life v m head (Err e) refl h)
less v m Detaches g h = quiet v m Detaches g (stands v m Detaches (having_detached v.life) h refl refl refl)
less v m (Ends told) g h = quiet v m (Ends told) g (stands v m (Ends told) Detached h.1 refl refl refl)
less v m (AsksLife answer) g h = quiet v m (AsksLife answer) g (stands v m (AsksLife answer) v.life h.1 refl refl refl)
less v m (AsksCredit n) g h = quiet v m (AsksCredit n) g (asks_credit v.life v m n refl h)
less v m (AsksUnderWay answer) g h = quiet v m (AsksUnderWay answer) g (asks_number v m answer h)

all_less : (v w : ReceivingView) (H : List ReceivingCall) → has_granted H ≡ false → Chain ReceivingStep v H w → Less v (told_in H) w
all_less v w [] g h = as_before w.credit.credit v.credit.credit (ap (λ (x : ReceivingView). x.credit.credit) h)
all_less v w (c ∷ cs) g h =
    both w.credit.credit h.0.credit.credit v.credit.credit (told_by c) (told_in cs)
    (less v h.0 c (or_left (is_some (granted_by c)) (has_granted cs) g) h.1)
    (all_less h.0 w cs (or_right (is_some (granted_by c)) (has_granted cs) g) h.2)

-- ---- a grant

grant_is : (life : Life) (v m : ReceivingView) (n : ℕ) (told : Grant) → IfAttached life (λ c t d. receiver.GrantStep c n t d) v (Some told) m →
    m.credit.credit ≡ n
grant_is Attached v m n told h = ap (λ (x : ReceiverView). x.credit) h.0.1
grant_is Attaching v m n told h = absurd (none≢some (sym h.0))
grant_is Refused v m n told h = absurd (none≢some (sym h.0))
grant_is Detaching v m n told h = absurd (none≢some (sym h.0))
grant_is Detached v m n told h = absurd (none≢some (sym h.0))

abbrev credit_or : ℕ → Option Grant → ℕ
credit_or n None = n
credit_or n (Some told) = told.link_credit

renewed_is : (n : Option ℕ) (v m : ReceiverView) (told : Grant) → renewed n v (Some told) m → m.credit ≡ told.link_credit
renewed_is None v m told h = absurd (none≢some (sym h.0))
renewed_is (Some k) v m told h = sym (ap (credit_or 0) h.0)

renewal_is : (life : Life) (v m : ReceivingView) (told : Grant) → RenewsIfAttached life v (Some told) m → m.credit.credit ≡ told.link_credit
renewal_is Attached v m told h = renewed_is (wanted v.credit) v.credit m.credit told h.0
renewal_is Attaching v m told h = absurd (none≢some (sym h.0))
renewal_is Refused v m told h = absurd (none≢some (sym h.0))
renewal_is Detaching v m told h = absurd (none≢some (sym h.0))
renewal_is Detached v m told h = absurd (none≢some (sym h.0))

abbrev some_or : ℕ → Option ℕ → ℕ
some_or n None = n
some_or n (Some k) = k

grants_so : (v m : ReceivingView) (c : ReceivingCall) (n : ℕ) → granted_by c ≡ Some n → ReceivingStep v c m → m.credit.credit ≡ n
grants_so v m (Grants k (Some told)) n e h = grant_is v.life v m k told h ∙ ap (some_or 0) e
grants_so v m (Renews (Some told)) n e h = renewal_is v.life v m told h ∙ ap (some_or 0) e
grants_so v m (Grants k None) n e h = absurd (none≢some e)
grants_so v m (Renews None) n e h = absurd (none≢some e)
grants_so v m (Attaches accepts k) n e h = absurd (none≢some e)
grants_so v m (Drains answer) n e h = absurd (none≢some e)
grants_so v m (Hears count echo answer) n e h = absurd (none≢some e)
grants_so v m (Answers answer) n e h = absurd (none≢some e)
grants_so v m (Takes head answer) n e h = absurd (none≢some e)
grants_so v m Detaches n e h = absurd (none≢some e)
grants_so v m (Ends told) n e h = absurd (none≢some e)
grants_so v m (AsksLife answer) n e h = absurd (none≢some e)
grants_so v m (AsksCredit k) n e h = absurd (none≢some e)
grants_so v m (AsksUnderWay answer) n e h = absurd (none≢some e)

-- ---- the law

-- the first calls of a chain lead somewhere
first_calls : (v w : ReceivingView) (a b : List ReceivingCall) → Chain ReceivingStep v (a ++ b) w → (m : ReceivingView) × Chain ReceivingStep v a m
first_calls v w [] b h = (v, refl)
first_calls v w (c ∷ a) b h = let r = first_calls h.0 w a b h.2 in (r.0, (h.0, h.1, r.1))

at_most : (a n k c : ℕ) → a + n ≤ c → c ≡ k → n ≤ k
at_most a n k c p e = omega (arith, p, e)

nothing : (a n : ℕ) → a + n ≤ 0 → n ≡ 0
nothing a n p = omega (arith, p)

pub told_within_grant : OfReceivings (λ renewal limit H v. ToldWithinGrant H)
told_within_grant renewal limit H v h before since after c n e says none =
    let s = split_of ReceivingStep (new_receiving renewal limit) v H before (since ++ after) c h e in
    let t = first_calls s.next v since after s.onward in
    at_most t.0.credit.credit (told_in since) n s.next.credit.credit (all_less s.next t.0 since none t.1) (grants_so s.at s.next c n says s.step)

pub none_told_before : OfReceivings (λ renewal limit H v. NoneToldBefore H)
none_told_before renewal limit H v h before after e none =
    let t = first_calls (new_receiving renewal limit) v before after (subst (λ xs. Chain ReceivingStep (new_receiving renewal limit) xs v) e h) in
    nothing t.0.credit.credit (told_in before) (all_less (new_receiving renewal limit) t.0 before none t.1)
