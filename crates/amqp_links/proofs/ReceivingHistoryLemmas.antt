-- What a receiving end's history says of its life, of the parts that it tells, and of its credit.
use Rattle.std.proofs.Common.{◌≡◌, ◌^◌, ◌<◌, ℕ, Bool, true, false, List, [], ◌∷◌, ◌++◌, Option}
use Rattle.std.proofs.Common.{Ok, Err, refl, sym, ap, ap₂, ◌∙◌, subst, arith, true≢false}
use Rattle.amqp_credit.specs.Chain.{Chain}
use Rattle.amqp_credit.specs.AssemblyHistory.{AssemblyStep}
use Rattle.amqp_credit.specs.Receiver.{new_receiver}
use Rattle.amqp_credit.specs.ReceiverHistory.{ReceiverCall, ReceiverStep}
use Rattle.amqp_credit.specs.declared.part.Part.{Part}
use Rattle.amqp_credit.specs.declared.part.PartHead.{PartHead}
use Rattle.amqp_credit.specs.declared.receiver.Renewal.{Renewal}
use Rattle.amqp_credit.proofs.ChainLemmas.{joined, split_of}
use Rattle.amqp_links.specs.declared.life.Life.{Life}
use Rattle.amqp_links.specs.declared.life.Life.TheVariants.{Attaching, Refused, Attached, Detaching, Detached}
use Rattle.amqp_links.specs.declared.receiving.TransferError.TheVariants as transfer
use Rattle.amqp_links.specs.Life.{having_attached, having_detached}
use Rattle.amqp_links.specs.Receiving.{ReceivingView, new_receiving, with_count}
use Rattle.amqp_links.specs.Receiving.{TakesIfAttached}
use Rattle.amqp_links.specs.ReceivingHistory.{ReceivingCall, ReceivingStep, ReceivingLeadsTo, OfReceivings, life_after, life_by, parts_of, parts_by}
use Rattle.amqp_links.specs.ReceivingHistory.{IsAssemblyOf, credit_of, if_attached, credit_by, begins_with, begun_by, IsCreditOf, StandsBy}
use Rattle.amqp_links.specs.ReceivingHistory.{WhereTold, ToldWhereAttached}
use Rattle.amqp_links.specs.ReceivingHistory.{Attaches, Grants, Drains, Renews, Hears, Answers, Takes, Detaches, Ends, AsksLife, AsksCredit, AsksUnderWay}
use Rattle.amqp_links.proofs.ReceivingLemmas.{ok≢err, grants, drains, renews, hears, answers, takes, stands, asks_credit, asks_number, Made}

-- ---- the credit since the link was attached

abbrev early : Life → Bool
early Attaching = true
early Refused = false
early Attached = false
early Detaching = false
early Detached = false

-- these calls led here from this count, and there are none before the Attach
pub record Here (s : ℕ) (done : List ReceiverCall) (v : ReceivingView) : Type 0 where
  pub small : s < 2 ^ 32
  pub leads : Chain ReceiverStep (new_receiver s v.renewal) done v.credit
  pub none : early v.life ≡ true → done ≡ []

-- what a call makes of all that
pub record Goes (s : ℕ) (done : List ReceiverCall) (v m : ReceivingView) (c : ReceivingCall) : Type 0 where
  pub here : Here (begins_with v.life c s) (done ++ if_attached v.life (credit_of c)) m
  pub parts : Chain AssemblyStep v.parts (parts_of c) m.parts
  pub life : m.life ≡ life_after c v.life
  pub rule : m.renewal ≡ v.renewal

-- an end that is not attaching any more never is again, and while it is nothing counts
begins_same : (life : Life) (c : ReceivingCall) (s : ℕ) → early (life_after c life) ≡ true → early life ≡ true
begins_same Attaching c s h = refl
begins_same Refused (Attaches true n) s h = h
begins_same Refused (Attaches false n) s h = h
begins_same Refused (Grants n answer) s h = h
begins_same Refused (Drains answer) s h = h
begins_same Refused (Renews answer) s h = h
begins_same Refused (Hears count echo (Ok n)) s h = h
begins_same Refused (Hears count echo (Err f)) s h = h
begins_same Refused (Answers answer) s h = h
begins_same Refused (Takes head (Ok p)) s h = h
begins_same Refused (Takes head (Err (transfer.Fault f))) s h = h
begins_same Refused (Takes head (Err transfer.NotAttached)) s h = h
begins_same Refused Detaches s h = h
begins_same Refused (Ends told) s h = h
begins_same Refused (AsksLife answer) s h = h
begins_same Refused (AsksCredit n) s h = h
begins_same Refused (AsksUnderWay answer) s h = h
begins_same Attached (Attaches true n) s h = h
begins_same Attached (Attaches false n) s h = h
begins_same Attached (Grants n answer) s h = h
begins_same Attached (Drains answer) s h = h
begins_same Attached (Renews answer) s h = h
begins_same Attached (Hears count echo (Ok n)) s h = h
begins_same Attached (Hears count echo (Err f)) s h = h
begins_same Attached (Answers answer) s h = h
begins_same Attached (Takes head (Ok p)) s h = h
begins_same Attached (Takes head (Err (transfer.Fault f))) s h = h
begins_same Attached (Takes head (Err transfer.NotAttached)) s h = h
begins_same Attached Detaches s h = h
begins_same Attached (Ends told) s h = h
begins_same Attached (AsksLife answer) s h = h
begins_same Attached (AsksCredit n) s h = h
begins_same Attached (AsksUnderWay answer) s h = h
begins_same Detaching (Attaches true n) s h = h
begins_same Detaching (Attaches false n) s h = h
begins_same Detaching (Grants n answer) s h = h
begins_same Detaching (Drains answer) s h = h
begins_same Detaching (Renews answer) s h = h
begins_same Detaching (Hears count echo (Ok n)) s h = h
begins_same Detaching (Hears count echo (Err f)) s h = h
begins_same Detaching (Answers answer) s h = h
begins_same Detaching (Takes head (Ok p)) s h = h
begins_same Detaching (Takes head (Err (transfer.Fault f))) s h = h
begins_same Detaching (Takes head (Err transfer.NotAttached)) s h = h
begins_same Detaching Detaches s h = h
begins_same Detaching (Ends told) s h = h
begins_same Detaching (AsksLife answer) s h = h
begins_same Detaching (AsksCredit n) s h = h
begins_same Detaching (AsksUnderWay answer) s h = h
begins_same Detached (Attaches true n) s h = h
begins_same Detached (Attaches false n) s h = h
begins_same Detached (Grants n answer) s h = h
begins_same Detached (Drains answer) s h = h
begins_same Detached (Renews answer) s h = h
begins_same Detached (Hears count echo (Ok n)) s h = h
begins_same Detached (Hears count echo (Err f)) s h = h
begins_same Detached (Answers answer) s h = h
begins_same Detached (Takes head (Ok p)) s h = h
begins_same Detached (Takes head (Err (transfer.Fault f))) s h = h
begins_same Detached (Takes head (Err transfer.NotAttached)) s h = h
begins_same Detached Detaches s h = h
begins_same Detached (Ends told) s h = h
begins_same Detached (AsksLife answer) s h = h
begins_same Detached (AsksCredit n) s h = h
begins_same Detached (AsksUnderWay answer) s h = h

-- while a link is attaching nothing counts
early_none : (life : Life) (cs : List ReceiverCall) → early life ≡ true → if_attached life cs ≡ []
early_none Attaching cs h = refl
early_none Refused cs h = refl
early_none Attached cs h = absurd (true≢false (sym h))
early_none Detaching cs h = refl
early_none Detached cs h = refl

-- a call that is no Attach goes on from the same count
goes : (s : ℕ) (done : List ReceiverCall) (v m : ReceivingView) (c : ReceivingCall) → Here s done v → Made v m c → begins_with v.life c s ≡ s →
    Goes s done v m c
goes s done v m c here made same = record {
  here = record {
    small = subst (λ n. n < 2 ^ 32) (sym same) here.small;
    leads = subst (λ n. Chain ReceiverStep (new_receiver n m.renewal) (done ++ if_attached v.life (credit_of c)) m.credit) (sym same)
        (subst (λ r. Chain ReceiverStep (new_receiver s r) (done ++ if_attached v.life (credit_of c)) m.credit) (sym made.rule)
        (joined ReceiverStep (new_receiver s v.renewal) v.credit m.credit done (if_attached v.life (credit_of c)) here.leads made.credit));
    none = λ e. let was = begins_same v.life c s (ap early (sym made.life) ∙ e) in
        ap₂ (λ xs ys. xs ++ ys) (here.none was) (early_none v.life (credit_of c) was);
  };
  parts = made.parts;
  life = made.life;
  rule = made.rule;
}

abbrev is_attach : ReceivingCall → Bool
is_attach (Attaches accepts n) = true
is_attach c = false

begins_not : (life : Life) (s : ℕ) (c : ReceivingCall) → is_attach c ≡ false → begins_with life c s ≡ s
begins_not Attaching s (Attaches accepts n) h = absurd (true≢false h)
begins_not Attaching s (Grants n answer) h = refl
begins_not Attaching s (Drains answer) h = refl
begins_not Attaching s (Renews answer) h = refl
begins_not Attaching s (Hears count echo answer) h = refl
begins_not Attaching s (Answers answer) h = refl
begins_not Attaching s (Takes head answer) h = refl
begins_not Attaching s Detaches h = refl
begins_not Attaching s (Ends told) h = refl
begins_not Attaching s (AsksLife answer) h = refl
begins_not Attaching s (AsksCredit n) h = refl
begins_not Attaching s (AsksUnderWay answer) h = refl
begins_not Refused s c h = refl
begins_not Attached s c h = refl
begins_not Detaching s c h = refl
begins_not Detached s c h = refl

not_early : (accepts : Bool) → early (having_attached accepts Attaching) ≡ true → ⊥
not_early true e = true≢false (sym e)
not_early false e = true≢false (sym e)

-- a second one changes nothing
again : (life : Life) (accepts : Bool) → early life ≡ false → having_attached accepts life ≡ life
again Attaching accepts h = absurd (true≢false h)
again Refused true h = refl
again Refused false h = refl
again Attached true h = refl
again Attached false h = refl
again Detaching true h = refl
again Detaching false h = refl
again Detached true h = refl
again Detached false h = refl

late_begins : (life : Life) (s n : ℕ) (accepts : Bool) → early life ≡ false → begins_with life (Attaches accepts n) s ≡ s
late_begins Attaching s n accepts h = absurd (true≢false h)
late_begins Refused s n accepts h = refl
late_begins Attached s n accepts h = refl
late_begins Detaching s n accepts h = refl
late_begins Detached s n accepts h = refl

attached_again : (s n : ℕ) (done : List ReceiverCall) (v m : ReceivingView) (accepts : Bool) → Here s done v → early v.life ≡ false →
    m ≡ record v { life = having_attached accepts v.life } → Goes s done v m (Attaches accepts n)
attached_again s n done v m accepts here late e =
    goes s done v m (Attaches accepts n) here (stands v m (Attaches accepts n) (having_attached accepts v.life) e refl refl refl)
    (late_begins v.life s n accepts late)

begun_anew : (n : ℕ) (v m : ReceivingView) (accepts : Bool) →
    m ≡ record (with_count Attaching n v) { life = having_attached accepts Attaching } → m.credit ≡ new_receiver n m.renewal
begun_anew n v m accepts e =
    ap (λ (x : ReceivingView). x.credit) e ∙ ap (λ r. new_receiver n r) (sym (ap (λ (x : ReceivingView). x.renewal) e))

-- the Attach itself
attaches : (life : Life) (s n : ℕ) (done : List ReceiverCall) (v m : ReceivingView) (accepts : Bool) → v.life ≡ life → Here s done v → n < 2 ^ 32 →
    m ≡ record (with_count life n v) { life = having_attached accepts life } → Goes s done v m (Attaches accepts n)
attaches Attaching s n done v m accepts h here small e =
    let nothing = here.none (ap early h) in record {
      here = record {
        small = subst (λ l. begins_with l (Attaches accepts n) s < 2 ^ 32) (sym h) small;
        leads = subst (λ l. Chain ReceiverStep (new_receiver (begins_with l (Attaches accepts n) s) m.renewal) (done ++ if_attached l []) m.credit)
            (sym h) (subst (λ cs. Chain ReceiverStep (new_receiver n m.renewal) (cs ++ []) m.credit) (sym nothing) (begun_anew n v m accepts e));
        none = λ f. absurd (not_early accepts (ap early (sym (ap (λ (x : ReceivingView). x.life) e)) ∙ f));
      };
      parts = ap (λ (x : ReceivingView). x.parts) e;
      life = ap (λ (x : ReceivingView). x.life) e ∙ ap (having_attached accepts) (sym h);
      rule = ap (λ (x : ReceivingView). x.renewal) e;
    }
attaches Refused s n done v m accepts h here small e =
    attached_again s n done v m accepts here (ap early h) (e ∙ ap (λ l. record v { life = having_attached accepts l }) (sym h))
attaches Attached s n done v m accepts h here small e =
    attached_again s n done v m accepts here (ap early h) (e ∙ ap (λ l. record v { life = having_attached accepts l }) (sym h))
attaches Detaching s n done v m accepts h here small e =
    attached_again s n done v m accepts here (ap early h) (e ∙ ap (λ l. record v { life = having_attached accepts l }) (sym h))
attaches Detached s n done v m accepts h here small e =
    attached_again s n done v m accepts here (ap early h) (e ∙ ap (λ l. record v { life = having_attached accepts l }) (sym h))

called : (s : ℕ) (done : List ReceiverCall) (v m : ReceivingView) (c : ReceivingCall) → Here s done v → Made v m c → is_attach c ≡ false → Goes s done v m c
called s done v m c here made h = goes s done v m c here made (begins_not v.life s c h)

step : (s : ℕ) (done : List ReceiverCall) (v m : ReceivingView) (c : ReceivingCall) → Here s done v → ReceivingStep v c m → Goes s done v m c
step s done v m (Attaches accepts n) here h = attaches v.life s n done v m accepts refl here h.0 h.1
step s done v m (Grants n answer) here h = called s done v m (Grants n answer) here (grants v.life v m n answer refl h) refl
step s done v m (Drains answer) here h = called s done v m (Drains answer) here (drains v.life v m answer refl h) refl
step s done v m (Renews answer) here h = called s done v m (Renews answer) here (renews v.life v m answer refl h) refl
step s done v m (Hears count echo answer) here h =
    called s done v m (Hears count echo answer) here (hears v.life v m count echo answer refl h) refl
step s done v m (Answers answer) here h = called s done v m (Answers answer) here (answers v.life v m answer refl h) refl
step s done v m (Takes head answer) here h = called s done v m (Takes head answer) here (takes v.life v m head answer refl h) refl
step s done v m Detaches here h =
    called s done v m Detaches here (stands v m Detaches (having_detached v.life) h refl refl refl) refl
step s done v m (Ends told) here h = called s done v m (Ends told) here (stands v m (Ends told) Detached h.1 refl refl refl) refl
step s done v m (AsksLife answer) here h =
    called s done v m (AsksLife answer) here (stands v m (AsksLife answer) v.life h.1 refl refl refl) refl
step s done v m (AsksCredit n) here h = called s done v m (AsksCredit n) here (asks_credit v.life v m n refl h) refl
step s done v m (AsksUnderWay answer) here h = called s done v m (AsksUnderWay answer) here (asks_number v m answer h) refl

-- ---- a chain of calls

append_twice : (a b c : List ReceiverCall) → (a ++ b) ++ c ≡ a ++ (b ++ c)
append_twice [] b c = refl
append_twice (x ∷ a) b c = ap (λ xs. x ∷ xs) (append_twice a b c)

append_none : (a : List ReceiverCall) → a ++ [] ≡ a
append_none [] = refl
append_none (x ∷ a) = ap (λ xs. x ∷ xs) (append_none a)

pub record GoesBy (s : ℕ) (done : List ReceiverCall) (v w : ReceivingView) (H : List ReceivingCall) : Type 0 where
  pub small : begun_by v.life s H < 2 ^ 32
  pub leads : Chain ReceiverStep (new_receiver (begun_by v.life s H) v.renewal) (done ++ credit_by v.life H) w.credit
  pub parts : Chain AssemblyStep v.parts (parts_by H) w.parts
  pub life : w.life ≡ life_by v.life H

at_end : (s : ℕ) (done : List ReceiverCall) (v w : ReceivingView) → Here s done v → w ≡ v → GoesBy s done v w []
at_end s done v w here e = record {
  small = here.small;
  leads = subst (λ cs. Chain ReceiverStep (new_receiver s v.renewal) cs w.credit) (sym (append_none done))
      (subst (λ (x : ReceivingView). Chain ReceiverStep (new_receiver s v.renewal) done x.credit) (sym e) here.leads);
  parts = ap (λ (x : ReceivingView). x.parts) e;
  life = ap (λ (x : ReceivingView). x.life) e;
}

go_on : (s : ℕ) (done : List ReceiverCall) (v m w : ReceivingView) (c : ReceivingCall) (cs : List ReceivingCall) → Goes s done v m c →
    GoesBy (begins_with v.life c s) (done ++ if_attached v.life (credit_of c)) m w cs → GoesBy s done v w (c ∷ cs)
go_on s done v m w c cs g r = record {
  small = subst (λ l. begun_by l (begins_with v.life c s) cs < 2 ^ 32) g.life r.small;
  leads = subst (λ xs. Chain ReceiverStep (new_receiver (begun_by v.life s (c ∷ cs)) v.renewal) xs w.credit)
      (append_twice done (if_attached v.life (credit_of c)) (credit_by (life_after c v.life) cs))
      (subst (λ q. Chain ReceiverStep (new_receiver (begun_by v.life s (c ∷ cs)) q)
      ((done ++ if_attached v.life (credit_of c)) ++ credit_by (life_after c v.life) cs) w.credit) g.rule
      (subst (λ l. Chain ReceiverStep (new_receiver (begun_by l (begins_with v.life c s) cs) m.renewal)
      ((done ++ if_attached v.life (credit_of c)) ++ credit_by l cs) w.credit) g.life r.leads));
  parts = joined AssemblyStep v.parts m.parts w.parts (parts_of c) (parts_by cs) g.parts r.parts;
  life = r.life ∙ ap (λ l. life_by l cs) g.life;
}

pub goes_by : (s : ℕ) (done : List ReceiverCall) (v w : ReceivingView) (H : List ReceivingCall) → Here s done v → Chain ReceivingStep v H w →
    GoesBy s done v w H
goes_by s done v w [] here h = at_end s done v w here h
goes_by s done v w (c ∷ cs) here h =
    let g = step s done v h.0 c here h.1 in
    go_on s done v h.0 w c cs g (goes_by (begins_with v.life c s) (done ++ if_attached v.life (credit_of c)) h.0 w cs g.here h.2)

-- ---- the law

from_new : (renewal : Option Renewal) (limit : Option ℕ) (w : ReceivingView) (H : List ReceivingCall) → ReceivingLeadsTo renewal limit H w →
    GoesBy 0 [] (new_receiving renewal limit) w H
from_new renewal limit w H h =
    goes_by 0 [] (new_receiving renewal limit) w H (record { small = omega arith; leads = refl; none = λ e. refl }) h

pub stands_by : OfReceivings (λ renewal limit H v. StandsBy H v)
stands_by renewal limit H v h = (from_new renewal limit v H h).life

pub is_assembly_of : OfReceivings (λ renewal limit H v. IsAssemblyOf limit H v)
is_assembly_of renewal limit H v h = (from_new renewal limit v H h).parts

pub is_credit_of : OfReceivings (λ renewal limit H v. IsCreditOf renewal H v)
is_credit_of renewal limit H v h = let g = from_new renewal limit v H h in (g.small, g.leads)

attached_told : (life : Life) (v m : ReceivingView) (head : PartHead) (p : Part) → TakesIfAttached life v head (Ok p) m → life ≡ Attached
attached_told Attached v m head p h = refl
attached_told Attaching v m head p h = absurd (ok≢err h.0)
attached_told Refused v m head p h = absurd (ok≢err h.0)
attached_told Detaching v m head p h = absurd (ok≢err h.0)
attached_told Detached v m head p h = absurd (ok≢err h.0)

where_told : (v m : ReceivingView) (c : ReceivingCall) (life : Life) → v.life ≡ life → ReceivingStep v c m → WhereTold c (life ≡ Attached)
where_told v m (Takes head (Ok p)) life e h = sym e ∙ attached_told v.life v m head p h
where_told v m (Takes head (Err error)) life e h = tt
where_told v m (Attaches accepts n) life e h = tt
where_told v m (Grants n answer) life e h = tt
where_told v m (Drains answer) life e h = tt
where_told v m (Renews answer) life e h = tt
where_told v m (Hears count echo answer) life e h = tt
where_told v m (Answers answer) life e h = tt
where_told v m Detaches life e h = tt
where_told v m (Ends told) life e h = tt
where_told v m (AsksLife answer) life e h = tt
where_told v m (AsksCredit n) life e h = tt
where_told v m (AsksUnderWay answer) life e h = tt

pub told_where_attached : OfReceivings (λ renewal limit H v. ToldWhereAttached H)
told_where_attached renewal limit H v h before after c e =
    let s = split_of ReceivingStep (new_receiving renewal limit) v H before after c h e in
    where_told s.at s.next c (life_by Attaching before) (from_new renewal limit s.at before s.reached).life s.step
