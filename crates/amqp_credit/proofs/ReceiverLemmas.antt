-- What a receiver's history says of its credit and of its count.
use Rattle.std.proofs.Common.{◌≡◌, ◌+◌, ◌-◌, ◌^◌, ◌<◌, ◌≤◌, ℕ, Bool, true, false, List, [], ◌∷◌, Option, Some}
use Rattle.std.proofs.Common.{None, Ok, Err, if◌then◌else◌, refl, sym, ap, ap₂, ◌∙◌, subst, arith, true≢false}
use Rattle.std.proofs.Common.{is_some, nat_le}
use Rattle.std.proofs.lemmas.Bool.Decides.{nat_tests}
use Rattle.std.proofs.lemmas.Grind.{common_steps}
use Rattle.amqp_credit.specs.declared.receiver.Grant.{Grant}
use Rattle.amqp_credit.specs.Serial.{advanced, past, is_behind}
use Rattle.amqp_credit.specs.Chain.{Chain}
use Rattle.amqp_credit.specs.Receiver.{ReceiverView, granted, told_by, taken_off, used_up, or_zero}
use Rattle.amqp_credit.specs.Receiver.{wanted, renewed}
use Rattle.amqp_credit.specs.ReceiverHistory.{ReceiverCall, ReceiverStep, takes, taken_in}
use Rattle.amqp_credit.specs.ReceiverHistory.{grant_of, has_granted, drains_after, is_draining_by}
use Rattle.amqp_credit.specs.ReceiverHistory.{Grants, Drains, Hears, Takes, Renews}
use Rattle.amqp_credit.specs.ReceiverHistory.{AsksWanted, AsksFlowState, AsksCredit, AsksCount, AsksDraining}
use Rattle.amqp_credit.proofs.ChainLemmas.{or_left, or_right}
use Rattle.amqp_credit.proofs.ChainLemmas.{advanced_small, advanced_none, advanced_twice}

-- ---- a call

abbrev Small : ReceiverView → Type 0
Small v = v.count < 2 ^ 32

-- a renewal is of what is wanted
pub of_renewal : (o : Option ℕ) (v m : ReceiverView) (told : Grant) → renewed o v (Some told) m →
    (o ≡ Some told.link_credit) × (m ≡ granted told.link_credit v) × (told ≡ told_by m)
of_renewal None v m told h = absurd cc
of_renewal (Some credit) v m told h = by told (some_is h.0)
  where
    some_is : {X : Type 0} {a b : X} → Some a ≡ Some b → a ≡ b
    some_is e = cc

    by : (told : Grant) → told ≡ told_by m → (Some credit ≡ Some told.link_credit) × (m ≡ granted told.link_credit v)
        × (told ≡ told_by m)
    by told e =
        let same = ap (λ (x : Grant). x.link_credit) e ∙ ap (λ (x : ReceiverView). x.credit) h.1 in
        (ap Some (sym same), subst (λ n. m ≡ granted n v) (sym same) h.1, e)

-- none is told where none is wanted
pub of_no_renewal : (o : Option ℕ) (v m : ReceiverView) → renewed o v None m → (o ≡ None) × (m ≡ v)
of_no_renewal None v m h = (refl, h.1)
of_no_renewal (Some credit) v m h = absurd cc

-- how many are gone, where a flow was taken or refused
pub of_heard : (v m : ReceiverView) (said : Option ℕ) (used : ℕ) → ReceiverStep v (Hears said (Ok used)) m →
    (Some used ≡ used_up v said) × (m ≡ taken_off used v)
of_heard v m said used h = (h.0, h.1 ∙ ap (λ o. taken_off (or_zero o) v) (sym h.0))

none_off : (v : ReceiverView) → Small v → taken_off 0 v ≡ v
none_off v p = ap₂ (λ n k. record v { count = n; credit = k }) (sym (advanced_none v.count p)) (less_none v.credit)
  where
    less_none : (n : ℕ) → n - 0 ≡ n
    less_none n = omega arith

pub of_refused : (v m : ReceiverView) (said : Option ℕ) (e : _) → Small v → ReceiverStep v (Hears said (Err e)) m →
    (None ≡ used_up v said) × (m ≡ v)
of_refused v m said e p h = (h.0, h.1 ∙ ap (λ o. taken_off (or_zero o) v) (sym h.0) ∙ none_off v p)

pub step_count : (v m : ReceiverView) (c : ReceiverCall) → Small v → ReceiverStep v c m →
    m.count ≡ advanced v.count (takes c)
step_count v m (Grants credit told) p h = ap (λ (x : ReceiverView). x.count) h.1 ∙ advanced_none v.count p
step_count v m (Drains told) p h = ap (λ (x : ReceiverView). x.count) h.1 ∙ advanced_none v.count p
step_count v m (Hears said (Ok used)) p h = ap (λ (x : ReceiverView). x.count) (of_heard v m said used h).1
step_count v m (Hears said (Err e)) p h =
    ap (λ (x : ReceiverView). x.count) (of_refused v m said e p h).1 ∙ advanced_none v.count p
step_count v m (Takes (Ok done)) p h = ap (λ (x : ReceiverView). x.count) h.1
step_count v m (Takes (Err refused)) p h = ap (λ (x : ReceiverView). x.count) h.1 ∙ advanced_none v.count p
step_count v m (Renews (Some told)) p h =
    ap (λ (x : ReceiverView). x.count) (of_renewal (wanted v) v m told h).1 ∙ advanced_none v.count p
step_count v m (Renews None) p h =
    ap (λ (x : ReceiverView). x.count) (of_no_renewal (wanted v) v m h).1 ∙ advanced_none v.count p
step_count v m (AsksWanted answer) p h = ap (λ (x : ReceiverView). x.count) h.1 ∙ advanced_none v.count p
step_count v m (AsksFlowState told) p h = ap (λ (x : ReceiverView). x.count) h.1 ∙ advanced_none v.count p
step_count v m (AsksCredit n) p h = ap (λ (x : ReceiverView). x.count) h.1 ∙ advanced_none v.count p
step_count v m (AsksCount n) p h = ap (λ (x : ReceiverView). x.count) h.1 ∙ advanced_none v.count p
step_count v m (AsksDraining answer) p h = ap (λ (x : ReceiverView). x.count) h.1 ∙ advanced_none v.count p

pub stays_small : (v m : ReceiverView) (c : ReceiverCall) → Small v → ReceiverStep v c m → Small m
stays_small v m c p h = subst (λ n. n < 2 ^ 32) (sym (step_count v m c p h)) (advanced_small v.count (takes c))

pub step_draining : (v m : ReceiverView) (c : ReceiverCall) → Small v → ReceiverStep v c m →
    m.draining ≡ drains_after v.draining c
step_draining v m (Grants credit told) p h = ap (λ (x : ReceiverView). x.draining) h.1
step_draining v m (Drains told) p h = ap (λ (x : ReceiverView). x.draining) h.1
step_draining v m (Hears said (Ok used)) p h = ap (λ (x : ReceiverView). x.draining) h.1
step_draining v m (Hears said (Err e)) p h = ap (λ (x : ReceiverView). x.draining) h.1
step_draining v m (Takes (Ok done)) p h = ap (λ (x : ReceiverView). x.draining) h.1
step_draining v m (Takes (Err refused)) p h = ap (λ (x : ReceiverView). x.draining) h.1
step_draining v m (Renews (Some told)) p h =
    ap (λ (x : ReceiverView). x.draining) (of_renewal (wanted v) v m told h).1
step_draining v m (Renews None) p h = ap (λ (x : ReceiverView). x.draining) (of_no_renewal (wanted v) v m h).1
step_draining v m (AsksWanted answer) p h = ap (λ (x : ReceiverView). x.draining) h.1
step_draining v m (AsksFlowState told) p h = ap (λ (x : ReceiverView). x.draining) h.1
step_draining v m (AsksCredit n) p h = ap (λ (x : ReceiverView). x.draining) h.1
step_draining v m (AsksCount n) p h = ap (λ (x : ReceiverView). x.draining) h.1
step_draining v m (AsksDraining answer) p h = ap (λ (x : ReceiverView). x.draining) h.1

step_renewal : (v m : ReceiverView) (c : ReceiverCall) → ReceiverStep v c m → m.renewal ≡ v.renewal
step_renewal v m (Grants credit told) h = ap (λ (x : ReceiverView). x.renewal) h.1
step_renewal v m (Drains told) h = ap (λ (x : ReceiverView). x.renewal) h.1
step_renewal v m (Hears said (Ok used)) h = ap (λ (x : ReceiverView). x.renewal) h.1
step_renewal v m (Hears said (Err e)) h = ap (λ (x : ReceiverView). x.renewal) h.1
step_renewal v m (Takes (Ok done)) h = ap (λ (x : ReceiverView). x.renewal) h.1
step_renewal v m (Takes (Err refused)) h = ap (λ (x : ReceiverView). x.renewal) h.1
step_renewal v m (Renews (Some told)) h = ap (λ (x : ReceiverView). x.renewal) (of_renewal (wanted v) v m told h).1
step_renewal v m (Renews None) h = ap (λ (x : ReceiverView). x.renewal) (of_no_renewal (wanted v) v m h).1
step_renewal v m (AsksWanted answer) h = ap (λ (x : ReceiverView). x.renewal) h.1
step_renewal v m (AsksFlowState told) h = ap (λ (x : ReceiverView). x.renewal) h.1
step_renewal v m (AsksCredit n) h = ap (λ (x : ReceiverView). x.renewal) h.1
step_renewal v m (AsksCount n) h = ap (λ (x : ReceiverView). x.renewal) h.1
step_renewal v m (AsksDraining answer) h = ap (λ (x : ReceiverView). x.renewal) h.1

-- ---- a chain of them

-- what a view is after these calls, from another one
pub record Stands (v : ReceiverView) (cs : List ReceiverCall) (w : ReceiverView) : Type 0 where
  pub small : Small w
  pub count_is : w.count ≡ advanced v.count (taken_in cs)
  pub draining_is : w.draining ≡ is_draining_by v.draining cs
  pub renewal_is : w.renewal ≡ v.renewal

pub stands : (v w : ReceiverView) (cs : List ReceiverCall) → Small v → Chain ReceiverStep v cs w → Stands v cs w
stands v w [] p h = record {
  small = subst Small (sym h) p;
  count_is = ap (λ (x : ReceiverView). x.count) h ∙ advanced_none v.count p;
  draining_is = ap (λ (x : ReceiverView). x.draining) h;
  renewal_is = ap (λ (x : ReceiverView). x.renewal) h;
}
stands v w (c ∷ cs) p h =
    let rest = stands h.0 w cs (stays_small v h.0 c p h.1) h.2 in record {
      small = rest.small;
      count_is = rest.count_is ∙ ap (λ n. advanced n (taken_in cs)) (step_count v h.0 c p h.1)
          ∙ advanced_twice v.count (takes c) (taken_in cs);
      draining_is = rest.draining_is ∙ ap (λ b. is_draining_by b cs) (step_draining v h.0 c p h.1);
      renewal_is = rest.renewal_is ∙ step_renewal v h.0 c h.1;
    }

-- so many were taken between two views, and no more than there were
pub record Less (v : ReceiverView) (n : ℕ) (w : ReceiverView) : Type 0 where
  pub within : n ≤ v.credit
  pub credit_is : w.credit ≡ v.credit - n

less_none : (n : ℕ) → n ≡ n - 0
less_none n = omega arith

same : (v w : ReceiverView) → w ≡ v → Less v 0 w
same v w e = record {
  within = omega arith;
  credit_is = ap (λ (x : ReceiverView). x.credit) e ∙ less_none v.credit;
}

within_used : (v : ReceiverView) (said : Option ℕ) (used : ℕ) → Some used ≡ used_up v said → used ≤ v.credit
within_used v None used e = grind (arith, nat_tests, common_steps)
within_used v (Some n) used e = by (nat_le (past n v.count) v.credit) (is_behind n v.count) refl e
  where
    by : (b d : Bool) → nat_le (past n v.count) v.credit ≡ b →
        Some used ≡ (if b then Some (past n v.count) else (if d then Some 0 else None)) → used ≤ v.credit
    by true d f e = grind (arith, nat_tests, common_steps)
    by false true f e = grind (arith, nat_tests, common_steps)
    by false false f e = absurd cc

step_less : (v m : ReceiverView) (c : ReceiverCall) → Small v → is_some (grant_of c) ≡ false → ReceiverStep v c m →
    Less v (takes c) m
step_less v m (Grants credit told) p g h = absurd (true≢false g)
step_less v m (Drains told) p g h =
    record { within = omega arith; credit_is = ap (λ (x : ReceiverView). x.credit) h.1 ∙ less_none v.credit }
step_less v m (Hears said (Ok used)) p g h = record {
  within = within_used v said used (of_heard v m said used h).0;
  credit_is = ap (λ (x : ReceiverView). x.credit) (of_heard v m said used h).1;
}
step_less v m (Hears said (Err e)) p g h = same v m (of_refused v m said e p h).1
step_less v m (Takes (Ok done)) p g h = record { within = h.0; credit_is = ap (λ (x : ReceiverView). x.credit) h.1 }
step_less v m (Takes (Err refused)) p g h = same v m h.1
step_less v m (Renews (Some told)) p g h = absurd (true≢false g)
step_less v m (Renews None) p g h = same v m (of_no_renewal (wanted v) v m h).1
step_less v m (AsksWanted answer) p g h = same v m h.1
step_less v m (AsksFlowState told) p g h = same v m h.1
step_less v m (AsksCredit n) p g h = same v m h.1
step_less v m (AsksCount n) p g h = same v m h.1
step_less v m (AsksDraining answer) p g h = same v m h.1

both_within : (a b k n : ℕ) → n ≤ k → b ≤ a → a ≡ k - n → n + b ≤ k
both_within a b k n p q e = omega (arith, p, q, e)

both_less : (a b c k n : ℕ) → a ≡ k - n → c ≡ a - b → c ≡ k - (n + b)
both_less a b c k n e f = omega (arith, e, f)

pub chain_less : (v w : ReceiverView) (cs : List ReceiverCall) → Small v → has_granted cs ≡ false →
    Chain ReceiverStep v cs w → Less v (taken_in cs) w
chain_less v w [] p g h = same v w h
chain_less v w (c ∷ cs) p g h =
    let first = step_less v h.0 c p (or_left (is_some (grant_of c)) (has_granted cs) g) h.1 in
    let small = stays_small v h.0 c p h.1 in
    let others = chain_less h.0 w cs small (or_right (is_some (grant_of c)) (has_granted cs) g) h.2 in record {
      within = both_within h.0.credit (taken_in cs) v.credit (takes c) first.within others.within first.credit_is;
      credit_is = both_less h.0.credit (taken_in cs) w.credit v.credit (takes c) first.credit_is others.credit_is;
    }

-- the credit after a grant
pub step_grants : (v m : ReceiverView) (c : ReceiverCall) (credit : ℕ) → grant_of c ≡ Some credit → ReceiverStep v c m →
    m.credit ≡ credit
step_grants v m (Grants granted told) credit e h = ap (λ (x : ReceiverView). x.credit) h.1 ∙ cc
step_grants v m (Drains told) credit e h = absurd cc
step_grants v m (Hears said answer) credit e h = absurd cc
step_grants v m (Takes answer) credit e h = absurd cc
step_grants v m (Renews (Some told)) credit e h =
    ap (λ (x : ReceiverView). x.credit) (of_renewal (wanted v) v m told h).1 ∙ cc
step_grants v m (Renews None) credit e h = absurd cc
step_grants v m (AsksWanted answer) credit e h = absurd cc
step_grants v m (AsksFlowState told) credit e h = absurd cc
step_grants v m (AsksCredit n) credit e h = absurd cc
step_grants v m (AsksCount n) credit e h = absurd cc
step_grants v m (AsksDraining answer) credit e h = absurd cc
