-- What a receiver answers since a grant, by its history.
use Rattle.std.proofs.Common.{◌≡◌, ◌-◌, ◌^◌, ◌<◌, ◌≤◌, ℕ, Bool, true, false, List, ◌∷◌, ◌++◌, Option, Some}
use Rattle.std.proofs.Common.{None, Ok, Err, if◌then◌else◌, refl, sym, ap, ap₂, ◌∙◌, subst, arith}
use Rattle.std.proofs.Common.{min, nat_le, nat_lt, inl, inr}
use Rattle.std.proofs.lemmas.Bool.Decides.{nat_tests}
use Rattle.std.proofs.lemmas.Grind.{common_steps}
use Rattle.amqp_credit.specs.declared.receiver.Renewal.{Renewal}
use Rattle.amqp_credit.specs.declared.receiver.Grant.{Grant}
use Rattle.amqp_credit.specs.Serial.{past, is_behind}
use Rattle.amqp_credit.specs.Receiver.{ReceiverView, new_receiver, granted, told_by, used_up, by_rule, wanted}
use Rattle.amqp_credit.specs.ReceiverHistory.{ReceiverCall, ReceiverStep, ReceiverLeadsTo, OfReceivers, taken_in}
use Rattle.amqp_credit.specs.ReceiverHistory.{count_after, is_draining_by}
use Rattle.amqp_credit.specs.ReceiverHistory.{Grants, Drains, Hears, Takes, Renews}
use Rattle.amqp_credit.specs.ReceiverHistory.{AsksWanted, AsksFlowState, AsksCredit, AsksCount, AsksDraining}
use Rattle.amqp_credit.specs.ReceiverLaws.{SinceGrant, BeforeGrants, IsTaken, TakenWithinGrant, UsedBy, IsPastLimit}
use Rattle.amqp_credit.specs.ReceiverLaws.{AnswersBy, AnswersByHistory, TellsBy, CountIsExact, wanted_by, RenewsBy}
use Rattle.amqp_credit.specs.ReceiverLaws.{RenewsByRule, Allows, RenewsOnly, RenewedBelowLow, RenewedOnce}
use Rattle.amqp_credit.proofs.ChainLemmas.{split_of, joined}
use Rattle.amqp_credit.proofs.ReceiverLemmas.{Stands, stands, chain_less, step_grants, of_renewal, of_no_renewal}
use Rattle.amqp_credit.proofs.ReceiverLemmas.{of_heard, of_refused, stays_small}

-- a view at which a call is made, after these calls: so many were taken of what was granted
pub record At (initial : ℕ) (renewal : Option Renewal) (all : List ReceiverCall) (granted taken : ℕ)
    (c : ReceiverCall) : Type 0 where
  pub at : ReceiverView
  pub next : ReceiverView
  pub step : ReceiverStep at c next
  pub known : Stands (new_receiver initial renewal) all at
  pub within : taken ≤ granted
  pub credit_is : at.credit ≡ granted - taken

pub since_grant : (initial : ℕ) (renewal : Option Renewal) (H : List ReceiverCall) (v : ReceiverView) →
    ReceiverLeadsTo initial renewal H v →
    SinceGrant H (λ all credit since c. At initial renewal all credit (taken_in since) c)
since_grant initial renewal H v h before since after grant c credit e gives g =
    let new = new_receiver initial renewal in
    let s = split_of ReceiverStep new v H before (since ++ c ∷ after) grant h.1 e in
    let t = split_of ReceiverStep s.next v (since ++ c ∷ after) since after c s.onward refl in
    let begun = stands new s.at before h.0 s.reached in
    let given = step_grants s.at s.next grant credit gives s.step in
    let less = chain_less s.next t.at since (stays_small s.at s.next grant begun.small s.step) g t.reached in
    record {
      at = t.at;
      next = t.next;
      step = t.step;
      known = stands new t.at (before ++ grant ∷ since) h.0
          (joined ReceiverStep new s.at t.at before (grant ∷ since) s.reached (s.next, s.step, t.reached));
      within = subst (λ n. taken_in since ≤ n) given less.within;
      credit_is = less.credit_is ∙ ap (λ n. n - taken_in since) given;
    }

pub before_grants : (initial : ℕ) (renewal : Option Renewal) (H : List ReceiverCall) (v : ReceiverView) →
    ReceiverLeadsTo initial renewal H v →
    BeforeGrants H (λ all c. At initial renewal all 0 (taken_in all) c)
before_grants initial renewal H v h before after c e g =
    let new = new_receiver initial renewal in
    let s = split_of ReceiverStep new v H before after c h.1 e in
    let less = chain_less new s.at before h.0 g s.reached in
    record {
      at = s.at;
      next = s.next;
      step = s.step;
      known = stands new s.at before h.0 s.reached;
      within = less.within;
      credit_is = less.credit_is;
    }

-- ---- the answers

some_is : {X : Type 0} {a b : X} → Some a ≡ Some b → a ≡ b
some_is e = cc

used_by : (v : ReceiverView) (said : Option ℕ) (used : ℕ) → Some used ≡ used_up v said →
    UsedBy v.count v.credit said used
used_by v None used e = some_is e
used_by v (Some n) used e = by (nat_le (past n v.count) v.credit) (is_behind n v.count) refl refl e
  where
    by : (b d : Bool) → nat_le (past n v.count) v.credit ≡ b → is_behind n v.count ≡ d →
        Some used ≡ (if b then Some (past n v.count) else (if d then Some 0 else None)) →
        UsedBy v.count v.credit (Some n) used
    by true d f k e = inl (grind (arith, nat_tests, common_steps), some_is e)
    by false true f k e = inr (grind (arith, nat_tests, common_steps), k, some_is e)
    by false false f k e = absurd cc

past_limit : (v : ReceiverView) (said : Option ℕ) → None ≡ used_up v said → IsPastLimit v.count v.credit said
past_limit v None e = absurd cc
past_limit v (Some n) e = by (nat_le (past n v.count) v.credit) (is_behind n v.count) refl refl e
  where
    by : (b d : Bool) → nat_le (past n v.count) v.credit ≡ b → is_behind n v.count ≡ d →
        None ≡ (if b then Some (past n v.count) else (if d then Some 0 else None)) →
        IsPastLimit v.count v.credit (Some n)
    by true d f k e = absurd cc
    by false true f k e = absurd cc
    by false false f k e = (grind (arith, nat_tests, common_steps), k)

answers : (v m : ReceiverView) (c : ReceiverCall) → v.count < 2 ^ 32 → ReceiverStep v c m →
    AnswersBy v.count v.credit c
answers v m (Grants credit told) p h = tt
answers v m (Drains told) p h = h.0 ∙ ap told_by h.1
answers v m (Hears said (Ok used)) p h = used_by v said used (of_heard v m said used h).0
answers v m (Hears said (Err e)) p h = past_limit v said (of_refused v m said e p h).0
answers v m (Takes (Ok done)) p h = h.0
answers v m (Takes (Err refused)) p h = h.0
answers v m (Renews told) p h = tt
answers v m (AsksWanted answer) p h = tt
answers v m (AsksFlowState told) p h = ap (λ (x : Grant). x.link_credit) h.0
answers v m (AsksCredit n) p h = h.0
answers v m (AsksCount n) p h = tt
answers v m (AsksDraining answer) p h = tt

answers_at : (initial : ℕ) (renewal : Option Renewal) (all : List ReceiverCall) (granted taken : ℕ)
    (c : ReceiverCall) → At initial renewal all granted taken c →
    AnswersBy (count_after initial all) (granted - taken) c
answers_at initial renewal all granted taken c a =
    subst (λ n. AnswersBy n (granted - taken) c) a.known.count_is
    (subst (λ n. AnswersBy a.at.count n c) a.credit_is (answers a.at a.next c a.known.small a.step))

none_taken : (n : ℕ) → 0 - n ≡ 0
none_taken n = omega arith

pub answers_by_history : OfReceivers (λ initial renewal H. AnswersByHistory initial H)
answers_by_history initial renewal H v h = (
  λ before since after grant c credit e gives g.
      answers_at initial renewal (before ++ grant ∷ since) credit (taken_in since) c
      (since_grant initial renewal H v h before since after grant c credit e gives g),
  λ before after c e g.
      subst (λ n. AnswersBy (count_after initial before) n c) (none_taken (taken_in before))
      (answers_at initial renewal before 0 (taken_in before) c
      (before_grants initial renewal H v h before after c e g)),
)

fewer : (left taken : ℕ) → 0 < left - taken → taken < left
fewer left taken h = omega (arith, h)

taken_at : (count left taken : ℕ) (c : ReceiverCall) → AnswersBy count (left - taken) c → IsTaken c → taken < left
taken_at count left taken (Grants credit told) a b = absurd b
taken_at count left taken (Drains told) a b = absurd b
taken_at count left taken (Hears said answer) a b = absurd b
taken_at count left taken (Takes (Ok done)) a b = fewer left taken a
taken_at count left taken (Takes (Err refused)) a b = absurd b
taken_at count left taken (Renews told) a b = absurd b
taken_at count left taken (AsksWanted answer) a b = absurd b
taken_at count left taken (AsksFlowState told) a b = absurd b
taken_at count left taken (AsksCredit n) a b = absurd b
taken_at count left taken (AsksCount n) a b = absurd b
taken_at count left taken (AsksDraining answer) a b = absurd b

none_at_most : (n : ℕ) → n ≤ 0 → n ≡ 0
none_at_most n h = omega (arith, h)

none_of_none : (n : ℕ) → n < 0 → ⊥
none_of_none n h = omega (arith, h)

pub taken_within_grant : OfReceivers (λ initial renewal H. TakenWithinGrant H)
taken_within_grant initial renewal H v h = (
  λ before since after grant c credit e gives g.
      let a = since_grant initial renewal H v h before since after grant c credit e gives g in (
        a.within,
        taken_at _ credit (taken_in since) c
            (answers_at initial renewal (before ++ grant ∷ since) credit (taken_in since) c a),
      ),
  λ before after c e g.
      let a = before_grants initial renewal H v h before after c e g in (
        none_at_most (taken_in before) a.within,
        λ b.
            none_of_none (taken_in before) (taken_at _ 0 (taken_in before) c
            (answers_at initial renewal before 0 (taken_in before) c a) b),
      ),
)

-- ---- what is told of the count

tells : (v m : ReceiverView) (c : ReceiverCall) → ReceiverStep v c m → TellsBy v.count v.draining c
tells v m (Grants credit told) h = h.0 ∙ ap told_by h.1
tells v m (Drains told) h = tt
tells v m (Hears said answer) h = tt
tells v m (Takes answer) h = tt
tells v m (Renews (Some told)) h =
    let r = of_renewal (wanted v) v m told h in
    let all = r.2 ∙ ap told_by r.1 in
    (ap (λ (x : Grant). x.delivery_count) all, ap (λ (x : Grant). x.drain) all)
tells v m (Renews None) h = tt
tells v m (AsksWanted answer) h = tt
tells v m (AsksFlowState told) h = (ap (λ (x : Grant). x.delivery_count) h.0, ap (λ (x : Grant). x.drain) h.0)
tells v m (AsksCredit n) h = tt
tells v m (AsksCount n) h = h.0
tells v m (AsksDraining answer) h = h.0

pub count_is_exact : OfReceivers (λ initial renewal H. CountIsExact initial H)
count_is_exact initial renewal H v h before after c e =
    let new = new_receiver initial renewal in
    let s = split_of ReceiverStep new v H before after c h.1 e in
    let known = stands new s.at before h.0 s.reached in
    subst (λ n. TellsBy n (is_draining_by false before) c) known.count_is
    (subst (λ b. TellsBy s.at.count b c) known.draining_is (tells s.at s.next c s.step))

-- ---- renewals

renews : (v m : ReceiverView) (c : ReceiverCall) → ReceiverStep v c m → RenewsBy (wanted v) c
renews v m (Grants credit told) h = tt
renews v m (Drains told) h = tt
renews v m (Hears said answer) h = tt
renews v m (Takes answer) h = tt
renews v m (Renews (Some told)) h = (of_renewal (wanted v) v m told h).0
renews v m (Renews None) h = (of_no_renewal (wanted v) v m h).0
renews v m (AsksWanted answer) h = h.0
renews v m (AsksFlowState told) h = tt
renews v m (AsksCredit n) h = tt
renews v m (AsksCount n) h = tt
renews v m (AsksDraining answer) h = tt

wanted_is : (v : ReceiverView) (renewal : Option Renewal) (draining : Bool) (credit : ℕ) → v.renewal ≡ renewal →
    v.draining ≡ draining → v.credit ≡ credit → wanted v ≡ wanted_by renewal draining credit
wanted_is v renewal draining credit p q r =
    ap (λ x. wanted_by x v.draining v.credit) p ∙ ap₂ (λ x n. wanted_by renewal x n) q r

renews_at : (initial : ℕ) (renewal : Option Renewal) (all : List ReceiverCall) (granted taken : ℕ)
    (c : ReceiverCall) → At initial renewal all granted taken c →
    RenewsBy (wanted_by renewal (is_draining_by false all) (granted - taken)) c
renews_at initial renewal all granted taken c a =
    subst (λ o. RenewsBy o c)
    (wanted_is a.at renewal (is_draining_by false all) (granted - taken) a.known.renewal_is a.known.draining_is
    a.credit_is)
    (renews a.at a.next c a.step)

pub renews_by_rule : OfReceivers (λ initial renewal H. RenewsByRule renewal H)
renews_by_rule initial renewal H v h = (
  λ before since after grant c credit e gives g.
      renews_at initial renewal (before ++ grant ∷ since) credit (taken_in since) c
      (since_grant initial renewal H v h before since after grant c credit e gives g),
  λ before after c e g.
      subst (λ n. RenewsBy (wanted_by renewal (is_draining_by false before) n) c) (none_taken (taken_in before))
      (renews_at initial renewal before 0 (taken_in before) c
      (before_grants initial renewal H v h before after c e g)),
)

pub allows : (renewal : Option Renewal) (draining : Bool) (left credit : ℕ) →
    wanted_by renewal draining left ≡ Some credit → Allows renewal left credit
allows renewal true left credit e = absurd cc
allows None false left credit e = absurd cc
allows (Some rule) false left credit e = by (nat_lt left (min rule.low rule.high)) refl e
  where
    by : (b : Bool) → nat_lt left (min rule.low rule.high) ≡ b → (if b then Some rule.high else None) ≡ Some credit →
        Allows (Some rule) left credit
    by true f e =
        let below : left < min rule.low rule.high = grind (arith, nat_tests, common_steps) in
        (below_low rule below, below_high rule below, some_is (sym e))
      where
        below_low : (rule : Renewal) → left < min rule.low rule.high → left < rule.low
        below_low rule h = omega (arith, h)

        below_high : (rule : Renewal) → left < min rule.low rule.high → left < rule.high
        below_high rule h = omega (arith, h)
    by false f e = absurd cc

renewed_only : (renewal : Option Renewal) (draining : Bool) (left : ℕ) (c : ReceiverCall) →
    RenewsBy (wanted_by renewal draining left) c → RenewsOnly (Allows renewal left) c
renewed_only renewal draining left (Grants credit told) r = tt
renewed_only renewal draining left (Drains told) r = tt
renewed_only renewal draining left (Hears said answer) r = tt
renewed_only renewal draining left (Takes answer) r = tt
renewed_only renewal draining left (Renews (Some told)) r = allows renewal draining left told.link_credit r
renewed_only renewal draining left (Renews None) r = tt
renewed_only renewal draining left (AsksWanted answer) r = tt
renewed_only renewal draining left (AsksFlowState told) r = tt
renewed_only renewal draining left (AsksCredit n) r = tt
renewed_only renewal draining left (AsksCount n) r = tt
renewed_only renewal draining left (AsksDraining answer) r = tt

pub renewed_below_low : OfReceivers (λ initial renewal H. RenewedBelowLow renewal H)
renewed_below_low initial renewal H v h =
    let rule = renews_by_rule initial renewal H v h in (
      λ before since after grant c credit e gives g.
          renewed_only renewal (is_draining_by false (before ++ grant ∷ since)) (credit - taken_in since) c
          (rule.0 before since after grant c credit e gives g),
      λ before after c e g.
          renewed_only renewal (is_draining_by false before) 0 c (rule.1 before after c e g),
    )

at_high : (renewal : Option Renewal) (left credit : ℕ) → Allows renewal left credit → by_rule renewal credit ≡ None
at_high None left credit a = refl
at_high (Some rule) left credit a = grind (arith, nat_tests, common_steps, a)

pub renewed_once : OfReceivers (λ initial renewal H. RenewedOnce H)
renewed_once initial renewal H v h before after told answer e =
    let new = new_receiver initial renewal in
    let s = split_of ReceiverStep new v H before (AsksWanted answer ∷ after) (Renews (Some told)) h.1 e in
    let r = of_renewal (wanted s.at) s.at s.next told s.step in
    let allowed = allows s.at.renewal s.at.draining s.at.credit told.link_credit r.0 in
    s.onward.1.0 ∙ ap wanted r.1 ∙ at_high s.at.renewal s.at.credit told.link_credit allowed
