-- What a sender's history says of its credit and of its count.
use Rattle.std.proofs.Common.{◌≡◌, ◌+◌, ◌-◌, ◌^◌, ◌<◌, ◌≤◌, ℕ, Bool, true, false, List, [], ◌∷◌, ◌++◌, Some, None}
use Rattle.std.proofs.Common.{Ok, Err, if◌then◌else◌, refl, sym, ap, ap₂, ◌∙◌, subst, arith, true≢false}
use Rattle.amqp_credit.specs.Serial.{advanced, past}
use Rattle.amqp_credit.specs.Chain.{Chain}
use Rattle.amqp_credit.specs.Sender.{SenderView, new_sender, seen_or, left_of}
use Rattle.amqp_credit.specs.SenderHistory.{SenderCall, SenderStep, SenderLeadsTo, OfSenders, takes, taken_in, gives}
use Rattle.amqp_credit.specs.SenderHistory.{count_after, has_given}
use Rattle.amqp_credit.specs.SenderHistory.{Flows, Sends, UsesUp, AsksCredit, AsksCount, AsksDrain}
use Rattle.amqp_credit.specs.SenderLaws.{SinceFlow, BeforeFlows, IsBegun, BegunWithinCredit, TakenWithinCredit}
use Rattle.amqp_credit.specs.SenderLaws.{AnswersBy, AnswersByHistory, UsedUpOnce, CountIsExact, LimitIsKept}
use Rattle.amqp_credit.proofs.ChainLemmas.{split_of, or_left, or_right}
use Rattle.amqp_credit.proofs.ChainLemmas.{advanced_small, advanced_none, advanced_twice}

-- ---- the counts

abbrev Small : SenderView → Type 0
Small v = v.count < 2 ^ 32

pub step_count : (v m : SenderView) (c : SenderCall) → Small v → SenderStep v c m → m.count ≡ advanced v.count (takes c)
step_count v m (Flows seen (Some granted) drain) p h = ap (λ (x : SenderView). x.count) h ∙ advanced_none v.count p
step_count v m (Flows seen None drain) p h = ap (λ (x : SenderView). x.count) h ∙ advanced_none v.count p
step_count v m (Sends (Ok done)) p h = ap (λ (x : SenderView). x.count) h.1
step_count v m (Sends (Err refused)) p h = ap (λ (x : SenderView). x.count) h.1 ∙ advanced_none v.count p
step_count v m (UsesUp used) p h = ap (λ (x : SenderView). x.count) h.1
step_count v m (AsksCredit n) p h = ap (λ (x : SenderView). x.count) h.1 ∙ advanced_none v.count p
step_count v m (AsksCount n) p h = ap (λ (x : SenderView). x.count) h.1 ∙ advanced_none v.count p
step_count v m (AsksDrain answer) p h = ap (λ (x : SenderView). x.count) h.1 ∙ advanced_none v.count p

stays_small : (v m : SenderView) (c : SenderCall) → Small v → SenderStep v c m → Small m
stays_small v m c p h = subst (λ n. n < 2 ^ 32) (sym (step_count v m c p h)) (advanced_small v.count (takes c))

chain_count : (v w : SenderView) (cs : List SenderCall) → Small v → Chain SenderStep v cs w →
    w.count ≡ advanced v.count (taken_in cs)
chain_count v w [] p h = ap (λ (x : SenderView). x.count) h ∙ advanced_none v.count p
chain_count v w (c ∷ cs) p h =
    chain_count h.0 w cs (stays_small v h.0 c p h.1) h.2
    ∙ ap (λ n. advanced n (taken_in cs)) (step_count v h.0 c p h.1)
    ∙ advanced_twice v.count (takes c) (taken_in cs)

step_initial : (v m : SenderView) (c : SenderCall) → SenderStep v c m → m.initial ≡ v.initial
step_initial v m (Flows seen (Some granted) drain) h = ap (λ (x : SenderView). x.initial) h
step_initial v m (Flows seen None drain) h = ap (λ (x : SenderView). x.initial) h
step_initial v m (Sends (Ok done)) h = ap (λ (x : SenderView). x.initial) h.1
step_initial v m (Sends (Err refused)) h = ap (λ (x : SenderView). x.initial) h.1
step_initial v m (UsesUp used) h = ap (λ (x : SenderView). x.initial) h.1
step_initial v m (AsksCredit n) h = ap (λ (x : SenderView). x.initial) h.1
step_initial v m (AsksCount n) h = ap (λ (x : SenderView). x.initial) h.1
step_initial v m (AsksDrain answer) h = ap (λ (x : SenderView). x.initial) h.1

chain_initial : (v w : SenderView) (cs : List SenderCall) → Chain SenderStep v cs w → w.initial ≡ v.initial
chain_initial v w [] h = ap (λ (x : SenderView). x.initial) h
chain_initial v w (c ∷ cs) h = chain_initial h.0 w cs h.2 ∙ step_initial v h.0 c h.1

-- ---- the credit

-- so many were taken between two views: no more than there were, and a drain is asked for as before
pub record Less (v : SenderView) (n : ℕ) (w : SenderView) : Type 0 where
  pub within : n ≤ v.credit
  pub credit_is : w.credit ≡ v.credit - n
  pub drain_is : w.drain ≡ v.drain

less_none : (n : ℕ) → n ≡ n - 0
less_none n = omega arith

none_less : (n : ℕ) → 0 - n ≡ 0
none_less n = omega arith

same : (v w : SenderView) → w ≡ v → Less v 0 w
same v w e = record {
  within = omega arith;
  credit_is = ap (λ (x : SenderView). x.credit) e ∙ less_none v.credit;
  drain_is = ap (λ (x : SenderView). x.drain) e;
}

if_within : (b : Bool) (n : ℕ) → (if b then n else 0) ≤ n
if_within true n = omega arith
if_within false n = omega arith

pub step_less : (v m : SenderView) (c : SenderCall) → gives c ≡ false → SenderStep v c m → Less v (takes c) m
step_less v m (Flows seen (Some granted) drain) g h = absurd (true≢false g)
step_less v m (Flows seen None drain) g h = same v m h
step_less v m (Sends (Ok done)) g h = record {
  within = h.0;
  credit_is = ap (λ (x : SenderView). x.credit) h.1;
  drain_is = ap (λ (x : SenderView). x.drain) h.1;
}
step_less v m (Sends (Err refused)) g h = same v m h.1
step_less v m (UsesUp used) g h = record {
  within = subst (λ n. n ≤ v.credit) (sym h.0) (if_within v.drain v.credit);
  credit_is = ap (λ (x : SenderView). x.credit) h.1;
  drain_is = ap (λ (x : SenderView). x.drain) h.1;
}
step_less v m (AsksCredit n) g h = same v m h.1
step_less v m (AsksCount n) g h = same v m h.1
step_less v m (AsksDrain answer) g h = same v m h.1

both_within : (a b k n : ℕ) → n ≤ k → b ≤ a → a ≡ k - n → n + b ≤ k
both_within a b k n p q e = omega (arith, p, q, e)

both_less : (a b c k n : ℕ) → a ≡ k - n → c ≡ a - b → c ≡ k - (n + b)
both_less a b c k n e f = omega (arith, e, f)

pub chain_less : (v w : SenderView) (cs : List SenderCall) → has_given cs ≡ false → Chain SenderStep v cs w →
    Less v (taken_in cs) w
chain_less v w [] g h = same v w h
chain_less v w (c ∷ cs) g h =
    let first = step_less v h.0 c (or_left (gives c) (has_given cs) g) h.1 in
    let others = chain_less h.0 w cs (or_right (gives c) (has_given cs) g) h.2 in record {
      within = both_within h.0.credit (taken_in cs) v.credit (takes c) first.within others.within first.credit_is;
      credit_is = both_less h.0.credit (taken_in cs) w.credit v.credit (takes c) first.credit_is others.credit_is;
      drain_is = others.drain_is ∙ first.drain_is;
    }

-- ---- a call after a flow, and one before the first

-- a view at which this call is made: so many were taken of what was left
pub record At (left taken : ℕ) (drain : Bool) (c : SenderCall) : Type 0 where
  pub at : SenderView
  pub next : SenderView
  pub step : SenderStep at c next
  pub within : taken ≤ left
  pub credit_is : at.credit ≡ left - taken
  pub drain_is : at.drain ≡ drain

since_flow : (initial : ℕ) (H : List SenderCall) (v : SenderView) → SenderLeadsTo initial H v →
    SinceFlow initial H (λ left drain since c. At left (taken_in since) drain c)
since_flow initial H v h before since after seen granted drain c e g =
    let s = split_of SenderStep (new_sender initial) v H before (since ++ c ∷ after) (Flows seen (Some granted) drain)
    h.1 e in
    let t = split_of SenderStep s.next v (since ++ c ∷ after) since after c s.onward refl in
    let less = chain_less s.next t.at since g t.reached in
    let given = ap (λ (x : SenderView). x.credit) s.step
    ∙ ap₂ (λ i n. left_of granted (seen_or i seen) n) (chain_initial (new_sender initial) s.at before s.reached)
    (chain_count (new_sender initial) s.at before h.0 s.reached) in
    record {
      at = t.at;
      next = t.next;
      step = t.step;
      within = subst (λ n. taken_in since ≤ n) given less.within;
      credit_is = less.credit_is ∙ ap (λ n. n - taken_in since) given;
      drain_is = less.drain_is ∙ ap (λ (x : SenderView). x.drain) s.step;
    }

before_flows : (initial : ℕ) (H : List SenderCall) (v : SenderView) → SenderLeadsTo initial H v →
    BeforeFlows H (λ c. At 0 0 false c)
before_flows initial H v h before after c e g =
    let s = split_of SenderStep (new_sender initial) v H before after c h.1 e in
    let less = chain_less (new_sender initial) s.at before g s.reached in
    record {
      at = s.at;
      next = s.next;
      step = s.step;
      within = omega arith;
      credit_is = less.credit_is ∙ none_less (taken_in before);
      drain_is = less.drain_is;
    }

-- ---- the answers

answers : (v m : SenderView) (c : SenderCall) → SenderStep v c m → AnswersBy v.credit v.drain c
answers v m (Flows seen granted drain) h = tt
answers v m (Sends (Ok done)) h = h.0
answers v m (Sends (Err refused)) h = h.0
answers v m (UsesUp used) h = h.0
answers v m (AsksCredit n) h = h.0
answers v m (AsksCount n) h = tt
answers v m (AsksDrain answer) h = h.0

answers_at : (left taken : ℕ) (drain : Bool) (c : SenderCall) → At left taken drain c →
    AnswersBy (left - taken) drain c
answers_at left taken drain c a =
    subst (λ n. AnswersBy n drain c) a.credit_is
    (subst (λ b. AnswersBy a.at.credit b c) a.drain_is (answers a.at a.next c a.step))

pub answers_by_history : OfSenders (λ initial H. AnswersByHistory initial H)
answers_by_history initial H v h = (
  λ before since after seen granted drain c e g.
      answers_at _ (taken_in since) drain c (since_flow initial H v h before since after seen granted drain c e g),
  λ before after c e g. answers_at 0 0 false c (before_flows initial H v h before after c e g),
)

pub taken_within_credit : OfSenders (λ initial H. TakenWithinCredit initial H)
taken_within_credit initial H v h before since after seen granted drain c e g =
    (since_flow initial H v h before since after seen granted drain c e g).within

fewer : (left taken : ℕ) → 0 < left - taken → taken < left
fewer left taken h = omega (arith, h)

none_of_none : 0 < 0 → ⊥
none_of_none h = omega (arith, h)

begun_at : (left taken : ℕ) (drain : Bool) (c : SenderCall) → AnswersBy (left - taken) drain c → IsBegun c →
    taken < left
begun_at left taken drain (Flows seen granted asked) a b = absurd b
begun_at left taken drain (Sends (Ok done)) a b = fewer left taken a
begun_at left taken drain (Sends (Err refused)) a b = absurd b
begun_at left taken drain (UsesUp used) a b = absurd b
begun_at left taken drain (AsksCredit n) a b = absurd b
begun_at left taken drain (AsksCount n) a b = absurd b
begun_at left taken drain (AsksDrain answer) a b = absurd b

pub begun_within_credit : OfSenders (λ initial H. BegunWithinCredit initial H)
begun_within_credit initial H v h = (
  λ before since after seen granted drain c e g.
      begun_at _ (taken_in since) drain c
      ((answers_by_history initial H v h).0 before since after seen granted drain c e g),
  λ before after c e g b.
      none_of_none (begun_at 0 0 false c ((answers_by_history initial H v h).1 before after c e g) b),
)

-- ---- used up once

nothing_left : (drain : Bool) (credit used less : ℕ) → used ≡ (if drain then credit else 0) →
    less ≤ credit - used → (if drain then less else 0) ≡ 0
nothing_left true credit used less e l = omega (arith, e, l)
nothing_left false credit used less e l = refl

at_most : {a b k : ℕ} (n : ℕ) → a ≡ b - n → b ≡ k → a ≤ k
at_most n e f = omega (arith, e, f)

pub used_up_once : OfSenders (λ initial H. UsedUpOnce H)
used_up_once initial H v h before since after used again e g =
    let s = split_of SenderStep (new_sender initial) v H before (since ++ UsesUp again ∷ after) (UsesUp used) h.1 e in
    let t = split_of SenderStep s.next v (since ++ UsesUp again ∷ after) since after (UsesUp again) s.onward refl in
    let first = step_less s.at s.next (UsesUp used) refl s.step in
    let less = chain_less s.next t.at since g t.reached in
    let drain = less.drain_is ∙ first.drain_is in
    let left = at_most (taken_in since) less.credit_is first.credit_is in
    t.step.0 ∙ ap (λ b. if b then t.at.credit else 0) drain
    ∙ nothing_left s.at.drain s.at.credit used t.at.credit s.step.0 left

pub count_is_exact : OfSenders (λ initial H. CountIsExact initial H)
count_is_exact initial H v h before after n e =
    let s = split_of SenderStep (new_sender initial) v H before after (AsksCount n) h.1 e in
    s.step.0 ∙ chain_count (new_sender initial) s.at before h.0 s.reached

-- ---- the standard's formula

taken_append : (before : List SenderCall) (flow : SenderCall) (since : List SenderCall) → takes flow ≡ 0 →
    taken_in (before ++ flow ∷ since) ≡ taken_in before + taken_in since
taken_append [] flow since e = ap (λ n. n + taken_in since) e
taken_append (b ∷ before) flow since e =
    sum_of (takes b) (taken_in before) (taken_in since) (taken_append before flow since e)
  where
    sum_of : (a b c : ℕ) {s : ℕ} → s ≡ b + c → a + s ≡ (a + b) + c
    sum_of a b c e = omega (arith, e)

limit_is : (count seen granted taken : ℕ) → count < 2 ^ 32 → seen < 2 ^ 32 → past count seen ≤ granted →
    taken ≤ granted - past count seen →
    advanced (advanced count taken) ((granted - past count seen) - taken) ≡ advanced seen granted
limit_is count seen granted taken p q r s = omega (arith, p, q, r, s)

pub limit_is_kept : OfSenders (λ initial H. LimitIsKept initial H)
limit_is_kept initial H v h before since after seen granted drain c e g small within =
    let count = count_after initial before in
    let at = seen_or initial seen in
    let taken = (since_flow initial H v h before since after seen granted drain c e g).within in
    let flow = Flows seen (Some granted) drain in
    ap (λ n. advanced (advanced initial n) (left_of granted at count - taken_in since))
    (taken_append before flow since refl)
    ∙ ap (λ n. advanced n (left_of granted at count - taken_in since))
    (sym (advanced_twice initial (taken_in before) (taken_in since)))
    ∙ limit_is count at granted (taken_in since) (advanced_small initial (taken_in before)) small within taken
