-- What each call makes of both ends of a link, and of what is on the way.
use Rattle.std.proofs.Common.{◌≡◌, ◌+◌, ◌-◌, ◌%◌, ◌^◌, ◌<◌, ◌≤◌, ℕ, Bool, true, false, List, [], ◌∷◌, ◌++◌, Option}
use Rattle.std.proofs.Common.{Some, None, Ok, Err, if◌then◌else◌, refl, sym, ap, ap₂, ◌∙◌, subst, arith}
use Rattle.std.proofs.Common.{nat_le}
use Rattle.std.proofs.lemmas.Bool.Decides.{nat_tests}
use Rattle.std.proofs.lemmas.Grind.{common_steps}
use Rattle.amqp_credit.specs.declared.receiver.Renewal.{Renewal}
use Rattle.amqp_credit.specs.Serial.{advanced, past, is_behind}
use Rattle.amqp_credit.specs.Sender.{SenderView}
use Rattle.amqp_credit.specs.SenderHistory as sender
use Rattle.amqp_credit.specs.SenderHistory.{SenderCall, SenderStep}
use Rattle.amqp_credit.specs.Receiver.{ReceiverView, told_by, used_up, wanted}
use Rattle.amqp_credit.specs.ReceiverHistory as receiver
use Rattle.amqp_credit.specs.ReceiverHistory.{ReceiverCall, ReceiverStep}
use Rattle.amqp_credit.specs.ReceiverLaws.{Allows}
use Rattle.amqp_credit.specs.Pair.{Sent, Pair, SenderMay, ReceiverMay, sent_by, told_to_sender}
use Rattle.amqp_credit.specs.Pair.{IsFor, IsRule}
use Rattle.amqp_credit.specs.Pair.{Begun, Says}
use Rattle.amqp_credit.proofs.SenderLemmas as sent
use Rattle.amqp_credit.proofs.ReceiverLemmas.{of_renewal, of_no_renewal, of_heard}
use Rattle.amqp_credit.proofs.GrantLemmas.{allows}
use Rattle.amqp_credit.proofs.PairLemmas.{Way, way_grows, way_one, way_says, limits_grow, PairStands}
use Rattle.amqp_credit.proofs.PairLemmas.{announced, receiver_same, came, went, sender_same}
use Rattle.amqp_credit.proofs.PairLemmas.{mod_sum}

-- ---- a call of the sender

same_at : (n : ℕ) → n ≤ n
same_at n = omega arith

further : (m n : ℕ) → m ≤ m + n
further m n = omega arith

-- it says the count that it has
said : (p : Pair) (s : SenderView) (n : ℕ) → PairStands p → s ≡ p.sender → n ≡ p.sender.count →
    PairStands (record p { sender = s; to_receiver = p.to_receiver ++ Says n ∷ [] })
said p s n k e is =
    subst (λ x. PairStands (record p { sender = x; to_receiver = p.to_receiver ++ Says n ∷ [] })) (sym e) (record {
      come = k.come;
      gone = k.gone;
      come_is = k.come_is;
      gone_is = k.gone_is;
      way = way_says k.come p.to_receiver k.gone k.gone n k.way (same_at k.gone) (is ∙ k.gone_is);
      limits = k.limits;
      small = k.small;
      rule = k.rule;
    })

pub at_sender : (p : Pair) (s : SenderView) (c : SenderCall) → PairStands p → SenderMay c → SenderStep p.sender c s →
    PairStands (record p { sender = s; to_receiver = p.to_receiver ++ sent_by c s.count })
at_sender p s (sender.Flows seen granted drain) k may h = absurd may
at_sender p s (sender.Sends (Ok done)) k may h =
    went p s 1 (p.to_receiver ++ Begun ∷ []) k (ap (λ (x : SenderView). x.count) h.1)
    (ap (λ (x : SenderView). x.credit) h.1) h.0 (ap (λ (x : SenderView). x.drain) h.1)
    (way_one k.come p.to_receiver k.gone k.way)
at_sender p s (sender.Sends (Err refused)) k may h = sender_same p s k h.1
at_sender p s (sender.UsesUp n) k may h =
    let count = ap (λ (x : SenderView). x.count) h.1 in
    let less = sent.step_less p.sender s (sender.UsesUp n) refl h in
    went p s n (p.to_receiver ++ Says s.count ∷ []) k count less.credit_is less.within less.drain_is
    (way_says k.come p.to_receiver k.gone (k.gone + n) s.count k.way (further k.gone n)
    (count ∙ ap (λ m. advanced m n) k.gone_is ∙ mod_sum k.gone n))
at_sender p s (sender.AsksCredit n) k may h = sender_same p s k h.1
at_sender p s (sender.AsksCount n) k may h = said p s n k h.1 h.0
at_sender p s (sender.AsksDrain answer) k may h = sender_same p s k h.1

-- ---- a call of the receiver

grown : (renewal : Option Renewal) (left credit : ℕ) → IsRule renewal → Allows renewal left credit →
    (left ≤ credit) × (credit < 2 ^ 32)
grown None left credit rule a = absurd a
grown (Some r) left credit rule a = (by r.high credit a.1 a.2, subst (λ n. n < 2 ^ 32) (sym a.2) rule.1)
  where
    by : (high credit : ℕ) → left < high → credit ≡ high → left ≤ credit
    by high credit h e = omega (arith, h, e)

pub at_receiver : (p : Pair) (r : ReceiverView) (c : ReceiverCall) → PairStands p → ReceiverMay p.receiver c →
    ReceiverStep p.receiver c r →
    PairStands (record p { receiver = r; to_sender = p.to_sender ++ told_to_sender c })
at_receiver p r (receiver.Grants credit told) k may h =
    let is = sym (ap (λ (x : ReceiverView). x.credit) h.1) in
    announced p r told k (ap (λ (x : ReceiverView). x.count) h.1) (ap (λ (x : ReceiverView). x.renewal) h.1)
    (subst (λ n. p.receiver.credit ≤ n) is may.0) (subst (λ n. n < 2 ^ 32) is may.1) h.0
at_receiver p r (receiver.Drains told) k may h =
    let is = sym (ap (λ (x : ReceiverView). x.credit) h.1) in
    announced p r told k (ap (λ (x : ReceiverView). x.count) h.1) (ap (λ (x : ReceiverView). x.renewal) h.1)
    (subst (λ n. p.receiver.credit ≤ n) is (same_at p.receiver.credit)) (subst (λ n. n < 2 ^ 32) is k.small) h.0
at_receiver p r (receiver.Hears count answer) k may h = absurd may
at_receiver p r (receiver.Takes answer) k may h = absurd may
at_receiver p r (receiver.Renews (Some told)) k may h =
    let it = of_renewal (wanted p.receiver) p.receiver r told h in
    let more = grown p.receiver.renewal p.receiver.credit told.link_credit k.rule
    (allows p.receiver.renewal p.receiver.draining p.receiver.credit told.link_credit it.0) in
    let is = sym (ap (λ (x : ReceiverView). x.credit) it.1) in
    announced p r told k (ap (λ (x : ReceiverView). x.count) it.1) (ap (λ (x : ReceiverView). x.renewal) it.1)
    (subst (λ n. p.receiver.credit ≤ n) is more.0) (subst (λ n. n < 2 ^ 32) is more.1) it.2
at_receiver p r (receiver.Renews None) k may h =
    receiver_same p r k (of_no_renewal (wanted p.receiver) p.receiver r h).1
at_receiver p r (receiver.AsksWanted answer) k may h = receiver_same p r k h.1
at_receiver p r (receiver.AsksFlowState told) k may h =
    let is = sym (ap (λ (x : ReceiverView). x.credit) h.1) in
    announced p r told k (ap (λ (x : ReceiverView). x.count) h.1) (ap (λ (x : ReceiverView). x.renewal) h.1)
    (subst (λ n. p.receiver.credit ≤ n) is (same_at p.receiver.credit)) (subst (λ n. n < 2 ^ 32) is k.small)
    (h.0 ∙ ap told_by (sym h.1))
at_receiver p r (receiver.AsksCredit n) k may h = receiver_same p r k h.1
at_receiver p r (receiver.AsksCount n) k may h = receiver_same p r k h.1
at_receiver p r (receiver.AsksDraining answer) k may h = receiver_same p r k h.1

-- ---- what comes

-- all that went out is within what was granted
pub within : (p : Pair) (k : PairStands p) → k.gone + p.sender.credit ≤ k.come + p.receiver.credit
within p k =
    limits_grow k.come (k.gone + p.sender.credit) p.sender.drain p.to_sender (k.come + p.receiver.credit)
    p.receiver.draining k.limits

no_credit : (come gone more credit : ℕ) → come + 1 ≤ gone → gone + more ≤ come + credit → credit ≡ 0 → ⊥
no_credit come gone more credit p q e = omega (arith, p, q, e)

pub begun_refused : (p : Pair) (others : List Sent) → PairStands p → p.to_receiver ≡ Begun ∷ others →
    p.receiver.credit ≡ 0 → ⊥
begun_refused p others k first e =
    let way = subst (λ xs. Way k.come xs k.gone) first k.way in
    no_credit k.come k.gone p.sender.credit p.receiver.credit (way_grows (k.come + 1) others k.gone way) (within p k) e

-- how far a flow is that comes
record Heard (p : Pair) (k : PairStands p) (n : ℕ) (others : List Sent) : Type 0 where
  pub used : ℕ
  pub used_is : used_up p.receiver (Some n) ≡ Some used
  pub less : used ≤ p.receiver.credit
  pub onward : Way (k.come + used) others k.gone

between : (come at gone more credit : ℕ) → at ≤ gone → gone + more ≤ come + credit → at - come ≤ credit
between come at gone more credit p q = omega (arith, p, q)

past_is : (come at credit : ℕ) → come ≤ at → at - come ≤ credit → credit < 2 ^ 32 →
    past (at % 2 ^ 32) (come % 2 ^ 32) ≡ at - come
past_is come at credit p q s = omega (arith, p, q, s)

back_at : (come at : ℕ) → come ≤ at → at ≡ come + (at - come)
back_at come at p = omega (arith, p)

used_as : (v : ReceiverView) (n used : ℕ) → past n v.count ≡ used → used ≤ v.credit →
    used_up v (Some n) ≡ Some used
used_as v n used e l = by (nat_le (past n v.count) v.credit) refl
  where
    not_more : nat_le (past n v.count) v.credit ≡ false → past n v.count ≡ used → used ≤ v.credit → ⊥
    not_more f e l = grind (arith, nat_tests, common_steps)

    by : (b : Bool) → nat_le (past n v.count) v.credit ≡ b →
        (if b then Some (past n v.count) else (if is_behind n v.count then Some 0 else None)) ≡ Some used
    by true f = ap Some e
    by false f = absurd (not_more f e l)

heard : (p : Pair) (n : ℕ) (others : List Sent) (k : PairStands p) → p.to_receiver ≡ Says n ∷ others →
    Heard p k n others
heard p n others k first =
    let w = subst (λ xs. Way k.come xs k.gone) first k.way in
    let at = w.0 in
    let less = between k.come at k.gone p.sender.credit p.receiver.credit (way_grows at others k.gone w.3)
    (within p k) in
    let far = ap₂ (λ x y. past x y) w.2 k.come_is ∙ past_is k.come at p.receiver.credit w.1 less k.small in
    record {
      used = at - k.come;
      used_is = used_as p.receiver n (at - k.come) far less;
      less = less;
      onward = subst (λ m. Way m others k.gone) (back_at k.come at w.1) w.3;
    }

none_some : {X : Type 0} {a : X} → None ≡ Some a → ⊥
none_some e = absurd cc

some_is : {X : Type 0} {a b : X} → Some a ≡ Some b → a ≡ b
some_is e = cc

pub flow_refused : (p : Pair) (n : ℕ) (others : List Sent) (said : Option ℕ) → PairStands p →
    p.to_receiver ≡ Says n ∷ others → said ≡ Some n → None ≡ used_up p.receiver said → ⊥
flow_refused p n others said k first e h =
    none_some (h ∙ ap (used_up p.receiver) e ∙ (heard p n others k first).used_is)

pub comes : (p : Pair) (r : ReceiverView) (it : Sent) (others : List Sent) (c : ReceiverCall) → PairStands p →
    p.to_receiver ≡ it ∷ others → IsFor it c → ReceiverStep p.receiver c r →
    PairStands (record p { receiver = r; to_receiver = others })
comes p r Begun others (receiver.Takes (Ok done)) k first f h =
    came p r 1 others k (ap (λ (x : ReceiverView). x.count) h.1) (ap (λ (x : ReceiverView). x.credit) h.1) h.0
    (ap (λ (x : ReceiverView). x.draining) h.1) (ap (λ (x : ReceiverView). x.renewal) h.1)
    (subst (λ xs. Way k.come xs k.gone) first k.way)
comes p r Begun others (receiver.Takes (Err refused)) k first f h = absurd (begun_refused p others k first h.0)
comes p r (Says n) others (receiver.Hears said (Ok used)) k first f h =
    let it = heard p n others k first in
    let known = of_heard p.receiver r said used h in
    let same = some_is (known.0 ∙ ap (used_up p.receiver) f ∙ it.used_is) in
    came p r used others k (ap (λ (x : ReceiverView). x.count) known.1) (ap (λ (x : ReceiverView). x.credit) known.1)
    (subst (λ m. m ≤ p.receiver.credit) (sym same) it.less)
    (ap (λ (x : ReceiverView). x.draining) known.1) (ap (λ (x : ReceiverView). x.renewal) known.1)
    (subst (λ m. Way (k.come + m) others k.gone) (sym same) it.onward)
comes p r (Says n) others (receiver.Hears said (Err refused)) k first f h =
    absurd (flow_refused p n others said k first f h.0)
comes p r Begun others (receiver.Hears said answer) k first f h = absurd f
comes p r Begun others (receiver.Grants credit told) k first f h = absurd f
comes p r Begun others (receiver.Drains told) k first f h = absurd f
comes p r Begun others (receiver.Renews told) k first f h = absurd f
comes p r Begun others (receiver.AsksWanted answer) k first f h = absurd f
comes p r Begun others (receiver.AsksFlowState told) k first f h = absurd f
comes p r Begun others (receiver.AsksCredit m) k first f h = absurd f
comes p r Begun others (receiver.AsksCount m) k first f h = absurd f
comes p r Begun others (receiver.AsksDraining answer) k first f h = absurd f
comes p r (Says n) others (receiver.Takes answer) k first f h = absurd f
comes p r (Says n) others (receiver.Grants credit told) k first f h = absurd f
comes p r (Says n) others (receiver.Drains told) k first f h = absurd f
comes p r (Says n) others (receiver.Renews told) k first f h = absurd f
comes p r (Says n) others (receiver.AsksWanted answer) k first f h = absurd f
comes p r (Says n) others (receiver.AsksFlowState told) k first f h = absurd f
comes p r (Says n) others (receiver.AsksCredit m) k first f h = absurd f
comes p r (Says n) others (receiver.AsksCount m) k first f h = absurd f
comes p r (Says n) others (receiver.AsksDraining answer) k first f h = absurd f
