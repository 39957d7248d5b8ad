-- What is known of both ends of a link, and of what is on the way, by numbers that do not wrap.
use Rattle.std.proofs.Common.{◌≡◌, ◌+◌, ◌-◌, ◌%◌, ◌^◌, ◌<◌, ◌≤◌, ℕ, Bool, List, [], ◌∷◌, ◌++◌, Option}
use Rattle.std.proofs.Common.{refl, sym, ap, ap₂, ◌∙◌, subst, arith}
use Rattle.std.proofs.Common.{le_trans}
use Rattle.amqp_credit.specs.declared.receiver.Renewal.{Renewal}
use Rattle.amqp_credit.specs.declared.receiver.Grant.{Grant}
use Rattle.amqp_credit.specs.Serial.{advanced, past}
use Rattle.amqp_credit.specs.Sender.{SenderView}
use Rattle.amqp_credit.specs.Receiver.{ReceiverView, told_by}
use Rattle.amqp_credit.specs.Pair.{Sent, Pair, new_pair, IsRule, begun_in, Begun, Says}

-- ---- what is on the way

-- from this number on the way leads to that one: each delivery is one more, and each flow says a number between
abbrev pub Way : ℕ → List Sent → ℕ → Type 0
Way from [] to = from ≡ to
Way from (Begun ∷ others) to = Way (from + 1) others to
Way from (Says n ∷ others) to = (at : ℕ) × (from ≤ at) × (n ≡ at % 2 ^ 32) × Way at others to

-- The flows on the way to the sender: each grants from a number that the receiver had come to, up to a limit that is
-- not below that before it. The last one says the limit and the drain that hold at the receiver.
abbrev pub Limits : ℕ → ℕ → Bool → List Grant → ℕ → Bool → Type 0
Limits come limit drain [] last drains = (limit ≡ last) × (drain ≡ drains)
Limits come limit drain (told ∷ others) last drains =
    (at : ℕ) × (told.delivery_count ≡ at % 2 ^ 32) × (at ≤ come) × (told.link_credit < 2 ^ 32)
    × (limit ≤ at + told.link_credit) × Limits come (at + told.link_credit) told.drain others last drains

pub way_grows : (from : ℕ) (xs : List Sent) (to : ℕ) → Way from xs to → from ≤ to
way_grows from [] to w = omega (arith, w)
way_grows from (Begun ∷ xs) to w = less_one from to (way_grows (from + 1) xs to w)
  where
    less_one : (m n : ℕ) → m + 1 ≤ n → m ≤ n
    less_one m n h = omega (arith, h)
way_grows from (Says n ∷ xs) to w = le_trans w.1 (way_grows w.0 xs to w.3)

pub way_begun : (from : ℕ) (xs : List Sent) (to : ℕ) → Way from xs to → from + begun_in xs ≤ to
way_begun from [] to w = omega (arith, w)
way_begun from (Begun ∷ xs) to w = one_more from (begun_in xs) to (way_begun (from + 1) xs to w)
  where
    one_more : (m k n : ℕ) → (m + 1) + k ≤ n → m + (1 + k) ≤ n
    one_more m k n h = omega (arith, h)
way_begun from (Says n ∷ xs) to w = later from w.0 (begun_in xs) to w.1 (way_begun w.0 xs to w.3)
  where
    later : (m a k n : ℕ) → m ≤ a → a + k ≤ n → m + k ≤ n
    later m a k n p q = omega (arith, p, q)

pub way_one : (from : ℕ) (xs : List Sent) (to : ℕ) → Way from xs to → Way from (xs ++ Begun ∷ []) (to + 1)
way_one from [] to w = ap (λ n. n + 1) w
way_one from (Begun ∷ xs) to w = way_one (from + 1) xs to w
way_one from (Says n ∷ xs) to w = (w.0, w.1, w.2, way_one w.0 xs to w.3)

pub way_says : (from : ℕ) (xs : List Sent) (to at n : ℕ) → Way from xs to → to ≤ at → n ≡ at % 2 ^ 32 →
    Way from (xs ++ Says n ∷ []) at
way_says from [] to at n w l e = (at, subst (λ x. x ≤ at) (sym w) l, e, refl)
way_says from (Begun ∷ xs) to at n w l e = way_says (from + 1) xs to at n w l e
way_says from (Says m ∷ xs) to at n w l e = (w.0, w.1, w.2, way_says w.0 xs to at n w.3 l e)

pub limits_grow : (come limit : ℕ) (drain : Bool) (gs : List Grant) (last : ℕ) (drains : Bool) →
    Limits come limit drain gs last drains → limit ≤ last
limits_grow come limit drain [] last drains l = omega (arith, l.0)
limits_grow come limit drain (told ∷ gs) last drains l =
    le_trans l.4 (limits_grow come (l.0 + told.link_credit) told.drain gs last drains l.5)

-- the receiver has come further
pub limits_later : (come later limit : ℕ) (drain : Bool) (gs : List Grant) (last : ℕ) (drains : Bool) →
    come ≤ later → Limits come limit drain gs last drains → Limits later limit drain gs last drains
limits_later come later limit drain [] last drains p l = l
limits_later come later limit drain (told ∷ gs) last drains p l =
    let others = limits_later come later (l.0 + told.link_credit) told.drain gs last drains p l.5 in
    (l.0, l.1, le_trans l.2 p, l.3, l.4, others)

-- one flow more
pub limits_more : (come limit : ℕ) (drain : Bool) (gs : List Grant) (last : ℕ) (drains : Bool) (told : Grant) →
    Limits come limit drain gs last drains → told.delivery_count ≡ come % 2 ^ 32 → told.link_credit < 2 ^ 32 →
    last ≤ come + told.link_credit →
    Limits come limit drain (gs ++ told ∷ []) (come + told.link_credit) told.drain
limits_more come limit drain [] last drains told l e s m =
    (come, e, self come, s, subst (λ x. x ≤ come + told.link_credit) (sym l.0) m, (refl, refl))
  where
    self : (n : ℕ) → n ≤ n
    self n = omega arith
limits_more come limit drain (first ∷ gs) last drains told l e s m = (
  l.0,
  l.1,
  l.2,
  l.3,
  l.4,
  limits_more come (l.0 + first.link_credit) first.drain gs last drains told l.5 e s m,
)

-- ---- both ends

pub record PairStands (p : Pair) : Type 0 where
  pub come : ℕ
  pub gone : ℕ
  pub come_is : p.receiver.count ≡ come % 2 ^ 32
  pub gone_is : p.sender.count ≡ gone % 2 ^ 32
  pub way : Way come p.to_receiver gone
  pub limits : Limits come (gone + p.sender.credit) p.sender.drain p.to_sender (come + p.receiver.credit)
      p.receiver.draining
  pub small : p.receiver.credit < 2 ^ 32
  pub rule : IsRule p.receiver.renewal

small_mod : (n : ℕ) → n < 2 ^ 32 → n ≡ n % 2 ^ 32
small_mod n h = omega (arith, h)

pub new_stands : (initial : ℕ) (renewal : Option Renewal) → initial < 2 ^ 32 → IsRule renewal →
    PairStands (new_pair initial renewal)
new_stands initial renewal h r = record {
  come = initial;
  gone = initial;
  come_is = small_mod initial h;
  gone_is = small_mod initial h;
  way = refl;
  limits = (refl, refl);
  small = omega arith;
  rule = r;
}

pub mod_sum : (a n : ℕ) → advanced (a % 2 ^ 32) n ≡ (a + n) % 2 ^ 32
mod_sum a n = omega arith

-- ---- the receiver's calls

-- it tells a credit that is no less than it was
pub announced : (p : Pair) (r : ReceiverView) (told : Grant) → PairStands p → r.count ≡ p.receiver.count →
    r.renewal ≡ p.receiver.renewal → p.receiver.credit ≤ r.credit → r.credit < 2 ^ 32 → told ≡ told_by r →
    PairStands (record p { receiver = r; to_sender = p.to_sender ++ told ∷ [] })
announced p r told k count renewal more small e =
    let limit = sum_more k.come p.receiver.credit r.credit more in
    record {
      come = k.come;
      gone = k.gone;
      come_is = count ∙ k.come_is;
      gone_is = k.gone_is;
      way = k.way;
      limits = subst
          (λ (g : Grant). Limits k.come (k.gone + p.sender.credit) p.sender.drain (p.to_sender ++ g ∷ [])
          (k.come + r.credit) r.draining)
          (sym e)
          (limits_more k.come (k.gone + p.sender.credit) p.sender.drain p.to_sender (k.come + p.receiver.credit)
          p.receiver.draining (told_by r) k.limits (count ∙ k.come_is) small limit);
      small = small;
      rule = subst IsRule (sym renewal) k.rule;
    }
  where
    sum_more : (m a b : ℕ) → a ≤ b → m + a ≤ m + b
    sum_more m a b h = omega (arith, h)

append_none : {X : Type 0} (xs : List X) → xs ++ [] ≡ xs
append_none [] = refl
append_none (x ∷ xs) = ap (λ ys. x ∷ ys) (append_none xs)

pub receiver_same : (p : Pair) (r : ReceiverView) → PairStands p → r ≡ p.receiver →
    PairStands (record p { receiver = r; to_sender = p.to_sender ++ [] })
receiver_same p r k e =
    subst (λ x. PairStands (record p { receiver = x; to_sender = p.to_sender ++ [] })) (sym e)
    (subst (λ gs. PairStands (record p { to_sender = gs })) (sym (append_none p.to_sender)) k)

-- so many come: those of one delivery, or those up to what a flow says
pub came : (p : Pair) (r : ReceiverView) (n : ℕ) (others : List Sent) (k : PairStands p) →
    r.count ≡ advanced p.receiver.count n →
    r.credit ≡ p.receiver.credit - n → n ≤ p.receiver.credit → r.draining ≡ p.receiver.draining →
    r.renewal ≡ p.receiver.renewal → Way (k.come + n) others k.gone →
    PairStands (record p { receiver = r; to_receiver = others })
came p r n others k count credit within draining renewal way = record {
  come = k.come + n;
  gone = k.gone;
  come_is = count ∙ ap (λ m. advanced m n) k.come_is ∙ mod_sum k.come n;
  gone_is = k.gone_is;
  way = way;
  limits = subst
      (λ b. Limits (k.come + n) (k.gone + p.sender.credit) p.sender.drain p.to_sender (k.come + n + r.credit) b)
      (sym draining)
      (subst
      (λ m. Limits (k.come + n) (k.gone + p.sender.credit) p.sender.drain p.to_sender m p.receiver.draining)
      (same_limit k.come n p.receiver.credit r.credit within credit)
      (limits_later k.come (k.come + n) (k.gone + p.sender.credit) p.sender.drain p.to_sender
      (k.come + p.receiver.credit) p.receiver.draining (grows k.come n) k.limits));
  small = fewer p.receiver.credit n r.credit credit k.small;
  rule = subst IsRule (sym renewal) k.rule;
}
  where
    grows : (m n : ℕ) → m ≤ m + n
    grows m n = omega arith

    same_limit : (m n a b : ℕ) → n ≤ a → b ≡ a - n → m + a ≡ m + n + b
    same_limit m n a b h e = omega (arith, h, e)

    fewer : (a n b : ℕ) → b ≡ a - n → a < 2 ^ 32 → b < 2 ^ 32
    fewer a n b e h = omega (arith, e, h)

-- ---- the sender's calls

-- so many go out
pub went : (p : Pair) (s : SenderView) (n : ℕ) (xs : List Sent) (k : PairStands p) →
    s.count ≡ advanced p.sender.count n → s.credit ≡ p.sender.credit - n → n ≤ p.sender.credit →
    s.drain ≡ p.sender.drain → Way k.come xs (k.gone + n) →
    PairStands (record p { sender = s; to_receiver = xs })
went p s n xs k count credit within drain way = record {
  come = k.come;
  gone = k.gone + n;
  come_is = k.come_is;
  gone_is = count ∙ ap (λ m. advanced m n) k.gone_is ∙ mod_sum k.gone n;
  way = way;
  limits = subst
      (λ b. Limits k.come (k.gone + n + s.credit) b p.to_sender (k.come + p.receiver.credit) p.receiver.draining)
      (sym drain)
      (subst
      (λ m. Limits k.come m p.sender.drain p.to_sender (k.come + p.receiver.credit) p.receiver.draining)
      (same_limit k.gone n p.sender.credit s.credit within credit) k.limits);
  small = k.small;
  rule = k.rule;
}
  where
    same_limit : (m n a b : ℕ) → n ≤ a → b ≡ a - n → m + a ≡ m + n + b
    same_limit m n a b h e = omega (arith, h, e)

pub sender_same : (p : Pair) (s : SenderView) → PairStands p → s ≡ p.sender →
    PairStands (record p { sender = s; to_receiver = p.to_receiver ++ [] })
sender_same p s k e =
    subst (λ x. PairStands (record p { sender = x; to_receiver = p.to_receiver ++ [] })) (sym e)
    (subst (λ xs. PairStands (record p { to_receiver = xs })) (sym (append_none p.to_receiver)) k)

-- what a flow leaves is up to its limit
left_is : (gone credit at granted : ℕ) → at ≤ gone → gone + credit ≤ at + granted → granted < 2 ^ 32 →
    at + granted ≡ gone + (granted - past (gone % 2 ^ 32) (at % 2 ^ 32))
left_is gone credit at granted l m s = omega (arith, l, m, s)

-- a flow comes
pub flow_came : (p : Pair) (s : SenderView) (told : Grant) (others : List Grant) → PairStands p →
    p.to_sender ≡ told ∷ others → s.count ≡ p.sender.count →
    s.credit ≡ told.link_credit - past p.sender.count told.delivery_count → s.drain ≡ told.drain →
    PairStands (record p { sender = s; to_sender = others })
flow_came p s told others k first count credit drain =
    let l = subst
    (λ gs. Limits k.come (k.gone + p.sender.credit) p.sender.drain gs (k.come + p.receiver.credit)
    p.receiver.draining) first k.limits in
    let seen = le_trans l.2 (way_grows k.come p.to_receiver k.gone k.way) in
    let limit = left_is k.gone p.sender.credit l.0 told.link_credit seen l.4 l.3 in
    let credit_is = credit ∙ ap₂ (λ m n. told.link_credit - past m n) k.gone_is l.1 in
    record {
      come = k.come;
      gone = k.gone;
      come_is = k.come_is;
      gone_is = count ∙ k.gone_is;
      way = k.way;
      limits = subst
          (λ b. Limits k.come (k.gone + s.credit) b others (k.come + p.receiver.credit) p.receiver.draining)
          (sym drain)
          (subst
          (λ m. Limits k.come m told.drain others (k.come + p.receiver.credit) p.receiver.draining)
          (limit ∙ ap (λ n. k.gone + n) (sym credit_is)) l.5);
      small = k.small;
      rule = k.rule;
    }
