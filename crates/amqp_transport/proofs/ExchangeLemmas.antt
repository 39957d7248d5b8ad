-- What went out of a stream in several steps, as one.
use Rattle.std.proofs.Common.{◌≡◌, ℕ, zero, suc, ◌+◌, ◌-◌, ◌<◌, ◌≤◌, max, List, [], ◌++◌, length, take, drop, Option, refl, ap, sym, subst, ◌∙◌, arith}
use Rattle.std.proofs.Math.Seq.{take-add}
use Rattle.std.specs.Io.KnownBytes.{Appends}
use Rattle.std.proofs.KnownBytes.{Appends-nil, Appends-trans}
use Rattle.std.proofs.lemmas.List.{length-drop, drop-drop, take_all}
use Rattle.amqp_idle.specs.Idle.{IdleView}
use Rattle.amqp_driver.specs.Stream.{StreamView, having_sent, sent_some, waiting}
use Rattle.amqp_driver.proofs.StreamOrderLemmas.{sent_waits}
use Rattle.amqp_transport.specs.Exchange.{SendsSome}

sent_clock : (a b : ℕ) (c : IdleView) → sent_some b (sent_some a c) ≡ sent_some (a + b) c
sent_clock zero b c = let same : b ≡ zero + b = omega arith in ap (λ (n : ℕ). sent_some n c) same
sent_clock (suc a) zero c = let same : suc a ≡ suc a + zero = omega arith in ap (λ (n : ℕ). sent_some n c) same
sent_clock (suc a) (suc b) c =
    let again : max (max c.seen 0) 0 ≡ max c.seen 0 = omega arith in
    let same : suc (a + suc b) ≡ suc a + suc b = omega arith in
    ap (λ (t : ℕ). record c { seen = t; sent = t }) again ∙ ap (λ (n : ℕ). sent_some n c) same

-- a stream of which this waits, and whose clock stands so
abbrev with_left : {R : Type 0} → StreamView R → List ℕ → ℕ → IdleView → List ℕ → StreamView R
with_left v first beat clock to_send = record v { first = first; beat = beat; clock = clock; driver = record v.driver { to_send = to_send } }

same_left : {R : Type 0} (v : StreamView R) (f f' : List ℕ) (b b' : ℕ) (c c' : IdleView) (t t' : List ℕ) → f ≡ f' → b ≡ b' → c ≡ c' → t ≡ t'
    → with_left v f b c t ≡ with_left v f' b' c' t'
same_left v f f' b b' c c' t t' same_f same_b same_c same_t =
    ap (λ (x : List ℕ). with_left v x b c t) same_f ∙ ap (λ (x : ℕ). with_left v f' x c t) same_b
    ∙ ap (λ (x : IdleView). with_left v f' b' x t) same_c ∙ ap (λ (x : List ℕ). with_left v f' b' c' x) same_t

-- nothing went out
pub sent_none : {R : Type 0} (v : StreamView R) → v ≡ having_sent 0 v
sent_none v =
    let beat : v.beat ≡ v.beat - (0 - length v.first) = omega arith in
    let left : 0 ≡ 0 - length v.first - v.beat = omega arith in
    same_left v v.first (drop 0 v.first) v.beat (v.beat - (0 - length v.first)) v.clock (sent_some 0 v.clock) v.driver.to_send
    (drop (0 - length v.first - v.beat) v.driver.to_send) refl beat refl (ap (λ (n : ℕ). drop n v.driver.to_send) left)

-- some went out, and then some more
pub sent_more : {R : Type 0} (a b : ℕ) (v : StreamView R) → having_sent b (having_sent a v) ≡ having_sent (a + b) v
sent_more a b v =
    let l : ℕ = length v.first in
    let d : ℕ = length (drop a v.first) in
    let after : d ≡ l - a = length-drop a v.first in
    let beat : v.beat - (a - l) - (b - d) ≡ v.beat - (a + b - l) = omega (arith, after) in
    let left : (a - l - v.beat) + (b - d - (v.beat - (a - l))) ≡ a + b - l - v.beat = omega (arith, after) in
    same_left v (drop b (drop a v.first)) (drop (a + b) v.first) (v.beat - (a - l) - (b - d)) (v.beat - (a + b - l))
    (sent_some b (sent_some a v.clock)) (sent_some (a + b) v.clock)
    (drop (b - d - (v.beat - (a - l))) (drop (a - l - v.beat) v.driver.to_send)) (drop (a + b - l - v.beat) v.driver.to_send)
    (drop-drop b a v.first) beat (sent_clock a b v.clock)
    (drop-drop (b - d - (v.beat - (a - l))) (a - l - v.beat) v.driver.to_send ∙ ap (λ (n : ℕ). drop n v.driver.to_send) left)

-- ---- what was written of what waits

-- So many of the first bytes went out so far, and were written; the others wait.
pub record Sent {R : Type 0} (old new : Option (List ℕ)) (v w : StreamView R) : Type 0 where
  pub count : ℕ
  pub within : count ≤ length (waiting v)
  pub is : w ≡ having_sent count v
  pub written : Appends old new (take count (waiting v))
  pub rest : waiting w ≡ drop count (waiting v)

pub none_sent : {R : Type 0} (old : Option (List ℕ)) (v : StreamView R) → Sent old old v v
none_sent old v = record { count = 0; within = omega arith; is = sent_none v; written = Appends-nil old; rest = refl }

-- a front of what waits went out, and was written
abbrev pub Front : {R : Type 0} → Option (List ℕ) → Option (List ℕ) → StreamView R → StreamView R → Type 0
Front old new v w = (n : ℕ) × (0 < n) × (n ≤ length (waiting v)) × (w ≡ having_sent n v) × Appends old new (take n (waiting v))

left_after : {R : Type 0} (old new : Option (List ℕ)) (v w : StreamView R) → v.beat ≤ 8 → (f : Front old new v w) → waiting w ≡ drop f.0 (waiting v)
left_after old new v w most f = ap waiting f.3 ∙ sent_waits f.0 v most

pub more_sent : {R : Type 0} (old mid new : Option (List ℕ)) (v m w : StreamView R) → m.beat ≤ 8 → Sent old mid v m → Front mid new m w → Sent old new v w
more_sent old mid new v m w most s f =
    let n : ℕ = f.0 in
    let all : List ℕ = waiting v in
    let size : length (waiting m) ≡ length all - s.count = ap (λ (xs : List ℕ). length xs) s.rest ∙ length-drop s.count all in
    let within : s.count + n ≤ length all = omega (arith, f.1, f.2, size, s.within) in
    let is : w ≡ having_sent (s.count + n) v = f.3 ∙ ap (λ (x : StreamView _). having_sent n x) s.is ∙ sent_more s.count n v in
    let front : take n (waiting m) ≡ take n (drop s.count all) = ap (λ (xs : List ℕ). take n xs) s.rest in
    let both : take s.count all ++ take n (waiting m) ≡ take (s.count + n) all = ap (λ (xs : List ℕ). take s.count all ++ xs) front ∙ sym (take-add s.count n all) in
    let rest : waiting w ≡ drop (s.count + n) all =
    left_after mid new m w most f ∙ ap (λ (xs : List ℕ). drop n xs) s.rest ∙ drop-drop n s.count all in
    record {
      count = s.count + n;
      within = within;
      is = is;
      written = subst (Appends old new) both (Appends-trans old mid new (take s.count all) (take n (waiting m)) s.written f.4);
      rest = rest;
    }

-- less waits then
pub fewer : {R : Type 0} (old new : Option (List ℕ)) (v w : StreamView R) → v.beat ≤ 8 → Front old new v w → length (waiting w) < length (waiting v)
fewer old new v w most f =
    let left : length (waiting w) ≡ length (waiting v) - f.0 = ap (λ (xs : List ℕ). length xs) (left_after old new v w most f) ∙ length-drop f.0 (waiting v) in
    omega (arith, left, f.1, f.2)

pub some_sent : {R : Type 0} (old new : Option (List ℕ)) (v w : StreamView R) → Sent old new v w → SendsSome v w
some_sent old new v w s = (s.count, s.within, s.is)

-- nothing waits any more: all went out
abbrev pub AllSent : {R : Type 0} → Option (List ℕ) → Option (List ℕ) → StreamView R → StreamView R → Type 0
AllSent old new v w = Appends old new (waiting v) × (w ≡ having_sent (length (waiting v)) v)

pub all_sent : {R : Type 0} (old new : Option (List ℕ)) (v w : StreamView R) → Sent old new v w → waiting w ≡ [] → AllSent old new v w
all_sent old new v w s none =
    let left : length (drop s.count (waiting v)) ≡ length (waiting v) - s.count = length-drop s.count (waiting v) in
    let no : length (drop s.count (waiting v)) ≡ 0 = ap (λ (xs : List ℕ). length xs) (sym s.rest ∙ none) in
    let all : s.count ≡ length (waiting v) = omega (arith, left, no, s.within) in
    let past : length (waiting v) ≤ s.count = omega (arith, left, no) in
    (subst (Appends old new) (take_all s.count (waiting v) past) s.written, s.is ∙ ap (λ (n : ℕ). having_sent n v) all)
