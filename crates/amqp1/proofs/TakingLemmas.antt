-- How far the bytes that wait are taken.
use Rattle.std.proofs.Common.{◌≡◌, ◌≤◌, ◌<◌, ◌+◌, ◌-◌, ℕ, zero, suc, List, [], ◌∷◌, ◌++◌, length, take, drop, min, max, refl, ap, sym, subst, ◌∙◌, append_assoc, inl, inr, Bool, true, false, arith}
use Rattle.std.proofs.lemmas.Bool.{cases_lt}
use Rattle.std.proofs.lemmas.List.{append-nil, drop_all, length-append, length-drop, length-take-le, take-append-le, take_at, drop-drop}
use Rattle.std.proofs.Math.Seq.{drop-append-add, take-add}
use Rattle.amqp_idle.specs.Idle.{IdleView, sent_at}
use Rattle.amqp_sasl.specs.Opening.{is_done}
use Rattle.amqp_driver.specs.Stream.{StreamView, beat_bytes, empty_frame, frames_if, having_sent, sent_some, waiting}
use Rattle.amqp1.specs.Taking.{TakesFront, TakesOff}
use Rattle.amqp1.specs.Writing.{fills}

-- so many bytes of those that wait stand in the output
pub record Taken (waits old : List ℕ) (at : ℕ) (left new : List ℕ) : Type 0 where
  pub within : at ≤ length old
  pub there : at ≤ length waits
  pub left_is : left ≡ drop at waits
  pub output_is : new ≡ take at waits ++ drop at old

pub none_taken : (waits old : List ℕ) → Taken waits old 0 waits old
none_taken waits old = record { within = omega arith; there = omega arith; left_is = refl; output_is = refl }

taken_length : (waits old : List ℕ) (at : ℕ) → at ≤ length old → at ≤ length waits → length (take at waits ++ drop at old) ≡ length old
taken_length waits old at h k = rw (length-append (take at waits) (drop at old), length-take-le at waits k, length-drop at old) (omega arith)

front_is : (waits old : List ℕ) (at : ℕ) → at ≤ length waits → take at (take at waits ++ drop at old) ≡ take at waits
front_is waits old at k = take_at (take at waits) (drop at old) at (length-take-le at waits k)

after_is : (waits old : List ℕ) (at n : ℕ) → at ≤ length waits → drop (at + n) (take at waits ++ drop at old) ≡ drop (at + n) old
after_is waits old at n k =
    ap (λ m. drop (m + n) (take at waits ++ drop at old)) (sym (length-take-le at waits k))
    ∙ drop-append-add (take at waits) (drop at old) n ∙ drop-drop n at old

pub taken_more : (waits old : List ℕ) (at n : ℕ) (left new left' new' : List ℕ) → Taken waits old at left new → TakesFront at left new n left' new'
    → Taken waits old (at + n) left' new'
taken_more waits old at n left new left' new' t f = record {
  within = subst (λ k. at + n ≤ k) (ap length t.output_is ∙ taken_length waits old at t.within t.there) f.within;
  there = let e : n ≤ length waits - at = subst (λ k. n ≤ k) (ap length t.left_is ∙ length-drop at waits) f.there in let k : at ≤ length waits = t.there in omega arith;
  left_is = f.rest ∙ ap (λ (w : List ℕ). drop n w) t.left_is ∙ drop-drop n at waits;
  output_is = f.output
      ∙ ap (λ (o : List ℕ). take at o ++ (take n left ++ drop (at + n) o)) t.output_is
      ∙ ap (λ (p : List ℕ). p ++ (take n left ++ drop (at + n) (take at waits ++ drop at old))) (front_is waits old at t.there)
      ∙ ap (λ (b : List ℕ). take at waits ++ (take n left ++ b)) (after_is waits old at n t.there)
      ∙ ap (λ (w : List ℕ). take at waits ++ (take n w ++ drop (at + n) old)) t.left_is
      ∙ sym (append_assoc (take at waits) (take n (drop at waits)) (drop (at + n) old))
      ∙ ap (λ (p : List ℕ). p ++ drop (at + n) old) (sym (take-add at n waits));
}

-- the output is full, or nothing is left
pub taken_full : (waits old : List ℕ) (at : ℕ) (left new : List ℕ) → Taken waits old at left new → length new ≤ at → TakesOff waits old at left new
taken_full waits old at left new t h = record {
  count = let e : length old ≤ at = subst (λ k. k ≤ at) (ap length t.output_is ∙ taken_length waits old at t.within t.there) h in
      let a : at ≤ length old = t.within in let b : at ≤ length waits = t.there in omega arith;
  rest = t.left_is;
  output = t.output_is;
}

pub taken_all : (waits old : List ℕ) (at : ℕ) (left new : List ℕ) → Taken waits old at left new → length left ≡ 0 → TakesOff waits old at left new
taken_all waits old at left new t h = record {
  count = let e : length waits - at ≡ 0 = sym (ap length t.left_is ∙ length-drop at waits) ∙ h in
      let a : at ≤ length old = t.within in let b : at ≤ length waits = t.there in omega arith;
  rest = t.left_is;
  output = t.output_is;
}

-- ---- what is left of a stream

-- a stream with this left
left_of : {R : Type 0} → StreamView R → List ℕ → ℕ → IdleView → List ℕ → StreamView R
left_of v first beat clock to_send = record v { first = first; beat = beat; clock = clock; driver = record v.driver { to_send = to_send } }

-- nothing went out
pub none_off : {R : Type 0} (v : StreamView R) → v ≡ having_sent 0 v
unfolding left_of
none_off v =
    let len : ℕ = length v.first in
    let beat : v.beat ≡ v.beat - (0 - len) = omega arith in
    let none : 0 ≡ (0 - len) - v.beat = omega arith in
    ap (λ (k : ℕ). left_of v v.first k v.clock v.driver.to_send) beat
    ∙ ap (λ (k : ℕ). left_of v v.first (v.beat - (0 - len)) v.clock (drop k v.driver.to_send)) none

max_twice : (s : ℕ) → max (max s 0) 0 ≡ max s 0
max_twice s = omega arith

sent_twice : (clock : IdleView) → sent_at 0 (sent_at 0 clock) ≡ sent_at 0 clock
sent_twice clock = ap (λ (k : ℕ). let v : IdleView = record clock { seen = k; sent = k } in v) (max_twice clock.seen)

clock_more : (n m : ℕ) (clock : IdleView) → sent_some m (sent_some n clock) ≡ sent_some (n + m) clock
clock_more zero m clock = let e : m ≡ 0 + m = omega arith in ap (λ (k : ℕ). sent_some k clock) e
clock_more (suc n) zero clock = let e : suc n ≡ suc n + 0 = omega arith in ap (λ (k : ℕ). sent_some k clock) e
clock_more (suc n) (suc m) clock =
    let e : suc (n + (m + 1)) ≡ suc n + suc m = omega arith in sent_twice clock ∙ ap (λ (k : ℕ). sent_some k clock) e

beat_more : (n m len after beat : ℕ) → after ≡ len - n → (beat - (n - len)) - (m - after) ≡ beat - ((n + m) - len)
beat_more n m len after beat e = omega arith

to_send_more : (n m len after beat : ℕ) → after ≡ len - n → ((n - len) - beat) + ((m - after) - (beat - (n - len))) ≡ ((n + m) - len) - beat
to_send_more n m len after beat e = omega arith

-- some went out, and then some more
pub more_off : {R : Type 0} (n m : ℕ) (v : StreamView R) → having_sent m (having_sent n v) ≡ having_sent (n + m) v
unfolding left_of
more_off n m v =
    let len : ℕ = length v.first in
    let after : ℕ = length (drop n v.first) in
    let is : after ≡ len - n = length-drop n v.first in
    let b : ℕ = (v.beat - (n - len)) - (m - after) in
    let c : IdleView = sent_some m (sent_some n v.clock) in
    let t : List ℕ = drop ((m - after) - (v.beat - (n - len))) (drop ((n - len) - v.beat) v.driver.to_send) in
    ap (λ (xs : List ℕ). left_of v xs b c t) (drop-drop m n v.first)
    ∙ ap (λ (k : ℕ). left_of v (drop (n + m) v.first) k c t) (beat_more n m len after v.beat is)
    ∙ ap (λ (k : IdleView). left_of v (drop (n + m) v.first) (v.beat - ((n + m) - len)) k t) (clock_more n m v.clock)
    ∙ ap (λ (xs : List ℕ). left_of v (drop (n + m) v.first) (v.beat - ((n + m) - len)) (sent_some (n + m) v.clock) xs)
    (drop-drop ((m - after) - (v.beat - (n - len))) ((n - len) - v.beat) v.driver.to_send
    ∙ ap (λ (k : ℕ). drop k v.driver.to_send) (to_send_more n m len after v.beat is))

pub sent_more : {R : Type 0} (v k w : StreamView R) (at n : ℕ) → k ≡ having_sent at v → w ≡ having_sent n k → w ≡ having_sent (at + n) v
sent_more v k w at n e f = f ∙ ap (λ (x : StreamView _). having_sent n x) e ∙ more_off at n v

-- what is dropped of two lists, one after the other
drop_both : (n : ℕ) (xs ys : List ℕ) → drop n (xs ++ ys) ≡ drop n xs ++ drop (n - length xs) ys
drop_both zero xs ys = let e : 0 ≡ 0 - length xs = omega arith in ap (λ (k : ℕ). xs ++ drop k ys) e
drop_both (suc n) [] ys = let e : suc n ≡ suc n - 0 = omega arith in ap (λ (k : ℕ). drop k ys) e
drop_both (suc n) (x ∷ xs) ys =
    let e : n - length xs ≡ suc n - suc (length xs) = omega arith in drop_both n xs ys ∙ ap (λ (k : ℕ). drop n xs ++ drop k ys) e

length_beat : (b : ℕ) → b ≤ 8 → length (beat_bytes b) ≡ b
length_beat b most = length-drop (8 - b) empty_frame ∙ omega arith

drop_beat : (k b : ℕ) → b ≤ 8 → drop k (beat_bytes b) ≡ beat_bytes (b - k)
drop_beat k b most =
    drop-drop k (8 - b) empty_frame ∙ elim (cases_lt b k) [
      | inl past ↦ drop_all (8 - b + k) empty_frame (omega arith) ∙ sym (drop_all (8 - (b - k)) empty_frame (omega arith))
      | inr within ↦ ap (λ (n : ℕ). drop n empty_frame) (omega arith)
    ]

drop_frames : {R : Type 0} (n : ℕ) (v : StreamView R) → v.beat ≤ 8
    → drop n (beat_bytes v.beat ++ v.driver.to_send) ≡ beat_bytes (v.beat - n) ++ drop (n - v.beat) v.driver.to_send
drop_frames n v most =
    drop_both n (beat_bytes v.beat) v.driver.to_send
    ∙ ap (λ (xs : List ℕ). xs ++ drop (n - length (beat_bytes v.beat)) v.driver.to_send) (drop_beat n v.beat most)
    ∙ ap (λ (k : ℕ). beat_bytes (v.beat - n) ++ drop (n - k) v.driver.to_send) (length_beat v.beat most)

drop_where : {R : Type 0} (is_open : Bool) (n : ℕ) (v : StreamView R) → v.beat ≤ 8
    → drop n v.first ++ frames_if is_open (having_sent n v) ≡ drop n (v.first ++ frames_if is_open v)
drop_where false n v most = append-nil (drop n v.first) ∙ ap (λ (xs : List ℕ). drop n xs) (sym (append-nil v.first))
drop_where true n v most =
    ap (λ (xs : List ℕ). drop n v.first ++ xs) (sym (drop_frames (n - length v.first) v most))
    ∙ sym (drop_both n v.first (beat_bytes v.beat ++ v.driver.to_send))

-- what waits after some went out is what is left of what waited
pub sent_waits : {R : Type 0} (n : ℕ) (v : StreamView R) → v.beat ≤ 8 → waiting (having_sent n v) ≡ drop n (waiting v)
sent_waits n v most = drop_where (is_done v.opening.phase) n v most

some_there : (chunk waits : List ℕ) → (chunk ≡ [] → waits ≡ []) → 0 < length waits → 0 < length chunk
some_there [] waits none some = let e : length waits ≡ 0 = ap length (none refl) in absurd (omega (arith, e, some))
some_there (b ∷ chunk) waits none some = omega arith

-- bytes of the front went to the output
pub front_taken : {R : Type 0} (v w : StreamView R) (at n : ℕ) (chunk rest bytes old new : List ℕ) → v.beat ≤ 8 → waiting v ≡ chunk ++ rest
    → (chunk ≡ [] → waiting v ≡ []) → 0 < length (waiting v) → at < length old → n ≡ min (length chunk) (length old - at) → bytes ≡ take n chunk
    → new ≡ fills at bytes old → w ≡ having_sent n v → TakesFront at (waiting v) old n (waiting w) new
front_taken v w at n chunk rest bytes old new beat front none some room count is filled sent =
    let there : n ≤ length chunk = omega (arith, count) in
    let all : length (waiting v) ≡ length chunk + length rest = ap length front ∙ length-append chunk rest in
    let long : length bytes ≡ n = ap length is ∙ length-take-le n chunk there in
    let taken : bytes ≡ take n (waiting v) = is ∙ sym (ap (λ (x : List ℕ). take n x) front ∙ take-append-le n chunk rest there) in record {
      some = omega (arith, count, some_there chunk (waiting v) none some, room);
      within = omega (arith, count, room);
      there = omega (arith, there, all);
      rest = ap (λ (x : StreamView _). waiting x) sent ∙ sent_waits n v beat;
      output = filled ∙ ap (λ (b : List ℕ). take at old ++ (b ++ drop (at + length bytes) old)) taken
          ∙ ap (λ (k : ℕ). take at old ++ (take n (waiting v) ++ drop (at + k) old)) long;
    }
