-- Serial numbers in order, and how far they lie after the first.
use Rattle.std.proofs.Common.{◌≡◌, ℕ, suc, zero, ◌+◌, ◌^◌, ◌<◌, arith, List, [], ◌∷◌, ◌++◌, length, take, map}
use Rattle.std.proofs.Common.{nat_lt, cond}
use Rattle.std.proofs.Common.{ap, sym, subst, ◌∙◌, refl, ◌&&◌, Bool, true, false, true≢false, Some}
use Rattle.std.specs.Prelude.{slice_get}
use Rattle.std.specs.List.{filter, list_all}
use Rattle.std.proofs.lemmas.Bool.Decides.{nat_tests}
use Rattle.std.proofs.lemmas.Grind.{common_steps}
use Rattle.amqp_unsettled.specs.Serial.{distance, is_after}
use Rattle.amqp_unsettled.specs.Inner.Order.{Each, Above, Below, IsRising}
use Rattle.amqp_unsettled.specs.Inner.Rows.{IsBefore, InSerial}

module _ {X : Type 0} (p : X → Bool) where
  pub all_pass : (xs : List X) → Each (λ x. p x ≡ true) xs → list_all p xs ≡ true
  all_pass [] h = refl
  all_pass (x ∷ xs) h = rw h.0 (all_pass xs h.1)

  pub each_passes : (xs : List X) → list_all p xs ≡ true → Each (λ x. p x ≡ true) xs
  each_passes [] h = tt
  each_passes (x ∷ xs) h = by (p x) refl (λ k. each_passes xs k)
    where
      by : (b : Bool) → p x ≡ b → (list_all p xs ≡ true → Each (λ y. p y ≡ true) xs) → Each (λ y. p y ≡ true) (x ∷ xs)
      by true t on = (t, on (sym (ap (λ b. b && list_all p xs) t) ∙ h))
      by false t on = absurd (true≢false (sym h ∙ ap (λ b. b && list_all p xs) t))

pub is_after_is : (a n : ℕ) → 0 < distance a n → distance a n < 2 ^ 31 → is_after a n ≡ true
is_after_is a n h k =
    let t : nat_lt 0 (distance a n) ≡ true = grind (arith, nat_tests, common_steps) in
    let u : nat_lt (distance a n) (2 ^ 31) ≡ true = grind (arith, nat_tests, common_steps) in
    rw (t, u) refl

pub is_after_parts : (a n : ℕ) → is_after a n ≡ true → (0 < distance a n) × (distance a n < 2 ^ 31)
is_after_parts a n h = by (nat_lt 0 (distance a n)) (nat_lt (distance a n) (2 ^ 31)) refl refl
  where
    by : (b c : Bool) → nat_lt 0 (distance a n) ≡ b → nat_lt (distance a n) (2 ^ 31) ≡ c → (0 < distance a n)
        × (distance a n < 2 ^ 31)
    by true true t u = (grind (arith, nat_tests, common_steps), grind (arith, nat_tests, common_steps))
    by true false t u = absurd (true≢false (sym h ∙ ap (λ b. b && nat_lt (distance a n) (2 ^ 31)) t ∙ u))
    by false c t u = absurd (true≢false (sym h ∙ ap (λ b. b && nat_lt (distance a n) (2 ^ 31)) t))

-- a number after another one lies farther after the base
pub farther : (base a n : ℕ) → base < 2 ^ 32 → a < 2 ^ 32 → n < 2 ^ 32 → distance base a < 2 ^ 31 → 0 < distance a n →
    distance a n < 2 ^ 31 →
    distance base n ≡ distance base a + distance a n
farther base a n hb ha hn h k l = omega (arith, hb, ha, hn, h, k, l)

pub after_by : (base a n : ℕ) → base < 2 ^ 32 → a < 2 ^ 32 → n < 2 ^ 32 → distance base a < distance base n →
    distance a n + distance base a ≡ distance base n
after_by base a n hb ha hn h = omega (arith, hb, ha, hn, h)

-- ---- numbers in order

above_far : (n a : ℕ) (ms : List ℕ) → n < 2 ^ 32 → a < 2 ^ 32 → Below (2 ^ 32) ms → is_after n a ≡ true →
    IsBefore a ms → Above (distance n a) (map (distance n) ms)
above_far n a [] hn ha hs t b = tt
above_far n a (m ∷ ms) hn ha hs t b =
    let p = is_after_parts n a t in
    let q = is_after_parts a m b.0 in
    let d = farther n a m hn ha hs.0 p.1 q.0 q.1 in
    (omega (arith, d, q.0), above_far n a ms hn ha hs.1 t b.1)

rising_after : (n : ℕ) (ms : List ℕ) → n < 2 ^ 32 → Below (2 ^ 32) ms → IsBefore n ms → InSerial ms →
    IsRising (map (distance n) ms)
rising_after n [] hn hs b s = tt
rising_after n (m ∷ ms) hn hs b s =
    (above_far n m ms hn hs.0 hs.1 b.0 s.0, rising_after n ms hn hs.1 b.1 s.1)

above_first : (n : ℕ) (ms : List ℕ) → n < 2 ^ 32 → IsBefore n ms → Above (distance n n) (map (distance n) ms)
above_first n [] hn b = tt
above_first n (m ∷ ms) hn b =
    let p = is_after_parts n m b.0 in
    let z : distance n n ≡ 0 = omega (arith, hn) in
    (omega (arith, p.0, z), above_first n ms hn b.1)

half_after : (n : ℕ) (ms : List ℕ) → IsBefore n ms → Below (2 ^ 31) (map (distance n) ms)
half_after n [] b = tt
half_after n (m ∷ ms) b = let p = is_after_parts n m b.0 in (p.1, half_after n ms b.1)

-- from the first one on they rise, over less than half of the circle
pub rising_first : (n : ℕ) (ms : List ℕ) → Below (2 ^ 32) (n ∷ ms) → InSerial (n ∷ ms) →
    IsRising (map (distance n) (n ∷ ms))
rising_first n ms hs s = (above_first n ms hs.0 s.0, rising_after n ms hs.0 hs.1 s.0 s.1)

pub half_first : (n : ℕ) (ms : List ℕ) → Below (2 ^ 32) (n ∷ ms) → InSerial (n ∷ ms) →
    Below (2 ^ 31) (map (distance n) (n ∷ ms))
half_first n ms hs s = let z : distance n n ≡ 0 = let h = hs.0 in omega (arith, h) in (
  omega (arith, z),
  half_after n ms
      s.0,
)

-- ---- parts of them

pub before_take : (n k : ℕ) (ms : List ℕ) → IsBefore n ms → IsBefore n (take k ms)
before_take n zero ms b = tt
before_take n (suc k) [] b = tt
before_take n (suc k) (m ∷ ms) b = (b.0, before_take n k ms b.1)

pub serial_take : (k : ℕ) (ns : List ℕ) → InSerial ns → InSerial (take k ns)
serial_take zero ns s = tt
serial_take (suc k) [] s = tt
serial_take (suc k) (n ∷ ns) s = (before_take n k ns s.0, serial_take k ns s.1)

module _ {X : Type 0} (f : X → ℕ) (p : X → Bool) where
  before_filter : (n : ℕ) (xs : List X) → IsBefore n (map f xs) → IsBefore n (map f (filter p xs))
  before_filter n [] b = tt
  before_filter n (x ∷ xs) b = by (p x) (before_filter n xs b.1)
    where
      by : (t : Bool) → IsBefore n (map f (filter p xs)) → IsBefore n (map f (cond t (x ∷ filter p xs) (filter p xs)))
      by true r = (b.0, r)
      by false r = r

  pub serial_filter : (xs : List X) → InSerial (map f xs) → InSerial (map f (filter p xs))
  serial_filter [] s = tt
  serial_filter (x ∷ xs) s = by (p x) (before_filter (f x) xs s.0) (serial_filter xs s.1)
    where
      by : (t : Bool) → IsBefore (f x) (map f (filter p xs)) → InSerial (map f (filter p xs)) →
          InSerial (map f (cond t (x ∷ filter p xs) (filter p xs)))
      by true b r = (b, r)
      by false b r = r

  pub small_filter : (n : ℕ) (xs : List X) → Below n (map f xs) → Below n (map f (filter p xs))
  small_filter n [] b = tt
  small_filter n (x ∷ xs) b = by (p x) (small_filter n xs b.1)
    where
      by : (t : Bool) → Below n (map f (filter p xs)) → Below n (map f (cond t (x ∷ filter p xs) (filter p xs)))
      by true r = (b.0, r)
      by false r = r

-- ---- one more

before_end : (m n : ℕ) (ms : List ℕ) → IsBefore m ms → is_after m n ≡ true → IsBefore m (ms ++ n ∷ [])
before_end m n [] b t = (t, tt)
before_end m n (k ∷ ks) b t = (b.0, before_end m n ks b.1 t)

pub serial_end : (n : ℕ) (ms : List ℕ) → InSerial ms → Each (λ m. is_after m n ≡ true) ms → InSerial (ms ++ n ∷ [])
serial_end n [] s h = (tt, tt)
serial_end n (m ∷ ms) s h = (before_end m n ms s.0 h.0, serial_end n ms s.1 h.1)

pub small_end : (b n : ℕ) (ms : List ℕ) → Below b ms → n < b → Below b (ms ++ n ∷ [])
small_end b n [] s h = (h, tt)
small_end b n (m ∷ ms) s h = (s.0, small_end b n ms s.1 h)

-- ---- one that lies after the first and the last lies after all

between : (o m w n : ℕ) → o < 2 ^ 32 → m < 2 ^ 32 → w < 2 ^ 32 → n < 2 ^ 32 → is_after o m ≡ true →
    is_after m w ≡ true → is_after o w ≡ true → is_after w n ≡ true → is_after o n ≡ true → is_after m n ≡ true
between o m w n ho hm hw hn om mw ow wn on =
    let a = is_after_parts o m om in
    let b = is_after_parts m w mw in
    let c = is_after_parts w n wn in
    let d = is_after_parts o n on in
    let e = is_after_parts o w ow in
    let f = farther o m w ho hm hw a.1 b.0 b.1 in
    let g = farther o w n ho hw hn e.1 c.0 c.1 in
    let k = after_by o m n ho hm hn (omega (arith, f, g, b.0, c.0)) in
    is_after_is m n (omega (arith, k, f, g, b.0, c.0)) (omega (arith, k, d.1))

abbrev LastIs : ℕ → List ℕ → Type 0
LastIs w [] = Unit {0}
LastIs w (m ∷ []) = m ≡ w
LastIs w (m ∷ k ∷ ks) = LastIs w (k ∷ ks)

last_is : (ns : List ℕ) (i w : ℕ) → suc i ≡ length ns → slice_get ns i ≡ Some w → LastIs w ns
last_is [] i w h e = tt
last_is (m ∷ []) zero w h e = let is : m ≡ w = grind (arith, e) in is
last_is (m ∷ []) (suc i) w h e = absurd (omega (arith, h))
last_is (m ∷ k ∷ ks) zero w h e = absurd (omega (arith, h))
last_is (m ∷ k ∷ ks) (suc i) w h e = last_is (k ∷ ks) i w (omega (arith, h)) e

-- m is the last, or lies before it
before_last : (m w : ℕ) (ks : List ℕ) → IsBefore m ks → LastIs w (m ∷ ks) → (k : ℕ) (rest : List ℕ) → ks ≡ k ∷ rest →
    is_after m w ≡ true
before_last m w [] b l k rest e = absurd (let n : (let n : List ℕ = [] in n) ≡ k ∷ rest = e in grind (arith, n))
before_last m w (a ∷ []) b l k rest e = let is : a ≡ w = l in subst (λ x. is_after m x ≡ true) is b.0
before_last m w (a ∷ c ∷ cs) b l k rest e = before_last m w (c ∷ cs) b.1 (skip l) c cs refl
  where
    skip : LastIs w (m ∷ a ∷ c ∷ cs) → LastIs w (m ∷ c ∷ cs)
    skip x = x

later_ones : (o w n : ℕ) (ms : List ℕ) → o < 2 ^ 32 → w < 2 ^ 32 → n < 2 ^ 32 → Below (2 ^ 32) ms → IsBefore o ms →
    InSerial ms → LastIs w ms → is_after w n ≡ true → is_after o n ≡ true → Each (λ m. is_after m n ≡ true) ms
later_ones o w n [] ho hw hn hs b s l wn on = tt
later_ones o w n (m ∷ []) ho hw hn hs b s l wn on = (
  let is : m ≡ w = l in subst (λ x. is_after x n ≡ true) (sym is) wn,
  tt,
)
later_ones o w n (m ∷ k ∷ ks) ho hw hn hs b s l wn on = (
  let mw = before_last m w (k ∷ ks) s.0 l k ks refl in
      let ow = before_last o w (m ∷ k ∷ ks) b l m (k ∷ ks) refl in
      between o m w n ho hs.0 hw hn b.0 mw ow wn on,
  later_ones o w n (k ∷ ks) ho hw hn hs.1 b.1 s.1 l wn on,
)

pub all_before : (o w n i : ℕ) (ms : List ℕ) → w < 2 ^ 32 → n < 2 ^ 32 → Below (2 ^ 32) (o ∷ ms) → InSerial (o ∷ ms) →
    i ≡ length ms → slice_get (o ∷ ms) i ≡ Some w → is_after o n ≡ true → is_after w n ≡ true →
    Each (λ m. is_after m n ≡ true) (o ∷ ms)
all_before o w n i [] hw hn hs s h e on wn = (on, tt)
all_before o w n i (m ∷ ms) hw hn hs s h e on wn =
    (on, later_ones o w n (m ∷ ms) hs.0 hw hn hs.1 s.0 s.1 (last_is (o ∷ m ∷ ms) i w (omega (arith, h)) e) wn on)
