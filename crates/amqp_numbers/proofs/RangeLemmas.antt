-- Ranges that are spaced, and one that comes among them.
use Rattle.std.proofs.Common.{◌≡◌, ℕ, zero, suc, ◌+◌, ◌*◌, ◌^◌, ◌<◌, ◌≤◌, List, [], ◌∷◌, ◌++◌, length, take, drop, Bool, true, false, ◌&&◌, ◌||◌, Some, nat_eq, nat_lt, nat_le, slice_get, refl, ap, sym, ◌∙◌, subst, arith}
use Rattle.std.proofs.lemmas.Bool.Decides.{nat_tests}
use Rattle.std.proofs.lemmas.Grind.{common_steps}
use Rattle.amqp_numbers.specs.declared.ranges.Range.{Range}
use Rattle.amqp_numbers.specs.Ranges.{IsSpaced, IsLower, IsUpper, BeginFrom, next_low, is_held}

-- each range takes two numbers at least, with the one that is missing after it
pub few : (rs : List Range) (low : ℕ) → IsSpaced low rs → low ≤ 2 ^ 32 + 1 → low + 2 * length rs ≤ 2 ^ 32 + 1
few [] low s h = omega arith
few (r ∷ rs) low s h = let i = few rs (r.last + 2) s.3 (omega (arith, s.2)) in omega (arith, i, s.0, s.1)

-- ---- parts of spaced ranges

spaced_take : (rs : List Range) (low i : ℕ) → IsSpaced low rs → IsSpaced low (take i rs)
spaced_take [] low zero s = tt
spaced_take [] low (suc i) s = tt
spaced_take (r ∷ rs) low zero s = tt
spaced_take (r ∷ rs) low (suc i) s = (s.0, s.1, s.2, spaced_take rs (r.last + 2) i s.3)

spaced_drop : (rs : List Range) (low i : ℕ) → IsSpaced low rs → (l : ℕ) × IsSpaced l (drop i rs)
spaced_drop [] low zero s = (low, tt)
spaced_drop [] low (suc i) s = (low, tt)
spaced_drop (r ∷ rs) low zero s = (low, s)
spaced_drop (r ∷ rs) low (suc i) s = spaced_drop rs (r.last + 2) i s.3

spaced_from : (rs : List Range) (low l : ℕ) → IsSpaced l rs → BeginFrom low rs → IsSpaced low rs
spaced_from [] low l s h = tt
spaced_from (r ∷ rs) low l s h = (h, s.1, s.2, s.3)

begin_from : (rs : List Range) (low : ℕ) → IsSpaced low rs → BeginFrom low rs
begin_from [] low s = tt
begin_from (r ∷ rs) low s = s.0

spaced_append : (xs ys : List Range) (low : ℕ) → IsSpaced low xs → IsSpaced (next_low low xs) ys → IsSpaced low (xs ++ ys)
spaced_append [] ys low s t = t
spaced_append (r ∷ rs) ys low s t = (s.0, s.1, s.2, spaced_append rs ys (r.last + 2) s.3 t)

pub record IsAt (rs : List Range) (low i : ℕ) (a : Range) : Type 0 where
  pub before : next_low low (take i rs) ≤ a.first
  pub order : a.first ≤ a.last
  pub fits : a.last < 2 ^ 32
  pub after : IsSpaced (a.last + 2) (drop (suc i) rs)
  pub within : i < length rs

at : (rs : List Range) (low i : ℕ) (a : Range) → IsSpaced low rs → slice_get rs i ≡ Some a → IsAt rs low i a
at [] low i a s e = absurd (cc)
at (r ∷ rs) low zero a s e = let x : r ≡ a = cc in subst (λ a. IsAt (r ∷ rs) low zero a) x (record { before = s.0; order = s.1; fits = s.2; after = s.3; within = omega arith })
at (r ∷ rs) low (suc i) a s e = let p = at rs (r.last + 2) i a s.3 e in record { before = p.before; order = p.order; fits = p.fits; after = p.after; within = omega (arith, p.within) }

next_at : (rs : List Range) (low i : ℕ) (a : Range) → slice_get rs i ≡ Some a → next_low low (take (suc i) rs) ≡ a.last + 2
next_at [] low i a e = absurd (cc)
next_at (r ∷ rs) low zero a e = let x : r ≡ a = cc in ap (λ (r : Range). r.last + 2) x
next_at (r ∷ rs) low (suc i) a e = next_at rs (r.last + 2) i a e

-- ---- what they hold

or_three : (a b c : Bool) → (a || (b || c)) ≡ ((a || b) || c)
or_three true b c = refl
or_three false b c = refl

held_append : (xs ys : List Range) (q : ℕ) → is_held q (xs ++ ys) ≡ (is_held q xs || is_held q ys)
held_append [] ys q = refl
held_append (r ∷ rs) ys q = ap (λ b. (nat_le r.first q && nat_le q r.last) || b) (held_append rs ys q) ∙ or_three (nat_le r.first q && nat_le q r.last) (is_held q rs) (is_held q ys)

held_take : (rs : List Range) (i q : ℕ) (a : Range) → slice_get rs i ≡ Some a → is_held q (take (suc i) rs) ≡ (is_held q (take i rs) || (nat_le a.first q && nat_le q a.last))
held_take [] i q a e = absurd (cc)
held_take (r ∷ rs) zero q a e = let x : r ≡ a = cc in ap (λ (r : Range). (nat_le r.first q && nat_le q r.last) || false) x ∙ by (nat_le a.first q && nat_le q a.last)
  where
    by : (b : Bool) → (b || false) ≡ (false || b)
    by true = refl
    by false = refl
held_take (r ∷ rs) (suc i) q a e = ap (λ b. (nat_le r.first q && nat_le q r.last) || b) (held_take rs i q a e) ∙ or_three (nat_le r.first q && nat_le q r.last) (is_held q (take i rs)) (nat_le a.first q && nat_le q a.last)

held_drop : (rs : List Range) (i q : ℕ) (a : Range) → slice_get rs i ≡ Some a → is_held q (drop i rs) ≡ ((nat_le a.first q && nat_le q a.last) || is_held q (drop (suc i) rs))
held_drop [] i q a e = absurd (cc)
held_drop (r ∷ rs) zero q a e = let x : r ≡ a = cc in ap (λ (r : Range). (nat_le r.first q && nat_le q r.last) || is_held q rs) x
held_drop (r ∷ rs) (suc i) q a e = held_drop rs i q a e

held_parts : (rs : List Range) (i q : ℕ) → is_held q rs ≡ (is_held q (take i rs) || is_held q (drop i rs))
held_parts [] zero q = refl
held_parts [] (suc i) q = refl
held_parts (r ∷ rs) zero q = refl
held_parts (r ∷ rs) (suc i) q = ap (λ b. (nat_le r.first q && nat_le q r.last) || b) (held_parts rs i q) ∙ or_three (nat_le r.first q && nat_le q r.last) (is_held q (take i rs)) (is_held q (drop i rs))

-- ---- the ends of a new range

none_below : (n q : ℕ) (b : Bool) → b ≡ (b || (nat_le n q && nat_lt q n))
none_below n q true = refl
none_below n q false = grind (arith, nat_tests, common_steps)

none_above : (n q : ℕ) (b : Bool) → b ≡ ((nat_lt n q && nat_le q n) || b)
none_above n q true = grind (arith, nat_tests, common_steps)
none_above n q false = grind (arith, nat_tests, common_steps)

up_to : (q last n : ℕ) → n ≡ last + 1 → nat_le q last ≡ nat_lt q n
up_to q last n h = grind (arith, nat_tests, common_steps)

from_on : (q first n : ℕ) → first ≡ n + 1 → nat_le first q ≡ nat_lt n q
from_on q first n h = grind (arith, nat_tests, common_steps)

pub lower_first : (rs : List Range) (n : ℕ) → IsLower rs n 0 0 n
lower_first rs n = record { order = omega arith; first_is = omega arith; spaced = omega arith; alone = λ e. refl; numbers = λ q. none_below n q (is_held q (take 0 rs)) }

pub lower_alone : (rs : List Range) (n i : ℕ) (a : Range) → IsSpaced 0 rs → slice_get rs i ≡ Some a → a.last + 2 ≤ n → IsLower rs n (suc i) (suc i) n
lower_alone rs n i a s e h = record {
  order = omega arith;
  first_is = omega arith;
  spaced = let x = next_at rs 0 i a e in omega (arith, x, h);
  alone = λ e. refl;
  numbers = λ q. none_below n q (is_held q (take (suc i) rs));
}

pub lower_joined : (rs : List Range) (n i : ℕ) (a : Range) → IsSpaced 0 rs → slice_get rs i ≡ Some a → n ≡ a.last + 1 → IsLower rs n (suc i) i a.first
lower_joined rs n i a s e h =
    let p = at rs 0 i a s e in
    record {
      order = omega arith;
      first_is = omega (arith, h, p.order);
      spaced = p.before;
      alone = λ e. absurd (omega (arith, e));
      numbers = λ q. held_take rs i q a e ∙ ap (λ b. is_held q (take i rs) || (nat_le a.first q && b)) (up_to q a.last n h);
    }

pub upper_last : (rs : List Range) (n rank : ℕ) → n < 2 ^ 32 → rank ≡ length rs → IsUpper rs n rank rank n
upper_last rs n rank f h = record { order = omega arith; within = omega (arith, h); last_is = omega arith; fits = f; spaced = by rs rank h; alone = λ e. refl; numbers = λ q. none_above n q (is_held q (drop rank rs)) }
  where
    by : (rs : List Range) (i : ℕ) → i ≡ length rs → BeginFrom (n + 2) (drop i rs)
    by [] zero h = tt
    by [] (suc i) h = tt
    by (r ∷ rs) zero h = absurd (omega arith)
    by (r ∷ rs) (suc i) h = by rs i (omega arith)

pub upper_alone : (rs : List Range) (n i : ℕ) (a : Range) → n < 2 ^ 32 → IsSpaced 0 rs → slice_get rs i ≡ Some a → n + 2 ≤ a.first → IsUpper rs n i i n
upper_alone rs n i a f s e h =
    let p = at rs 0 i a s e in
    record { order = omega arith; within = omega (arith, p.within); last_is = omega arith; fits = f; spaced = by rs i e; alone = λ e. refl; numbers = λ q. none_above n q (is_held q (drop i rs)) }
  where
    by : (rs : List Range) (i : ℕ) → slice_get rs i ≡ Some a → BeginFrom (n + 2) (drop i rs)
    by [] i e = absurd (cc)
    by (r ∷ rs) zero e = let x : r ≡ a = cc in subst (λ (r : Range). n + 2 ≤ r.first) (sym x) h
    by (r ∷ rs) (suc i) e = by rs i e

pub upper_joined : (rs : List Range) (n i : ℕ) (a : Range) → IsSpaced 0 rs → slice_get rs i ≡ Some a → a.first ≡ n + 1 → IsUpper rs n i (suc i) a.last
upper_joined rs n i a s e h =
    let p = at rs 0 i a s e in
    record {
      order = omega arith;
      within = omega (arith, p.within);
      last_is = omega (arith, h, p.order);
      fits = p.fits;
      spaced = begin_from (drop (suc i) rs) (a.last + 2) p.after;
      alone = λ e. absurd (omega (arith, e));
      numbers = λ q. held_drop rs i q a e ∙ ap (λ b. (b && nat_le q a.last) || is_held q (drop (suc i) rs)) (from_on q a.first n h);
    }

-- ---- a new range in the place of those that it joins

pub put_spaced : (rs : List Range) (n rank from to : ℕ) (r : Range) → IsSpaced 0 rs → IsLower rs n rank from r.first → IsUpper rs n rank to r.last → IsSpaced 0 (take from rs ++ r ∷ drop to rs)
put_spaced rs n rank from to r s l u =
    let d = spaced_drop rs 0 to s in
    spaced_append (take from rs) (r ∷ drop to rs) 0 (spaced_take rs 0 from s)
    (l.spaced, omega (arith, l.first_is, u.last_is), u.fits, spaced_from (drop to rs) (r.last + 2) d.0 d.1 u.spaced)

within : (first last n q : ℕ) → first ≤ n → n ≤ last → (nat_le first q && nat_le q last) ≡ (nat_eq q n || ((nat_le first q && nat_lt q n) || (nat_lt n q && nat_le q last)))
within first last n q f l = grind (arith, nat_tests, common_steps)

sorted_out : (a w e x y b : Bool) → w ≡ (e || (x || y)) → (a || (w || b)) ≡ (e || ((a || x) || (y || b)))
sorted_out true w true x y b h = refl
sorted_out true w false x y b h = refl
sorted_out false w true x y b h = ap (λ w. w || b) h
sorted_out false w false true y b h = ap (λ w. w || b) h
sorted_out false w false false y b h = ap (λ w. w || b) h

pub put_held : (rs : List Range) (n rank from to : ℕ) (r : Range) → IsLower rs n rank from r.first → IsUpper rs n rank to r.last → (q : ℕ) → is_held q (take from rs ++ r ∷ drop to rs) ≡ (nat_eq q n || is_held q rs)
put_held rs n rank from to r l u q =
    held_append (take from rs) (r ∷ drop to rs) q
    ∙ sorted_out (is_held q (take from rs)) (nat_le r.first q && nat_le q r.last) (nat_eq q n) (nat_le r.first q && nat_lt q n) (nat_lt n q && nat_le q r.last) (is_held q (drop to rs)) (within r.first r.last n q l.first_is u.last_is)
    ∙ ap (λ b. nat_eq q n || b) (sym (held_parts rs rank q ∙ ap (λ b. b || is_held q (drop rank rs)) (l.numbers q)
    ∙ ap (λ b. (is_held q (take from rs) || (nat_le r.first q && nat_lt q n)) || b) (u.numbers q)))

-- ---- a number that no range joins

low_rises : (rs : List Range) (low : ℕ) → IsSpaced low rs → low ≤ next_low low rs
low_rises [] low s = omega arith
low_rises (r ∷ rs) low s = let i = low_rises rs (r.last + 2) s.3 in omega (arith, i, s.0, s.1)

past : (first last q : ℕ) (b : Bool) → last < q → b ≡ false → ((nat_le first q && nat_le q last) || b) ≡ false
past first last q b h e = grind (arith, nat_tests, common_steps)

ahead : (first last q : ℕ) (b : Bool) → q < first → b ≡ false → ((nat_le first q && nat_le q last) || b) ≡ false
ahead first last q b h e = grind (arith, nat_tests, common_steps)

held_past : (rs : List Range) (low q : ℕ) → IsSpaced low rs → next_low low rs ≤ q + 1 → is_held q rs ≡ false
held_past [] low q s h = refl
held_past (r ∷ rs) low q s h =
    let i = low_rises rs (r.last + 2) s.3 in
    past r.first r.last q (is_held q rs) (omega (arith, i, h)) (held_past rs (r.last + 2) q s.3 h)

held_ahead : (rs : List Range) (low q : ℕ) → IsSpaced low rs → q < low → is_held q rs ≡ false
held_ahead [] low q s h = refl
held_ahead (r ∷ rs) low q s h = ahead r.first r.last q (is_held q rs) (omega (arith, s.0, h)) (held_ahead rs (r.last + 2) q s.3 (omega (arith, s.0, s.1, h)))

pub none_beside : (rs : List Range) (n rank from first to last : ℕ) → IsSpaced 0 rs → IsLower rs n rank from first → IsUpper rs n rank to last → from ≡ to → (q : ℕ) → n ≤ q + 1 → q ≤ n + 1 → is_held q rs ≡ false
none_beside rs n rank from first to last s l u e q lo hi =
    let f : from ≡ rank = omega (arith, l.order, u.order, e) in
    let t : to ≡ rank = omega (arith, l.order, u.order, e) in
    let d = spaced_drop rs 0 to s in
    let below : is_held q (take from rs) ≡ false = held_past (take from rs) 0 q (spaced_take rs 0 from s) (omega (arith, l.spaced, l.alone f, lo)) in
    let above : is_held q (drop to rs) ≡ false = held_ahead (drop to rs) (last + 2) q (spaced_from (drop to rs) (last + 2) d.0 d.1 u.spaced) (omega (arith, u.alone t, hi)) in
    held_parts rs rank q
    ∙ ap (λ b. b || is_held q (drop rank rs)) (ap (λ k. is_held q (take k rs)) (sym f) ∙ below)
    ∙ ap (λ k. is_held q (drop k rs)) (sym t) ∙ above
