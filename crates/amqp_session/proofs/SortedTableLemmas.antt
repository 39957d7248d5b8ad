-- Sorted tables of deliveries.
use Rattle.std.proofs.Common.{◌≡◌, ℕ, suc, zero, ◌+◌, ◌-◌, ◌*◌, ◌/◌, ◌^◌, ◌<◌, ◌≤◌, min, max, inl, inr, arith, List, [], ◌∷◌, ◌++◌, length, ap, sym, subst, ◌∙◌, refl, true, false, cond, nat_lt, nat_eq, Option, Some, None, set, slice_index_or, slice_get}
use Rattle.std.proofs.Math.Nat.{pow-suc, pow-le-pow_right}
use Rattle.std.proofs.Math.Pow.{pow-lt}
use Rattle.std.proofs.lemmas.Bool.{cases_lt, cases_order}
use Rattle.std.proofs.lemmas.Bool.Decides.{nat_tests}
use Rattle.std.proofs.lemmas.Grind.{common_steps}
use Rattle.std.specs.List.{insert}
use Rattle.std.proofs.lemmas.Option.{get_or_from_slice_get, slice_get_within}
use Rattle.std.proofs.lemmas.List.{get_or-map}
use Rattle.std.proofs.lemmas.List.Edits.{insert_end}
use Rattle.amqp_session.specs.declared.deliveries.Delivery.{Delivery}
use Rattle.amqp_session.specs.Deliveries.{recorded, with_record, EachNumber, Above, Under, IsRising, IsTable, IsMissing, number_at}

-- few comparisons are made
pub few : (c n : ℕ) → n < 2 ^ 64 → 2 ^ c ≤ 2 * n + 1 → c < 2 ^ 32 - 1
few c n small cost =
    elim (cases_lt c 66) [
      | inl lt ↦ omega (arith, lt)
      | inr ge ↦ absurd (let big : 2 ^ 65 < 2 ^ c = pow-lt (let h : 65 < c = omega (arith, ge) in h) in omega (arith, big, cost, small))
    ]

pub above_at : (n : ℕ) (rows : List Delivery) → Above n rows → (i : ℕ) → i < length rows → n < number_at rows i
above_at n [] a i h = absurd (omega arith)
above_at n (e ∷ es) a zero h = a.0
above_at n (e ∷ es) a (suc i) h = above_at n es a.1 i (omega arith)

pub rising_at : (rows : List Delivery) → IsRising rows → (i j : ℕ) → i < j → j < length rows → number_at rows i < number_at rows j
rising_at [] r i j lt h = absurd (omega arith)
rising_at (e ∷ es) r i zero lt h = absurd (omega arith)
rising_at (e ∷ es) r zero (suc j) lt h = above_at e.number es r.0 j (omega arith)
rising_at (e ∷ es) r (suc i) (suc j) lt h = rising_at es r.1 i j (omega arith) (omega arith)

-- what is before a place with a smaller number is smaller
pub below_place : (rows : List Delivery) (at first : ℕ) → IsRising rows → at < length rows → number_at rows at < first → (i : ℕ) → i < at + 1 → number_at rows i < first
below_place rows at first rising within less i h =
    elim (cases_order i at) [
      | inl e ↦ subst (λ k. number_at rows k < first) (sym e) less
      | inr (inl lt) ↦ let r = rising_at rows rising i at lt within in omega (arith, r, less)
      | inr (inr gt) ↦ absurd (omega arith)
    ]

-- what is after a place with a number that is no smaller is no smaller
pub above_place : (rows : List Delivery) (at first : ℕ) → IsRising rows → first ≤ number_at rows at → (i : ℕ) → at ≤ i → i < length rows → first ≤ number_at rows i
above_place rows at first rising more i h within =
    elim (cases_order i at) [
      | inl e ↦ subst (λ k. first ≤ number_at rows k) (sym e) more
      | inr (inl lt) ↦ absurd (omega arith)
      | inr (inr gt) ↦ let r = rising_at rows rising at i gt within in omega (arith, r, more)
    ]

-- the tests of a record's number
pub recorded_less : (d e : Delivery) (es : List Delivery) → e.number < d.number → recorded d (e ∷ es) ≡ e ∷ recorded d es
recorded_less d e es h = let t : nat_lt e.number d.number ≡ true = grind (arith, nat_tests, common_steps) in ap (λ b. cond b (e ∷ recorded d es) (cond (nat_eq e.number d.number) (d ∷ es) (d ∷ e ∷ es))) t

pub recorded_same : (d e : Delivery) (es : List Delivery) → e.number ≡ d.number → recorded d (e ∷ es) ≡ d ∷ es
recorded_same d e es h =
    let t : nat_lt e.number d.number ≡ false = grind (arith, nat_tests, common_steps) in
    let u : nat_eq e.number d.number ≡ true = grind (arith, nat_tests, common_steps) in
    ap (λ b. cond b (e ∷ recorded d es) (cond (nat_eq e.number d.number) (d ∷ es) (d ∷ e ∷ es))) t ∙ ap (λ b. cond b (d ∷ es) (d ∷ e ∷ es)) u

pub recorded_more : (d e : Delivery) (es : List Delivery) → d.number < e.number → recorded d (e ∷ es) ≡ d ∷ e ∷ es
recorded_more d e es h =
    let t : nat_lt e.number d.number ≡ false = grind (arith, nat_tests, common_steps) in
    let u : nat_eq e.number d.number ≡ false = grind (arith, nat_tests, common_steps) in
    ap (λ b. cond b (e ∷ recorded d es) (cond (nat_eq e.number d.number) (d ∷ es) (d ∷ e ∷ es))) t ∙ ap (λ b. cond b (d ∷ es) (d ∷ e ∷ es)) u

-- a record between smaller numbers and larger ones
pub recorded_at : (rows : List Delivery) (place : ℕ) (d : Delivery) → place ≤ length rows → ((i : ℕ) → i < place → number_at rows i < d.number) → ((i : ℕ) → place ≤ i → i < length rows → d.number < number_at rows i) → recorded d rows ≡ insert rows place d
recorded_at [] zero d h below above = refl
recorded_at [] (suc place) d h below above = absurd (omega arith)
recorded_at (e ∷ es) zero d h below above = recorded_more d e es (above 0 (omega arith) (omega arith))
recorded_at (e ∷ es) (suc place) d h below above =
    recorded_less d e es (below 0 (omega arith))
    ∙ ap (λ xs. e ∷ xs) (recorded_at es place d (omega arith) (λ i lt. below (suc i) (omega arith)) (λ i ge lt. above (suc i) (omega arith) (omega arith)))

-- a record in the place of the one of its number
pub recorded_on : (rows : List Delivery) (place : ℕ) (d : Delivery) → place < length rows → ((i : ℕ) → i < place → number_at rows i < d.number) → number_at rows place ≡ d.number → recorded d rows ≡ set rows place d
recorded_on [] place d h below same = absurd (omega arith)
recorded_on (e ∷ es) zero d h below same = recorded_same d e es same
recorded_on (e ∷ es) (suc place) d h below same =
    recorded_less d e es (below 0 (omega arith))
    ∙ ap (λ xs. e ∷ xs) (recorded_on es place d (omega arith) (λ i lt. below (suc i) (omega arith)) same)

above_less : (m n : ℕ) (rows : List Delivery) → m < n → Above n rows → Above m rows
above_less m n [] h a = tt
above_less m n (e ∷ es) h a = (omega (arith, h, a.0), above_less m n es h a.1)

above_same : (m n : ℕ) (rows : List Delivery) → m ≡ n → Above n rows → Above m rows
above_same m n rows e a = subst (λ k. Above k rows) (sym e) a

each_recorded : (P : ℕ → Type 0) (d : Delivery) (rows : List Delivery) → P d.number → EachNumber P rows → EachNumber P (recorded d rows)
each_recorded P d [] h a = (h, tt)
each_recorded P d (e ∷ es) h a =
    elim (cases_order e.number d.number) [
      | inl same ↦ subst (λ xs. EachNumber P xs) (sym (recorded_same d e es same)) (h, a.1)
      | inr (inl less) ↦ subst (λ xs. EachNumber P xs) (sym (recorded_less d e es less)) (a.0, each_recorded P d es h a.1)
      | inr (inr more) ↦ subst (λ xs. EachNumber P xs) (sym (recorded_more d e es more)) (h, (a.0, a.1))
    ]

-- the numbers still rise
pub recorded_rising : (d : Delivery) (rows : List Delivery) → IsRising rows → IsRising (recorded d rows)
recorded_rising d [] r = (tt, tt)
recorded_rising d (e ∷ es) r =
    elim (cases_order e.number d.number) [
      | inl same ↦ subst IsRising (sym (recorded_same d e es same)) (above_same d.number e.number es (sym same) r.0, r.1)
      | inr (inl less) ↦ subst IsRising (sym (recorded_less d e es less)) (each_recorded (λ k. e.number < k) d es less r.0, recorded_rising d es r.1)
      | inr (inr more) ↦ subst IsRising (sym (recorded_more d e es more)) ((more, above_less d.number e.number es more r.0), (r.0, r.1))
    ]

pub recorded_length : (d : Delivery) (rows : List Delivery) → length (recorded d rows) ≤ length rows + 1
recorded_length d [] = omega arith
recorded_length d (e ∷ es) =
    elim (cases_order e.number d.number) [
      | inl same ↦ omega (arith, ap length (recorded_same d e es same))
      | inr (inl less) ↦ omega (arith, ap length (recorded_less d e es less), recorded_length d es)
      | inr (inr more) ↦ omega (arith, ap length (recorded_more d e es more))
    ]

pub with_record_length : (d : Option Delivery) (rows : List Delivery) → length (with_record d rows) ≤ length rows + 1
with_record_length None rows = omega arith
with_record_length (Some d) rows = recorded_length d rows

-- a record that was read
pub number_read : (rows : List Delivery) (i : ℕ) (x : Delivery) → i < length rows → x ≡ slice_index_or rows i x → number_at rows i ≡ x.number
number_read rows i x h e = get_or-map (λ (d : Delivery). d.number) rows i x 0 h ∙ ap (λ (d : Delivery). d.number) (sym e)

-- where one stands there are some
pub some_rows : (rows : List Delivery) (i : ℕ) (x : Delivery) → slice_get rows i ≡ Some x → 0 < length rows
some_rows rows i x h = let within = slice_get_within rows i x h in omega (arith, within)

-- a record that was read at a place
pub stands : (rows : List Delivery) (i : ℕ) (x : Delivery) → slice_get rows i ≡ Some x → x ≡ slice_index_or rows i x
stands rows i x h = sym (get_or_from_slice_get rows i x x h)

-- where the last number is smaller, all are
pub last_place : (rows : List Delivery) (n number : ℕ) (x : Delivery) → IsRising rows → n ≡ length rows → 0 < n → x ≡ slice_index_or rows (n - 1) x → x.number < number → (i : ℕ) → i < length rows → number_at rows i < number
last_place rows n number x rising e some read less i h =
    let within : n - 1 < length rows = omega arith in
    let at : number_at rows (n - 1) < number = subst (λ k. k < number) (sym (number_read rows (n - 1) x within read)) less in
    below_place rows (n - 1) number rising within at i (omega arith)

-- where the last number is no smaller, it stands there
pub last_more : (rows : List Delivery) (n number : ℕ) (x : Delivery) → n ≡ length rows → 0 < n → x ≡ slice_index_or rows (n - 1) x → number ≤ x.number → number ≤ number_at rows (length rows - 1)
last_more rows n number x e some read more =
    let within : n - 1 < length rows = omega arith in
    subst (λ k. number ≤ number_at rows (k - 1)) e (subst (λ k. number ≤ k) (sym (number_read rows (n - 1) x within read)) more)

-- a record after all others
pub recorded_last : (rows : List Delivery) (d : Delivery) → ((i : ℕ) → i < length rows → number_at rows i < d.number) → recorded d rows ≡ rows ++ d ∷ []
recorded_last rows d below =
    recorded_at rows (length rows) d (omega arith) below (λ i ge lt. absurd (omega arith)) ∙ insert_end rows d

-- a record before the first number that is larger
pub recorded_before : (rows : List Delivery) (place : ℕ) (d : Delivery) → place ≤ length rows → ((i : ℕ) → i < place → number_at rows i < d.number) → ((i : ℕ) → place ≤ i → i < length rows → d.number ≤ number_at rows i) →
    IsRising rows → (place < length rows → ¬ (number_at rows place ≡ d.number)) → recorded d rows ≡ insert rows place d
recorded_before rows place d h below above rising other =
    recorded_at rows place d h below (λ i ge lt. elim (cases_order place i) [
      | inl e ↦ let a = above i ge lt in let o : ¬ (number_at rows i ≡ d.number) = subst (λ k. ¬ (number_at rows k ≡ d.number)) e (other (omega arith)) in omega (arith, a, o)
      | inr (inl less) ↦ let a = above place (omega arith) (omega arith) in let r = rising_at rows rising place i less lt in omega (arith, a, r)
      | inr (inr more) ↦ absurd (omega arith)
    ])

-- a table with a record more is one
pub recorded_table : (d : Delivery) (rows : List Delivery) → d.number < 2 ^ 32 → IsTable rows → IsTable (recorded d rows)
recorded_table d rows h t = (recorded_rising d rows t.0, each_recorded (λ k. k < 2 ^ 32) d rows h t.1)

few_above : (m n : ℕ) (rows : List Delivery) → Above m rows → IsRising rows → Under n rows → m < n → m + length rows < n
few_above m n [] a r u h = omega arith
few_above m n (e ∷ es) a r u h = let more = few_above e.number n es r.0 r.1 u.1 u.0 in omega (arith, a.0, more)

-- rising numbers below n are at most n
pub few_rows : (n : ℕ) (rows : List Delivery) → IsRising rows → Under n rows → length rows ≤ n
few_rows n [] r u = omega arith
few_rows n (e ∷ es) r u = let more = few_above e.number n es r.0 r.1 u.1 u.0 in omega (arith, more)

-- a number rises by one at least from each place to the next
pub far_at : (rows : List Delivery) → IsRising rows → (i k j : ℕ) → j ≡ i + k → j < length rows → number_at rows i + k ≤ number_at rows j
far_at rows r i zero j e h = subst (λ n. number_at rows i + 0 ≤ number_at rows n) (let same : i ≡ j = omega (arith, e) in same) (omega arith)
far_at rows r i (suc k) j e h =
    let less = far_at rows r i k (j - 1) (omega (arith, e)) (omega (arith, h)) in
    let one = rising_at rows r (j - 1) j (omega (arith, e)) h in
    omega (arith, less, one)

-- what is as far after the front as a number, or farther, is no smaller
pub front_above : (rows : List Delivery) (first far : ℕ) → IsRising rows → first ≤ number_at rows 0 + far → (i : ℕ) → far ≤ i → i < length rows → first ≤ number_at rows i
front_above rows first far r h i ge lt =
    let more = far_at rows r 0 i i (omega arith) lt in
    omega (arith, more, h, ge)

-- what is nearer to the front, by more than the missing numbers, is smaller
pub front_below : (rows : List Delivery) (first far missing : ℕ) → IsRising rows → IsMissing missing rows → far ≡ first - number_at rows 0 → (i : ℕ) → i + missing < far → i < length rows → number_at rows i < first
front_below rows first far missing r m e i near lt =
    let last = m (omega (arith, lt)) in
    let more = far_at rows r i (length rows - 1 - i) (length rows - 1) (omega (arith, lt)) (omega (arith, lt)) in
    omega (arith, last, more, e, near)

-- the last number is as far after the first as its place, or farther
pub ends_apart : (rows : List Delivery) (n : ℕ) (first last : Delivery) → IsRising rows → n ≡ length rows → 0 < n → first ≡ slice_index_or rows 0 first → last ≡ slice_index_or rows (n - 1) last → first.number + (n - 1) ≤ last.number
ends_apart rows n first last r e some at_first at_last =
    let front = number_read rows 0 first (omega (arith, e, some)) at_first in
    let back = number_read rows (n - 1) last (omega (arith, e, some)) at_last in
    let more = far_at rows r 0 (n - 1) (n - 1) (omega arith) (omega (arith, e, some)) in
    omega (arith, front, back, more)

-- how many are missing, by the two ends
pub ends_missing : (rows : List Delivery) (n : ℕ) (first last : Delivery) → IsRising rows → n ≡ length rows → 0 < n → first ≡ slice_index_or rows 0 first → last ≡ slice_index_or rows (n - 1) last → IsMissing (last.number - first.number - (n - 1)) rows
ends_missing rows n first last r e some at_first at_last = λ any.
    let apart = ends_apart rows n first last r e some at_first at_last in
    let front = number_read rows 0 first (omega (arith, e, some)) at_first in
    let back : number_at rows (length rows - 1) ≡ last.number = subst (λ k. number_at rows (k - 1) ≡ last.number) e (number_read rows (n - 1) last (omega (arith, e, some)) at_last) in
    omega (arith, front, back, apart, e)

-- the same of two ends that were read
pub read_ends : (rows : List Delivery) (first last : Delivery) → IsRising rows → slice_get rows 0 ≡ Some first → slice_get rows (length rows - 1) ≡ Some last → first.number + (length rows - 1) ≤ last.number
read_ends rows first last r front back =
    ends_apart rows (length rows) first last r refl (some_rows rows 0 first front) (stands rows 0 first front) (stands rows (length rows - 1) last back)

pub read_missing : (rows : List Delivery) (n : ℕ) (first last : Delivery) → IsRising rows → n ≡ length rows → slice_get rows 0 ≡ Some first → slice_get rows (length rows - 1) ≡ Some last → IsMissing (last.number - first.number - (n - 1)) rows
read_missing rows n first last r e front back =
    subst (λ (k : ℕ). IsMissing (last.number - first.number - (k - 1)) rows) (sym e)
    (ends_missing rows (length rows) first last r refl (some_rows rows 0 first front) (stands rows 0 first front) (stands rows (length rows - 1) last back))

-- ---- the search of a place

-- A place is in this part: what is before it is smaller, and what is after it is not.
pub record IsPart (rows : List Delivery) (number low high : ℕ) : Type 0 where
  pub order : low ≤ high
  pub within : high ≤ length rows
  pub below : (i : ℕ) → i < low → number_at rows i < number
  pub above : (i : ℕ) → high ≤ i → i < length rows → number ≤ number_at rows i

-- it is in the whole of a table
pub whole_part : (rows : List Delivery) (number high : ℕ) → high ≡ length rows → IsPart rows number 0 high
whole_part rows number high e = record { order = omega arith; within = omega (arith, e); below = λ i h. absurd (omega arith); above = λ i ge lt. absurd (omega (arith, e, ge, lt)) }

part_after : (rows : List Delivery) (number low high at value low' high' : ℕ) → IsRising rows → IsPart rows number low high → low ≤ at → at < high → value ≡ number_at rows at →
    value < number → low' ≡ at + 1 → high' ≡ min high (at + (number - value)) → IsPart rows number low' high'
part_after rows number low high at value low' high' r p least most e less l h =
    let within : at < length rows = omega (arith, p.within, most) in
    let smaller : number_at rows at < number = subst (λ n. n < number) e less in
    record {
      order = omega (arith, l, h, most, less);
      within = omega (arith, h, p.within);
      below = λ i lt. below_place rows at number r within smaller i (omega (arith, l, lt));
      above = λ i ge lt. elim (cases_lt i high) [
        | inl inside ↦ let more = far_at rows r at (i - at) i (omega (arith, ge, h, inside)) lt in omega (arith, more, e, ge, h, inside, less)
        | inr outside ↦ p.above i outside lt
      ];
    }

part_before : (rows : List Delivery) (number low high at value low' high' : ℕ) → IsRising rows → IsPart rows number low high → low ≤ at → at < high → value ≡ number_at rows at →
    number ≤ value → low' ≡ max low (at - (value - number)) → high' ≡ at → IsPart rows number low' high'
part_before rows number low high at value low' high' r p least most e more l h =
    let within : at < length rows = omega (arith, p.within, most) in
    let larger : number ≤ number_at rows at = subst (λ n. number ≤ n) e more in
    record {
      order = omega (arith, l, h, least);
      within = omega (arith, h, within);
      below = λ i lt. elim (cases_lt i low) [
        | inl outside ↦ p.below i outside
        | inr inside ↦ let far = far_at rows r i (at - i) at (omega (arith, l, lt, inside)) within in omega (arith, far, e, l, lt, inside, more)
      ];
      above = λ i ge lt. above_place rows at number r larger i (omega (arith, h, ge)) lt;
    }

-- a number that was read narrows the part
pub closer_part : (rows : List Delivery) (number low high at value low' high' : ℕ) → IsRising rows → IsPart rows number low high → low ≤ at → at < high → value ≡ number_at rows at →
    (value < number → (low' ≡ at + 1) × (high' ≡ min high (at + (number - value)))) → (number ≤ value → (low' ≡ max low (at - (value - number))) × (high' ≡ at)) →
    IsPart rows number low' high'
closer_part rows number low high at value low' high' r p least most e less more =
    elim (cases_lt value number) [
      | inl lt ↦ let s = less lt in part_after rows number low high at value low' high' r p least most e lt s.0 s.1
      | inr ge ↦ let s = more ge in part_before rows number low high at value low' high' r p least most e ge s.0 s.1
    ]

-- so that few places are left
pub closer_few : (number low high at value low' high' half : ℕ) → at < high → at - low < half → high - at ≤ half →
    (value < number → (low' ≡ at + 1) × (high' ≡ min high (at + (number - value)))) → (number ≤ value → (low' ≡ max low (at - (value - number))) × (high' ≡ at)) →
    high' - low' < half
closer_few number low high at value low' high' half most before after less more =
    elim (cases_lt value number) [
      | inl lt ↦ let s = less lt in omega (arith, most, after, s.0, s.1)
      | inr ge ↦ let s = more ge in omega (arith, before, s.0, s.1)
    ]

-- half of a power of two is one
pub half_power : (c places : ℕ) → places ≡ 2 ^ c → 1 < places → (d : ℕ) × (c ≡ suc d) × (places / 2 ≡ 2 ^ d) × (2 * (places / 2) ≡ places)
half_power zero places e h = absurd (omega (arith, e, h))
half_power (suc d) places e h =
    let twice : 2 ^ suc d ≡ 2 ^ d * 2 = pow-suc 2 d in
    (d, refl, omega (arith, e, twice), omega (arith, e, twice))

-- four times a power of two is one
pub fourfold_power : (c places : ℕ) → places ≡ 2 ^ c → places * 4 ≡ 2 ^ suc (suc c)
fourfold_power c places e =
    let twice : 2 ^ suc c ≡ 2 ^ c * 2 = pow-suc 2 c in
    let again : 2 ^ suc (suc c) ≡ 2 ^ suc c * 2 = pow-suc 2 (suc c) in
    omega (arith, e, twice, again)

-- more than half of the places is left of a power of two that is more than they are
pub half_left : (c places n m : ℕ) → places ≡ 2 ^ c → n + 1 ≤ places → 0 < n → 2 * m ≤ n → m < places / 2
half_left c places n m e more some few = let half = half_power c places e (omega (arith, more, some)) in omega (arith, half.3, more, few)

-- a read more costs a half
pub read_more_power : (k c d all : ℕ) → c ≡ suc d → 2 ^ (k + c) ≡ all → 2 ^ (k + 1 + d) ≡ all
read_more_power k c d all e h =
    let same : k + 1 + d ≡ k + c = omega (arith, e) in
    ap (λ n. 2 ^ n) same ∙ h

pub none_read : (c all : ℕ) → all ≡ 2 ^ c → 2 ^ (0 + c) ≡ all
none_read c all e = let same : 0 + c ≡ c = omega arith in ap (λ n. 2 ^ n) same ∙ sym e

pub spent : (k c all : ℕ) → 2 ^ (k + c) ≡ all → 2 ^ k ≤ all
spent k c all h = let le : 2 ^ k ≤ 2 ^ (k + c) = pow-le-pow_right (omega arith) (omega arith) in omega (arith, le, h)
