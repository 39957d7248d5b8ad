-- Runs that grow at their end.
use Rattle.std.proofs.Common.{◌≡◌, ℕ, suc, zero, ◌<◌, ◌≤◌, ◌+◌, ◌-◌, ◌%◌, ◌^◌, ◌||◌, ◌&&◌, List, [], ◌∷◌, ◌++◌, length, refl, ap, sym, ◌∙◌, arith, cond, Bool, true, false, inl, inr, nat_eq, nat_le, slice_index_or, slice_set, slice_get, Option, Some, None, unwrap_or, map, ◌*◌}
use Rattle.std.specs.List.{list_any}
use Rattle.std.proofs.lemmas.List.{length-map, map-append}
use Rattle.std.proofs.lemmas.Bool.{cases_order}
use Rattle.std.proofs.lemmas.Bool.Decides.{nat_tests}
use Rattle.std.proofs.lemmas.Grind.{common_steps}
use Rattle.amqp_types.specs.Disposition.{DispositionModel}
use Rattle.amqp_session.specs.Runs.{DeliveryRange, goes_on, longer, extended}
use Rattle.amqp_session.specs.Disposing.{distance, echo_of, is_in, AreApart, AreRuns}

-- ---- the last run

-- the answers for these runs, without a state
abbrev unsaid : List DeliveryRange → List DispositionModel
unsaid runs = map (echo_of None) runs

last_goes_on : (runs : List DeliveryRange) (n k : ℕ) (x : DispositionModel) → length runs ≡ suc k → Some x ≡ slice_get (unsaid runs) k →
    nat_eq ((unwrap_or x.last x.first + 1) % 2 ^ 32) n ≡ goes_on n runs
last_goes_on [] n k x len at = absurd (omega (arith, len))
last_goes_on (r ∷ []) n zero x len at = ap (λ o. let y : DispositionModel = unwrap_or o x in nat_eq ((unwrap_or y.last y.first + 1) % 2 ^ 32) n) at
last_goes_on (r ∷ []) n (suc k) x len at = absurd (omega (arith, len))
last_goes_on (r ∷ s ∷ rs) n zero x len at = absurd (omega (arith, len))
last_goes_on (r ∷ s ∷ rs) n (suc k) x len at = last_goes_on (s ∷ rs) n k x (omega (arith, len)) at

pub last_longer : (runs : List DeliveryRange) (n k : ℕ) (x : DispositionModel) → length runs ≡ suc k → x ≡ slice_index_or (unsaid runs) k x →
    unsaid (longer n runs) ≡ slice_set (unsaid runs) k (echo_of None (record { first = x.first; last = n }))
last_longer [] n k x len at = absurd (omega (arith, len))
last_longer (r ∷ []) n zero x len at = ap (λ (y : DispositionModel). echo_of None (record { first = y.first; last = n }) ∷ []) (sym at)
last_longer (r ∷ []) n (suc k) x len at = absurd (omega (arith, len))
last_longer (r ∷ s ∷ rs) n zero x len at = absurd (omega (arith, len))
last_longer (r ∷ s ∷ rs) n (suc k) x len at = ap (λ ys. echo_of None r ∷ ys) (last_longer (s ∷ rs) n k x (omega (arith, len)) at)

pub has_last : (runs : List DeliveryRange) (n : ℕ) → true ≡ goes_on n runs → 0 < length runs
has_last [] n e = absurd (cc)
has_last (r ∷ rs) n e = omega arith

pub read_last : (runs : List DeliveryRange) (n : ℕ) (x : DispositionModel) → Some x ≡ slice_get (unsaid runs) (length (unsaid runs) - 1) →
    nat_eq ((unwrap_or x.last x.first + 1) % 2 ^ 32) n ≡ goes_on n runs
read_last [] n x at = absurd (cc)
read_last (r ∷ rs) n x at =
    let len : length (map (echo_of None) rs) ≡ length rs = length-map rs (echo_of None) in
    last_goes_on (r ∷ rs) n (length rs) x refl (at ∙ ap (slice_get (unsaid (r ∷ rs))) (omega (arith, len)))

-- a number after the last run that does not go on with it begins one of its own
pub one_after : (runs : List DeliveryRange) (n : ℕ) → goes_on n runs ≡ false → unsaid (extended n runs) ≡ unsaid runs ++ echo_of None (record { first = n; last = n }) ∷ []
one_after runs n e =
    let own : DeliveryRange = record { first = n; last = n } in
    ap (λ b. unsaid (cond b (longer n runs) (runs ++ own ∷ []))) e ∙ map-append (echo_of None) runs (own ∷ [])

-- each with this state
pub stated : (s : Option (List ℕ)) (runs : List DeliveryRange) → map (λ (d : DispositionModel). let x : DispositionModel = record d { state = s } in x) (unsaid runs) ≡ map (echo_of s) runs
stated s [] = refl
stated s (r ∷ rs) = ap (λ xs. echo_of s r ∷ xs) (stated s rs)

-- ---- distances

dist_next : (first m n : ℕ) → first < 2 ^ 32 → m < 2 ^ 32 → n < 2 ^ 32 → distance first m < distance first n → (m + 1) % 2 ^ 32 ≡ n →
    distance first n ≡ distance first m + 1
dist_next first m n hf hm hn less next = omega arith

dist_gap : (first m n : ℕ) → first < 2 ^ 32 → m < 2 ^ 32 → n < 2 ^ 32 → distance first m < distance first n →
    ¬ ((m + 1) % 2 ^ 32 ≡ n) → distance first m + 1 < distance first n
dist_gap first m n hf hm hn less other = omega arith

dist_same : (first m n : ℕ) → first < 2 ^ 32 → m < 2 ^ 32 → n < 2 ^ 32 → distance first m ≡ distance first n → m ≡ n
dist_same first m n hf hm hn e = omega arith

same_number : (first k n : ℕ) → first < 2 ^ 32 → k < 2 ^ 32 → n < 2 ^ 32 → nat_eq (distance first k) (distance first n) ≡ nat_eq k n
same_number first k n hf hk hn = by (nat_eq k n) refl
  where
    by : (b : Bool) → nat_eq k n ≡ b → nat_eq (distance first k) (distance first n) ≡ b
    by true t = let e : k ≡ n = grind (arith, nat_tests, common_steps) in rw e (let x : nat_eq (distance first n) (distance first n) ≡ true = grind (arith, nat_tests, common_steps) in x)
    by false t =
        let u : ¬ (k ≡ n) = λ e. absurd (let v : nat_eq k n ≡ true = grind (arith, nat_tests, common_steps) in cc) in
        let d : ¬ (distance first k ≡ distance first n) = λ e. u (dist_same first k n hf hk hn e) in
        grind (arith, nat_tests, common_steps)

-- ---- the numbers of a run

-- a run with one number more
one_more : (a b x : ℕ) → a ≤ b → (nat_le a x && nat_le x (b + 1)) ≡ ((nat_le a x && nat_le x b) || nat_eq x (b + 1))
one_more a b x h =
    elim (cases_order x (b + 1)) [
      | inl e ↦
          let t : nat_le a x ≡ true = grind (arith, nat_tests, common_steps) in
          let u : nat_le x (b + 1) ≡ true = grind (arith, nat_tests, common_steps) in
          let w : nat_le x b ≡ false = grind (arith, nat_tests, common_steps) in
          let y : nat_eq x (b + 1) ≡ true = grind (arith, nat_tests, common_steps) in
          rw (t, u, w, y) refl
      | inr (inl less) ↦
          let u : nat_le x (b + 1) ≡ true = grind (arith, nat_tests, common_steps) in
          let w : nat_le x b ≡ true = grind (arith, nat_tests, common_steps) in
          let y : nat_eq x (b + 1) ≡ false = grind (arith, nat_tests, common_steps) in
          rw (u, w, y) (by (nat_le a x))
      | inr (inr more) ↦
          let u : nat_le x (b + 1) ≡ false = grind (arith, nat_tests, common_steps) in
          let w : nat_le x b ≡ false = grind (arith, nat_tests, common_steps) in
          let y : nat_eq x (b + 1) ≡ false = grind (arith, nat_tests, common_steps) in
          rw (u, w, y) (no (nat_le a x))
    ]
  where
    by : (t : Bool) → (t && true) ≡ ((t && true) || false)
    by true = refl
    by false = refl

    no : (t : Bool) → (t && false) ≡ ((t && false) || false)
    no true = refl
    no false = refl

-- a run of one number
one_alone : (a x : ℕ) → (nat_le a x && nat_le x a) ≡ nat_eq x a
one_alone a x =
    elim (cases_order x a) [
      | inl e ↦
          let t : nat_le a x ≡ true = grind (arith, nat_tests, common_steps) in
          let u : nat_le x a ≡ true = grind (arith, nat_tests, common_steps) in
          let y : nat_eq x a ≡ true = grind (arith, nat_tests, common_steps) in
          rw (t, u, y) refl
      | inr (inl less) ↦
          let t : nat_le a x ≡ false = grind (arith, nat_tests, common_steps) in
          let y : nat_eq x a ≡ false = grind (arith, nat_tests, common_steps) in
          rw (t, y) refl
      | inr (inr more) ↦
          let t : nat_le a x ≡ true = grind (arith, nat_tests, common_steps) in
          let u : nat_le x a ≡ false = grind (arith, nat_tests, common_steps) in
          let y : nat_eq x a ≡ false = grind (arith, nat_tests, common_steps) in
          rw (t, u, y) refl
    ]

-- ---- runs with a number more

-- the first run begins at k or farther
abbrev pub StartBehind : ℕ → ℕ → List DeliveryRange → Type 0
StartBehind first k [] = Unit {0}
StartBehind first k (r ∷ rs) = k ≤ distance first r.first

-- all runs end nearer than k
abbrev pub EndBefore : ℕ → ℕ → List DeliveryRange → Type 0
EndBefore first k [] = Unit {0}
EndBefore first k (r ∷ rs) = (distance first r.last < k) × EndBefore first k rs

pub end_later : (first k m : ℕ) (runs : List DeliveryRange) → k ≤ m → EndBefore first k runs → EndBefore first m runs
end_later first k m [] h e = tt
end_later first k m (r ∷ rs) h e = (omega (arith, h, e.0), end_later first k m rs h e.1)

module _ (first n : ℕ) (hf : first < 2 ^ 32) (hn : n < 2 ^ 32) where
  next_is : (m : ℕ) → nat_eq ((m + 1) % 2 ^ 32) n ≡ true → (m + 1) % 2 ^ 32 ≡ n
  next_is m t = grind (arith, nat_tests, common_steps)

  next_not : (m : ℕ) → nat_eq ((m + 1) % 2 ^ 32) n ≡ false → ¬ ((m + 1) % 2 ^ 32 ≡ n)
  next_not m t e = absurd (let v : nat_eq ((m + 1) % 2 ^ 32) n ≡ true = grind (arith, nat_tests, common_steps) in cc)

  longer_apart : (runs : List DeliveryRange) → goes_on n runs ≡ true → EndBefore first (distance first n) runs → AreApart first runs →
      AreApart first (longer n runs)
  longer_apart [] t e a = absurd (cc)
  longer_apart (r ∷ []) t e a = (a.0, hn, omega (arith, a.2, e.0), tt, tt)
  longer_apart (r ∷ s ∷ []) t e a = (a.0, a.1, a.2, a.3, longer_apart (s ∷ []) t e.1 a.4)
  longer_apart (r ∷ s ∷ u ∷ rs) t e a = (a.0, a.1, a.2, a.3, longer_apart (s ∷ u ∷ rs) t e.1 a.4)

  more_apart : (runs : List DeliveryRange) → goes_on n runs ≡ false → EndBefore first (distance first n) runs → AreApart first runs →
      AreApart first (runs ++ record { first = n; last = n } ∷ [])
  more_apart [] t e a = (hn, hn, omega arith, tt, tt)
  more_apart (r ∷ []) t e a = (a.0, a.1, a.2, dist_gap first r.last n hf a.1 hn e.0 (next_not r.last t), more_apart [] refl tt tt)
  more_apart (r ∷ s ∷ rs) t e a = (a.0, a.1, a.2, a.3, more_apart (s ∷ rs) t e.1 a.4)

  longer_ends : (runs : List DeliveryRange) → EndBefore first (distance first n) runs → EndBefore first (distance first n + 1) (longer n runs)
  longer_ends [] e = tt
  longer_ends (r ∷ []) e = (omega arith, tt)
  longer_ends (r ∷ s ∷ rs) e = (omega (arith, e.0), longer_ends (s ∷ rs) e.1)

  more_ends : (runs : List DeliveryRange) → EndBefore first (distance first n) runs →
      EndBefore first (distance first n + 1) (runs ++ record { first = n; last = n } ∷ [])
  more_ends [] e = (omega arith, tt)
  more_ends (r ∷ rs) e = (omega (arith, e.0), more_ends rs e.1)

  or_false : (x y : Bool) → ((x || y) || false) ≡ ((x || false) || y)
  or_false true y = refl
  or_false false true = refl
  or_false false false = refl

  or_assoc : (x y z : Bool) → (x || (y || z)) ≡ ((x || y) || z)
  or_assoc true y z = refl
  or_assoc false y z = refl

  longer_holds : (k : ℕ) → k < 2 ^ 32 → (runs : List DeliveryRange) → goes_on n runs ≡ true → EndBefore first (distance first n) runs →
      AreApart first runs → list_any (is_in first k) (longer n runs) ≡ (list_any (is_in first k) runs || nat_eq k n)
  longer_holds k hk [] t e a = absurd (cc)
  longer_holds k hk (r ∷ []) t e a =
      let d = dist_next first r.last n hf a.1 hn e.0 (next_is r.last t) in
      let more = one_more (distance first r.first) (distance first r.last) (distance first k) a.2 in
      let same = ap (nat_eq (distance first k)) (sym d) ∙ same_number first k n hf hk hn in
      ap (λ b. b || false) (ap (λ m. nat_le (distance first r.first) (distance first k) && nat_le (distance first k) m) d ∙ more ∙ ap (λ b. is_in first k r || b) same)
      ∙ or_false (is_in first k r) (nat_eq k n)
  longer_holds k hk (r ∷ s ∷ rs) t e a = ap (λ b. is_in first k r || b) (longer_holds k hk (s ∷ rs) t e.1 a.4) ∙ or_assoc (is_in first k r) (list_any (is_in first k) (s ∷ rs)) (nat_eq k n)

  more_holds : (k : ℕ) → k < 2 ^ 32 → (runs : List DeliveryRange) →
      list_any (is_in first k) (runs ++ record { first = n; last = n } ∷ []) ≡ (list_any (is_in first k) runs || nat_eq k n)
  more_holds k hk [] = ap (λ b. b || false) (one_alone (distance first n) (distance first k) ∙ same_number first k n hf hk hn) ∙ none (nat_eq k n)
    where
      none : (b : Bool) → (b || false) ≡ (false || b)
      none true = refl
      none false = refl
  more_holds k hk (r ∷ rs) = ap (λ b. is_in first k r || b) (more_holds k hk rs) ∙ or_assoc (is_in first k r) (list_any (is_in first k) rs) (nat_eq k n)

  holds_more : (k : ℕ) (numbers : List ℕ) → (list_any (nat_eq k) numbers || nat_eq k n) ≡ list_any (nat_eq k) (numbers ++ n ∷ [])
  holds_more k [] = none (nat_eq k n)
    where
      none : (b : Bool) → (false || b) ≡ (b || false)
      none true = refl
      none false = refl
  holds_more k (m ∷ ms) = sym (or_assoc (nat_eq k m) (list_any (nat_eq k) ms) (nat_eq k n)) ∙ ap (λ b. nat_eq k m || b) (holds_more k ms)

  -- the runs of these numbers and one more, which is farther than all
  pub grown : (numbers : List ℕ) (runs : List DeliveryRange) → EndBefore first (distance first n) runs → AreRuns first numbers runs →
      AreRuns first (numbers ++ n ∷ []) (extended n runs)
  grown numbers runs e a = by (goes_on n runs) refl
    where
      by : (b : Bool) → goes_on n runs ≡ b →
          AreRuns first (numbers ++ n ∷ []) (cond b (longer n runs) (runs ++ record { first = n; last = n } ∷ []))
      by true t = record { apart = longer_apart runs t e a.apart; hold = λ k hk. longer_holds k hk runs t e a.apart ∙ ap (λ b. b || nat_eq k n) (a.hold k hk) ∙ holds_more k numbers }
      by false t = record { apart = more_apart runs t e a.apart; hold = λ k hk. more_holds k hk runs ∙ ap (λ b. b || nat_eq k n) (a.hold k hk) ∙ holds_more k numbers }

  pub grown_ends : (runs : List DeliveryRange) → EndBefore first (distance first n) runs → EndBefore first (distance first n + 1) (extended n runs)
  grown_ends runs e = by (goes_on n runs)
    where
      by : (b : Bool) → EndBefore first (distance first n + 1) (cond b (longer n runs) (runs ++ record { first = n; last = n } ∷ []))
      by true = longer_ends runs e
      by false = more_ends runs e

-- runs have a missing number between them
few_from : (first n k : ℕ) (runs : List DeliveryRange) → first < 2 ^ 32 → n < 2 ^ 32 → goes_on n runs ≡ false → EndBefore first (distance first n) runs →
    AreApart first runs → k ≤ distance first n → StartBehind first k runs → k + 2 * length runs ≤ distance first n
few_from first n k [] hf hn t e a h s = omega (arith, h)
few_from first n k (r ∷ []) hf hn t e a h s =
    let gap = dist_gap first r.last n hf a.1 hn e.0 (λ same. absurd (let v : nat_eq ((r.last + 1) % 2 ^ 32) n ≡ true = grind (arith, nat_tests, common_steps) in cc)) in
    omega (arith, gap, s, a.2)
few_from first n k (r ∷ q ∷ rs) hf hn t e a h s =
    let rest = few_from first n (k + 2) (q ∷ rs) hf hn t e.1 a.4 (omega (arith, s, a.2, a.3, a.4.2, e.1.0)) (omega (arith, s, a.2, a.3)) in
    omega (arith, rest)

-- so they are at most half as many as the numbers up to the one after them
pub few_runs : (first n : ℕ) (runs : List DeliveryRange) → first < 2 ^ 32 → n < 2 ^ 32 → goes_on n runs ≡ false → EndBefore first (distance first n) runs →
    AreApart first runs → 2 * length runs ≤ distance first n
few_runs first n [] hf hn t e a = omega arith
few_runs first n (r ∷ rs) hf hn t e a =
    let from = few_from first n 0 (r ∷ rs) hf hn t e a (omega arith) (omega arith) in
    omega (arith, from)

-- where there is a run, there is a number
pub some_number : (first : ℕ) (numbers : List ℕ) (runs : List DeliveryRange) → AreRuns first numbers runs → 0 < length runs → 0 < length numbers
some_number first numbers [] a h = absurd (omega (arith, h))
some_number first (n ∷ ns) (r ∷ rs) a h = omega arith
some_number first [] (r ∷ rs) a h =
    let begins : nat_le (distance first r.first) (distance first r.first) ≡ true = grind (arith, nat_tests, common_steps) in
    let ends : nat_le (distance first r.first) (distance first r.last) ≡ true = let e = a.apart.2 in grind (arith, nat_tests, common_steps) in
    let inside : is_in first r.first r ≡ true = rw (begins, ends) refl in
    let none : list_any (is_in first r.first) (r ∷ rs) ≡ false = a.hold r.first a.apart.0 in
    absurd (let both = sym (ap (λ b. b || list_any (is_in first r.first) rs) inside) ∙ none in cc)
