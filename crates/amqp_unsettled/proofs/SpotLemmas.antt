-- The cells of the items that a number or a range means, by how far they lie after the first.
use Rattle.std.proofs.Common.{◌≡◌, ℕ, suc, ◌+◌, ◌-◌, ◌^◌, ◌<◌, ◌≤◌, arith, List, [], ◌∷◌, ◌++◌, length, take, drop, map}
use Rattle.std.proofs.Common.{ap, sym, subst, ◌∙◌, refl, cond, ◌&&◌, nat_lt, nat_le, Bool, true, false}
use Rattle.std.proofs.Common.{Some}
use Rattle.std.specs.Prelude.{slice_get, slice_index_or}
use Rattle.std.proofs.lemmas.Bool.Decides.{nat_tests}
use Rattle.std.proofs.lemmas.Grind.{common_steps}
use Rattle.std.proofs.lemmas.List.{take-take, take_all, drop-take, append-nil}
use Rattle.amqp_unsettled.specs.Serial.{distance, is_forward, is_within}
use Rattle.amqp_unsettled.specs.declared.cells.Cell.{Cell}
use Rattle.amqp_unsettled.specs.Inner.Order.{Each, NonePasses, Below, IsRising, Begins, start_of}
use Rattle.amqp_unsettled.specs.Inner.Rows.{is_there, live, there, numbers, fars, InSerial, IsThereAt, FirstGone, IsAt}
use Rattle.amqp_unsettled.specs.Inner.Rows.{numbered, ranged}
use Rattle.amqp_unsettled.proofs.ListLemmas.{each_map, each_both, each_drop, each_filter, each_mapped, each_at}
use Rattle.amqp_unsettled.proofs.OrderLemmas.{each_after_item, each_from, below_each}
use Rattle.amqp_unsettled.proofs.PlaceLemmas.{before, past_end, not_there, from_item}
use Rattle.amqp_unsettled.proofs.NextLemmas.{rising_first, half_first}
use Rattle.amqp_unsettled.proofs.NumberLemmas.{equal_test, other_test}
use Rattle.amqp_unsettled.proofs.CellLemmas.{got, got_drop, there_split, there_at, there_not, none_before}

-- ---- from the first one on

pub fars_rise : {X : Type 0} (f : X → ℕ) (cs : List (Cell X)) (first : Cell X) → 0 < length cs →
    first ≡ slice_index_or cs 0 first → Below (2 ^ 32) (numbers f cs) → InSerial (numbers f cs) →
    IsRising (fars f (f first.item) cs)
fars_rise f [] first h is sm se = absurd (omega (arith, h))
fars_rise {X} f (d ∷ ds) first h is sm se = let e : first ≡ d = is in
    subst (λ (x : Cell X). IsRising (fars f (f x.item) (d ∷ ds))) (sym e) (rising_first (f d.item) (numbers f ds) sm se)

pub fars_half : {X : Type 0} (f : X → ℕ) (cs : List (Cell X)) (first : Cell X) → 0 < length cs →
    first ≡ slice_index_or cs 0 first → Below (2 ^ 32) (numbers f cs) → InSerial (numbers f cs) →
    Below (2 ^ 31) (fars f (f first.item) cs)
fars_half f [] first h is sm se = absurd (omega (arith, h))
fars_half {X} f (d ∷ ds) first h is sm se = let e : first ≡ d = is in
    subst (λ (x : Cell X). Below (2 ^ 31) (fars f (f x.item) (d ∷ ds))) (sym e) (half_first (f d.item) (numbers f ds) sm
    se)

-- a cell's distance
abbrev far : {X : Type 0} → (X → ℕ) → ℕ → Cell X → ℕ
far f base c = distance base (f c.item)

fars_are : {X : Type 0} (f : X → ℕ) (base : ℕ) (cs : List (Cell X)) → fars f base cs ≡ map (far f base) cs
fars_are f base [] = refl
fars_are f base (c ∷ cs) = ap (λ ks. distance base (f c.item) ∷ ks) (fars_are f base cs)

module _ {X : Type 0} (p : X → Bool) where
  there_none : (cs : List (Cell X)) → NonePasses (λ (c : Cell X). p c.item) cs → NonePasses p (there cs)
  there_none cs h = each_mapped (λ (c : Cell X). c.item) (λ x. p x ≡ false) (live cs)
      (each_filter (λ (c : Cell X). p c.item ≡ false) is_there cs h)

  none_both : (xs ys : List X) → NonePasses p xs → NonePasses p ys → NonePasses p (xs ++ ys)
  none_both [] ys h k = k
  none_both (x ∷ xs) ys h k = (h.0, none_both xs ys h.1 k)

module _ {X : Type 0} (f : X → ℕ) (base : ℕ) (cs : List (Cell X)) where
  begins : (target at : ℕ) → Begins (fars f base cs) target at → Begins (map (far f base) cs) target at
  begins target at b = subst (λ ks. Begins ks target at) (fars_are f base cs) b

  rises : IsRising (fars f base cs) → IsRising (map (far f base) cs)
  rises r = subst IsRising (fars_are f base cs) r

-- ---- a number

abbrev Any : {X : Type 0} → X → Type 0
Any x = Unit {0}

each_any : {X : Type 0} (xs : List X) → Each Any xs
each_any [] = tt
each_any (x ∷ xs) = (tt, each_any xs)

module _ {X : Type 0} (f : X → ℕ) (base n : ℕ) where
  abbrev is : Cell X → Bool
  is c = numbered f n c.item

  nearer : (c : Cell X) → far f base c < distance base n → is c ≡ false
  nearer c h = other_test (f c.item) n (λ e. let same : far f base c ≡ distance base n = ap (distance base) e in
      omega (arith, h, same))

  farther : (c d : Cell X) → Any c → Any d → distance base n ≤ far f base c → far f base c < far f base d →
      is c ≡ false → is d ≡ false
  farther c d x y h m t = other_test (f d.item) n (λ e. let same : far f base d ≡ distance base n = ap (distance base) e
      in
      omega (arith, h, m, same))

  module _ (cs : List (Cell X)) (at : ℕ) (b : Begins (fars f base cs) (distance base n) at) where
    pub number_past : length cs ≤ at → NonePasses (numbered f n) (there cs)
    number_past h = there_none (numbered f n) cs
        (past_end (far f base) is (distance base n) Any nearer farther at cs (begins f base cs (distance base n) at b)
        h)

    number_before : NonePasses (numbered f n) (there (take at cs))
    number_before = there_none (numbered f n) (take at cs)
        (before (far f base) is (distance base n) Any nearer farther at cs (begins f base cs (distance base n) at b))

    module _ (c : Cell X) (h : at < length cs) (e : c ≡ slice_index_or cs at c) where
      here : slice_get cs at ≡ Some c
      here = got cs at c h e

      pub number_here : is_there c ≡ true → f c.item ≡ n → IsAt (numbered f n) cs at
      number_here t same = record {
        within = h;
        is = λ d k. let s : Some c ≡ Some d = sym here ∙ k in let w : c ≡ d = grind (arith, s) in sym (ap is_there w) ∙
            t;
        meant = λ d k. let s : Some c ≡ Some d = sym here ∙ k in let w : c ≡ d = grind (arith, s) in
            sym (ap is w) ∙ equal_test (f c.item) n same;
        before = number_before;
      }

      pub number_other : IsRising (fars f base cs) → (f c.item ≡ n → ⊥) → NonePasses (numbered f n) (there cs)
      number_other r other = there_none (numbered f n) cs
          (not_there (far f base) is (distance base n) Any nearer farther at cs c (begins f base cs (distance base n) at
          b)
          (rises f base cs r) (each_any cs) here (other_test (f c.item) n other))

      pub number_gone : IsRising (fars f base cs) → is_there c ≡ false → NonePasses (numbered f n) (there cs)
      number_gone r t =
          let from : Each (λ d. distance base n ≤ far f base d) (c ∷ drop (suc at) cs) =
          subst (Each (λ d. distance base n ≤ far f base d)) (from_item at cs c here)
          (each_from (far f base) (distance base n) at cs (begins f base cs (distance base n) at b)) in
          let after = each_map (λ d. far f base c < far f base d) (λ d. is d ≡ false)
          (λ d less. other_test (f d.item) n (λ e. let same : far f base d ≡ distance base n = ap (distance base) e in
          let least = from.0 in omega (arith, least, less, same)))
          (drop (suc at) cs) (each_after_item (far f base) at cs c (rises f base cs r) here) in
          subst (NonePasses (numbered f n)) (sym (there_not cs at c here t))
          (none_both (numbered f n) (there (take at cs)) (there (drop (suc at) cs)) number_before
          (there_none (numbered f n) (drop (suc at) cs) after))

-- ---- a range

outside : (first last n : ℕ) → (is_forward first last ≡ true → distance first last < distance first n) →
    is_within first last n ≡ false
outside first last n h = by (is_forward first last) refl
  where
    by : (b : Bool) → is_forward first last ≡ b → is_within first last n ≡ false
    by true t = let far = h t in let u : nat_le (distance first n) (distance first last) ≡ false =
        grind (arith, nat_tests, common_steps) in rw (t, u) refl
    by false t = rw t refl

forward_span : (first last : ℕ) → is_forward first last ≡ true → distance first last < 2 ^ 31
forward_span first last t = grind (arith, nat_tests, common_steps)

past_span : (first last n : ℕ) → is_within first last n ≡ false → is_forward first last ≡ true →
    distance first last < distance first n
past_span first last n t u = let v : nat_le (distance first n) (distance first last) ≡ false =
    sym (ap (λ b. b && nat_le (distance first n) (distance first last)) u) ∙ t in grind (arith, nat_tests, common_steps)

module _ {X : Type 0} (f : X → ℕ) (base first last : ℕ) (hb : base < 2 ^ 32) (hf : first < 2 ^ 32) where
  -- before where the range is sought all lie more than half of the circle after its first
  far_before : (n : ℕ) → distance base n < start_of base first → 2 ^ 31 < distance first n
  far_before n h = by (nat_lt (distance base first) (2 ^ 31)) refl
    where
      by : (b : Bool) → nat_lt (distance base first) (2 ^ 31) ≡ b → 2 ^ 31 < distance first n
      by true t =
          let s : distance base first < 2 ^ 31 = grind (arith, nat_tests, common_steps) in
          let e : start_of base first ≡ distance base first = ap (λ b. cond b (distance base first) 0) t in
          omega (arith, s, e, h, hb, hf)
      by false t = absurd (let e : start_of base first ≡ 0 = ap (λ b. cond b (distance base first) 0) t in
          omega (arith, e, h))

  -- and from there on what lies later lies farther after its first
  farther_on : (m n : ℕ) → start_of base first ≤ distance base m → distance base m < distance base n →
      distance base n < 2 ^ 31 →
      distance first m < distance first n
  farther_on m n h k l = by (nat_lt (distance base first) (2 ^ 31)) refl
    where
      by : (b : Bool) → nat_lt (distance base first) (2 ^ 31) ≡ b → distance first m < distance first n
      by true t =
          let e : start_of base first ≡ distance base first = ap (λ b. cond b (distance base first) 0) t in
          omega (arith, e, h, k, l, hb, hf)
      by false t =
          let s : 2 ^ 31 ≤ distance base first = grind (arith, nat_tests, common_steps) in
          omega (arith, s, k, l, hb, hf)

  abbrev in_range : Cell X → Bool
  in_range c = ranged f first last c.item

  abbrev Half : Cell X → Type 0
  Half c = far f base c < 2 ^ 31

  sooner : (c : Cell X) → far f base c < start_of base first → in_range c ≡ false
  sooner c h = outside first last (f c.item) (λ t. let s = forward_span first last t in let d = far_before (f c.item) h
      in
      omega (arith, s, d))

  later : (c d : Cell X) → Half c → Half d → start_of base first ≤ far f base c → far f base c < far f base d →
      in_range c ≡ false → in_range d ≡ false
  later c d x y h m t = outside first last (f d.item) (λ u. let p = past_span first last (f c.item) t u in
      let q = farther_on (f c.item) (f d.item) h m y in omega (arith, p, q))

  module _ (cs : List (Cell X)) (from at : ℕ) (b : Begins (fars f base cs) (start_of base first) from)
      (order : from ≤ at) (gone : FirstGone (at - from) (drop from cs)) where
    abbrev meant : X → Bool
    meant x = ranged f first last x

    before_from : NonePasses meant (there (take from cs))
    before_from = there_none meant (take from cs)
        (before (far f base) in_range (start_of base first) Half sooner later from cs
        (begins f base cs (start_of base first) from b))

    pub range_before : NonePasses meant (there (take at cs))
    range_before =
        let parts = there_split from (take at cs) in
        let one = take-take from at cs order in
        let two : drop from (take at cs) ≡ take (at - from) (drop from cs) =
        ap (λ n. drop from (take n cs)) (let e : at ≡ from + (at - from) = omega (arith, order) in e)
        ∙ drop-take from (at - from) cs in
        let all : there (take at cs) ≡ there (take from cs) = parts
        ∙ ap (λ xs. there xs ++ there (drop from (take at cs))) one
        ∙ ap (λ xs. there (take from cs) ++ there xs) two
        ∙ ap (λ xs. there (take from cs) ++ xs) (none_before (at - from) (drop from cs) gone)
        ∙ append-nil (there (take from cs)) in
        subst (NonePasses meant) (sym all) before_from

    pub range_past : length cs ≤ at → NonePasses meant (there cs)
    range_past h = subst (λ xs. NonePasses meant (there xs)) (take_all at cs h) range_before

    module _ (c : Cell X) (there_here : slice_get cs at ≡ Some c) (t : IsThereAt cs at) where
      pub range_other : IsRising (fars f base cs) → Below (2 ^ 31) (fars f base cs) →
          is_within first last (f c.item) ≡ false → NonePasses meant (there cs)
      range_other r half w =
          let rising = rises f base cs r in
          let half' : Each Half cs = below_each (far f base) (2 ^ 31) cs (subst (Below (2 ^ 31)) (fars_are f base cs)
          half) in
          let least : start_of base first ≤ far f base c =
          each_at (λ d. start_of base first ≤ far f base d) (at - from) (drop from cs) c
          (each_from (far f base) (start_of base first) from cs (begins f base cs (start_of base first) from b))
          (got_from from at order c there_here) in
          let after = each_map (λ d. (far f base c < far f base d) × Half d) (λ d. in_range d ≡ false)
          (λ d m. later c d (each_at Half at cs c half' there_here) m.1 least m.0 w) (drop (suc at) cs)
          (each_both (λ d. far f base c < far f base d) Half (drop (suc at) cs)
          (each_after_item (far f base) at cs c rising there_here) (each_drop Half (suc at) cs half')) in
          subst (NonePasses meant) (sym (there_at cs at c there_here (t c there_here)))
          (none_both meant (there (take at cs)) (c.item ∷ there (drop (suc at) cs)) range_before
          (w, there_none meant (drop (suc at) cs) after))
        where
          got_from : (from at : ℕ) → from ≤ at → (c : Cell X) → slice_get cs at ≡ Some c →
              slice_get (drop from cs) (at - from) ≡ Some c
          got_from from at o c k = got_drop from cs (at - from)
              ∙ ap (slice_get cs) (let e : from + (at - from) ≡ at = omega (arith, o) in e) ∙ k
