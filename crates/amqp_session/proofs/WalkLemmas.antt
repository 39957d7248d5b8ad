-- The walk over a table from a number on, by rising distance.
use Rattle.std.proofs.Common.{◌≡◌, ℕ, suc, zero, ◌<◌, ◌≤◌, ◌+◌, ◌-◌, ◌^◌, List, [], ◌∷◌, ◌++◌, length, take, drop, refl, ap, sym, ◌∙◌, subst, arith, cond, Bool, true, false, inl, inr, nat_le, nat_lt, slice_get, Option, Some, None, length-append, length-take, length-drop, append-nil, get_or, map}
use Rattle.std.specs.List.{filter}
use Rattle.std.proofs.lemmas.Bool.{cases_lt}
use Rattle.std.proofs.lemmas.Bool.Decides.{nat_tests}
use Rattle.std.proofs.lemmas.Grind.{common_steps}
use Rattle.std.proofs.lemmas.List.{take_more, drop_more, drop_all, get_or-drop, get_or-take, get_or-append-add, get_or_append_left, take-append-drop}
use Rattle.std.proofs.lemmas.Option.{get_or_from_slice_get}
use Rattle.amqp_types.specs.Disposition.{DispositionModel}
use Rattle.amqp_session.specs.declared.deliveries.Delivery.{Delivery}
use Rattle.amqp_session.specs.Runs.{DeliveryRange, extended}
use Rattle.amqp_session.specs.Relay.{DispositionGives, DispositionQuestion}
use Rattle.amqp_session.specs.Links.{LinksView}
use Rattle.amqp_session.specs.Deliveries.{Above, Under, IsRising, IsTable, number_at}
use Rattle.amqp_session.specs.Disposing.{distance, span, is_meant, in_order, AsksAt, AsksEach, prepended, has_agreed, agreed, AreRuns}
use Rattle.amqp_session.specs.Inner.Walks.{around, turned, EachMeant, IsSplit, noted, noted_by}
use Rattle.amqp_session.proofs.GrowingRunLemmas.{EndBefore, end_later, grown, grown_ends}

-- ---- tests

is_ge : (a b : ℕ) → a ≤ b → nat_le a b ≡ true
is_ge a b h = grind (arith, nat_tests, common_steps)

not_ge : (a b : ℕ) → b < a → nat_le a b ≡ false
not_ge a b h = grind (arith, nat_tests, common_steps)

is_lt : (a b : ℕ) → a < b → nat_lt a b ≡ true
is_lt a b h = grind (arith, nat_tests, common_steps)

not_lt : (a b : ℕ) → b ≤ a → nat_lt a b ≡ false
not_lt a b h = grind (arith, nat_tests, common_steps)

-- ---- distances rise

-- The distances of these rise, from k on.
abbrev pub Farther : ℕ → ℕ → List Delivery → Type 0
Farther first k [] = Unit {0}
Farther first k (r ∷ rs) = (k ≤ distance first r.number) × Farther first (distance first r.number + 1) rs

-- the distance after the last of these, from k on
abbrev pub reach : ℕ → ℕ → List Delivery → ℕ
reach first k [] = k
reach first k (r ∷ rs) = reach first (distance first r.number + 1) rs

farther_less : (first j k : ℕ) (rows : List Delivery) → j ≤ k → Farther first k rows → Farther first j rows
farther_less first j k [] h f = tt
farther_less first j k (r ∷ rs) h f = (omega (arith, h, f.0), f.1)

farther_append : (first k : ℕ) (xs ys : List Delivery) → Farther first k xs → Farther first (reach first k xs) ys →
    Farther first k (xs ++ ys)
farther_append first k [] ys f g = g
farther_append first k (r ∷ rs) ys f g = (f.0, farther_append first (distance first r.number + 1) rs ys f.1 g)

farther_split : (first k : ℕ) (xs ys : List Delivery) → Farther first k (xs ++ ys) →
    Farther first k xs × Farther first (reach first k xs) ys
farther_split first k [] ys f = (tt, f)
farther_split first k (r ∷ rs) ys f = let s = farther_split first (distance first r.number + 1) rs ys f.1 in ((f.0, s.0), s.1)

pub reach_more : (first k : ℕ) (xs : List Delivery) (x : Delivery) → reach first k (xs ++ x ∷ []) ≡ distance first x.number + 1
reach_more first k [] x = refl
reach_more first k (r ∷ rs) x = reach_more first (distance first r.number + 1) rs x

reach_length : (first k : ℕ) (xs : List Delivery) → Farther first k xs → k + length xs ≤ reach first k xs
reach_length first k [] f = omega arith
reach_length first k (r ∷ rs) f = let h = reach_length first (distance first r.number + 1) rs f.1 in omega (arith, h, f.0)

-- ---- a table from a number on

abbrev AtLeast : ℕ → List Delivery → Type 0
AtLeast c [] = Unit {0}
AtLeast c (e ∷ es) = (c ≤ e.number) × AtLeast c es

above_least : (n : ℕ) (rows : List Delivery) → Above n rows → AtLeast (n + 1) rows
above_least n [] a = tt
above_least n (e ∷ es) a = (omega (arith, a.0), above_least n es a.1)

least_zero : (rows : List Delivery) → AtLeast 0 rows
least_zero [] = tt
least_zero (e ∷ es) = (omega arith, least_zero es)

abbrev from_on : ℕ → List Delivery → List Delivery
from_on first rows = filter (λ r. nat_le first r.number) rows

abbrev below : ℕ → List Delivery → List Delivery
below first rows = filter (λ r. nat_lt r.number first) rows

up_distance : (first n : ℕ) → first ≤ n → n < 2 ^ 32 → distance first n ≡ n - first
up_distance first n h k = omega arith

down_distance : (first n : ℕ) → n < first → first < 2 ^ 32 → distance first n ≡ n + 2 ^ 32 - first
down_distance first n h k = omega arith

module _ (first : ℕ) (hf : first < 2 ^ 32) where
  up_farther : (c : ℕ) (rows : List Delivery) → AtLeast c rows → IsRising rows → Under (2 ^ 32) rows →
      Farther first (c - first) (from_on first rows)
  up_farther c [] a r u = tt
  up_farther c (e ∷ es) a r u =
      elim (cases_lt e.number first) [
        | inl less ↦ rw (not_ge first e.number less) (farther_less first (c - first) (e.number + 1 - first) (from_on first es) (omega (arith, a.0)) (up_farther (e.number + 1) es (above_least e.number es r.0) r.1 u.1))
        | inr more ↦
            let d = up_distance first e.number more u.0 in
            let rest = up_farther (e.number + 1) es (above_least e.number es r.0) r.1 u.1 in
            rw (is_ge first e.number more) (omega (arith, d, a.0), farther_less first (distance first e.number + 1) (e.number + 1 - first) (from_on first es) (omega (arith, d, more)) rest)
      ]

  up_reach : (k : ℕ) (rows : List Delivery) → Under (2 ^ 32) rows → k ≤ 2 ^ 32 - first → reach first k (from_on first rows) ≤ 2 ^ 32 - first
  up_reach k [] u h = h
  up_reach k (e ∷ es) u h =
      elim (cases_lt e.number first) [
        | inl less ↦ rw (not_ge first e.number less) (up_reach k es u.1 h)
        | inr more ↦ let d = up_distance first e.number more u.0 in rw (is_ge first e.number more) (up_reach (distance first e.number + 1) es u.1 (omega (arith, d, more, u.0)))
      ]

  down_farther : (c : ℕ) (rows : List Delivery) → AtLeast c rows → IsRising rows → Farther first (c + (2 ^ 32 - first)) (below first rows)
  down_farther c [] a r = tt
  down_farther c (e ∷ es) a r =
      elim (cases_lt e.number first) [
        | inl less ↦
            let d = down_distance first e.number less hf in
            let rest = down_farther (e.number + 1) es (above_least e.number es r.0) r.1 in
            rw (is_lt e.number first less) (omega (arith, d, a.0), farther_less first (distance first e.number + 1) (e.number + 1 + (2 ^ 32 - first)) (below first es) (omega (arith, d)) rest)
        | inr more ↦ rw (not_lt e.number first more) (farther_less first (c + (2 ^ 32 - first)) (e.number + 1 + (2 ^ 32 - first)) (below first es) (omega (arith, a.0)) (down_farther (e.number + 1) es (above_least e.number es r.0) r.1))
      ]

  -- in order the distances rise
  pub order_farther : (rows : List Delivery) → IsTable rows → Farther first 0 (in_order first rows)
  order_farther rows t =
      let up = farther_less first 0 (0 - first) (from_on first rows) (omega arith) (up_farther 0 rows (least_zero rows) t.0 t.1) in
      let far = up_reach 0 rows t.1 (omega arith) in
      farther_append first 0 (from_on first rows) (below first rows) up (farther_less first (reach first 0 (from_on first rows)) (0 + (2 ^ 32 - first)) (below first rows) (omega (arith, far)) (down_farther 0 rows (least_zero rows) t.0))

-- the order is that of the table, turned to the place where the numbers begin
parts : (first : ℕ) (rows : List Delivery) (from : ℕ) → from ≤ length rows → ((i : ℕ) → i < from → number_at rows i < first) →
    ((i : ℕ) → from ≤ i → i < length rows → first ≤ number_at rows i) →
    (from_on first rows ≡ drop from rows) × (below first rows ≡ take from rows)
parts first [] zero h low high = (refl, refl)
parts first [] (suc from) h low high = absurd (omega (arith, h))
parts first (e ∷ es) zero h low high =
    let ge : first ≤ e.number = high 0 (omega arith) (omega arith) in
    let rest = parts first es zero (omega arith) (λ i lt. absurd (omega (arith, lt))) (λ i k lt. high (suc i) (omega arith) (omega (arith, lt))) in
    (ap (λ b. cond b (e ∷ from_on first es) (from_on first es)) (is_ge first e.number ge) ∙ ap (λ xs. e ∷ xs) rest.0, ap (λ b. cond b (e ∷ below first es) (below first es)) (not_lt e.number first ge) ∙ rest.1)
parts first (e ∷ es) (suc from) h low high =
    let less : e.number < first = low 0 (omega arith) in
    let rest = parts first es from (omega (arith, h)) (λ i lt. low (suc i) (omega (arith, lt))) (λ i k lt. high (suc i) (omega (arith, k)) (omega (arith, lt))) in
    (ap (λ b. cond b (e ∷ from_on first es) (from_on first es)) (not_ge first e.number less) ∙ rest.0, ap (λ b. cond b (e ∷ below first es) (below first es)) (is_lt e.number first less) ∙ ap (λ xs. e ∷ xs) rest.1)

pub order_turned : (first : ℕ) (rows : List Delivery) (from : ℕ) → from ≤ length rows →
    ((i : ℕ) → i < from → number_at rows i < first) → ((i : ℕ) → from ≤ i → i < length rows → first ≤ number_at rows i) →
    in_order first rows ≡ turned from rows
order_turned first rows from h low high = let p = parts first rows from h low high in rw (p.0, p.1) refl

-- ---- the walk

pub turned_length : (from : ℕ) (rows : List Delivery) → from ≤ length rows → length (turned from rows) ≡ length rows
turned_length from rows h = let a = length-append (drop from rows) (take from rows) in let b = length-drop from rows in let c = length-take from rows in omega (arith, a, b, c, h)

-- the record that is read at a step
pub turned_read : (from : ℕ) (rows : List Delivery) (count : ℕ) (x : Delivery) → from ≤ length rows → count < length rows →
    slice_get rows (around from count (length rows)) ≡ Some x → get_or (turned from rows) count x ≡ x
turned_read from rows count x h lt at =
    elim (cases_lt count (length rows - from)) [
      | inl near ↦
          let p : around from count (length rows) ≡ from + count = ap (λ b. cond b (from + count) (count - (length rows - from))) (is_lt count (length rows - from) near) in
          let in_front : count < length (drop from rows) = let b = length-drop from rows in omega (arith, b, near) in
          get_or_append_left (drop from rows) (take from rows) x count in_front ∙ get_or-drop from rows count x ∙ get_or_from_slice_get rows (from + count) x x (ap (slice_get rows) (sym p) ∙ at)
      | inr far ↦
          let p : around from count (length rows) ≡ count - (length rows - from) = ap (λ b. cond b (from + count) (count - (length rows - from))) (not_lt count (length rows - from) far) in
          let e : length (drop from rows) + (count - (length rows - from)) ≡ count = let b = length-drop from rows in omega (arith, b, far) in
          let less : count - (length rows - from) < from = omega (arith, h, lt, far) in
          ap (λ i. get_or (turned from rows) i x) (sym e) ∙ get_or-append-add (drop from rows) (take from rows) (count - (length rows - from)) x
          ∙ get_or-take from rows (count - (length rows - from)) x less ∙ get_or_from_slice_get rows (count - (length rows - from)) x x (ap (slice_get rows) (sym p) ∙ at)
    ]

-- all of these are meant, and one more
pub each_more : (d : DispositionModel) (b : Bool) (xs : List Delivery) (x : Delivery) → EachMeant d b xs →
    is_meant d.first d.last x.number ≡ b → EachMeant d b (xs ++ x ∷ [])
each_more d b [] x e h = (h, tt)
each_more d b (r ∷ rs) x e h = (e.0, each_more d b rs x e.1 h)

-- a number of a forward range, and one that is not
pub meant_is : (d : DispositionModel) (n : ℕ) → span d.first d.last < 2 ^ 31 → distance d.first n ≤ span d.first d.last →
    is_meant d.first d.last n ≡ true
meant_is d n f h = rw (is_lt (span d.first d.last) (2 ^ 31) f, is_ge (distance d.first n) (span d.first d.last) h) refl

pub meant_not : (d : DispositionModel) (n : ℕ) → span d.first d.last < 2 ^ 31 → span d.first d.last < distance d.first n →
    is_meant d.first d.last n ≡ false
meant_not d n f h = rw (is_lt (span d.first d.last) (2 ^ 31) f, not_ge (distance d.first n) (span d.first d.last) h) refl

-- from a number that is too far on, none is meant
pub far_all : (d : DispositionModel) (k : ℕ) (rows : List Delivery) → span d.first d.last < 2 ^ 31 → span d.first d.last < k →
    Farther d.first k rows → EachMeant d false rows
far_all d k [] f h r = tt
far_all d k (e ∷ es) f h r = (meant_not d e.number f (omega (arith, h, r.0)), far_all d (distance d.first e.number + 1) es f (omega (arith, h, r.0)) r.1)

meant_near : (d : DispositionModel) (n : ℕ) → span d.first d.last < 2 ^ 31 → is_meant d.first d.last n ≡ true →
    distance d.first n ≤ span d.first d.last
meant_near d n f e =
    elim (cases_lt (span d.first d.last) (distance d.first n)) [
      | inl far ↦ absurd (let u = meant_not d n f far in cc)
      | inr near ↦ near
    ]

reach_near : (d : DispositionModel) (k : ℕ) (rows : List Delivery) → span d.first d.last < 2 ^ 31 → k ≤ span d.first d.last + 1 →
    EachMeant d true rows → reach d.first k rows ≤ span d.first d.last + 1
reach_near d k [] f h e = h
reach_near d k (r ∷ rs) f h e = let near = meant_near d r.number f e.0 in reach_near d (distance d.first r.number + 1) rs f (omega (arith, near)) e.1

-- ---- questions

first_agreed : {R : Type 0} →
    (gives : DispositionGives R) (d : DispositionModel) (x : Delivery) (one : Option (DispositionQuestion R)) (l new : LinksView R) →
    AsksAt gives d x one l new →
    agreed (prepended one []) ≡ cond (has_agreed one) (x.number ∷ []) []
first_agreed gives d x None l new h = refl
first_agreed gives d x (Some q) l new h = by q.answer
  where
    by : (b : Bool) → map (λ (y : DispositionQuestion _). y.asked.delivery.number) (cond b (q ∷ []) []) ≡ cond b (x.number ∷ []) []
    by true = rw h.0 refl
    by false = refl

after_agreed : {R : Type 0} → (one : Option (DispositionQuestion R)) (as' bs : List (DispositionQuestion R)) (ns : List ℕ) →
    agreed bs ≡ agreed as' ++ ns → agreed (prepended one bs) ≡ agreed (prepended one as') ++ ns
after_agreed None as' bs ns e = e
after_agreed (Some q) as' bs ns e = by q.answer
  where
    by : (b : Bool) → map (λ (y : DispositionQuestion _). y.asked.delivery.number) (cond b (q ∷ filter (λ (y : DispositionQuestion _). y.answer) bs) (filter (λ (y : DispositionQuestion _). y.answer) bs)) ≡ map (λ (y : DispositionQuestion _). y.asked.delivery.number) (cond b (q ∷ filter (λ (y : DispositionQuestion _). y.answer) as') (filter (λ (y : DispositionQuestion _). y.answer) as')) ++ ns
    by true = ap (λ xs. q.asked.delivery.number ∷ xs) e
    by false = e

-- one record more is asked about
pub asks_more : {R : Type 0} → (gives : DispositionGives R) (d : DispositionModel) (xs : List Delivery) (x : Delivery) (as' : List (DispositionQuestion R)) (one : Option (DispositionQuestion R)) (l m new : LinksView R) →
    AsksEach gives d xs as' l m → AsksAt gives d x one m new →
    (bs : List (DispositionQuestion R)) × AsksEach gives d (xs ++ x ∷ []) bs l new × (agreed bs ≡ agreed as' ++ cond (has_agreed one) (x.number ∷ []) [])
asks_more gives d [] x as' one l m new h a =
    let there = subst (λ y. AsksAt gives d x one y new) h.1 a in
    (prepended one [], (one, [], new, there, (refl, refl), refl), rw h.0 (first_agreed gives d x one l new there))
asks_more gives d (r ∷ rs) x as' one l m new h a =
    let rest = asks_more gives d rs x h.1 one h.2 m new h.4 a in
    (prepended h.0 rest.0, (h.0, rest.0, h.2, h.3, rest.1, refl), rw h.5 (after_agreed h.0 h.1 rest.0 (cond (has_agreed one) (x.number ∷ []) []) rest.2))

-- ---- runs

-- the runs of what is noted, with a number more
pub noted_more : {R : Type 0} → (first n : ℕ) (settled answer : Bool) (as' bs : List (DispositionQuestion R)) (runs : List DeliveryRange) →
    first < 2 ^ 32 → n < 2 ^ 32 → agreed bs ≡ agreed as' ++ cond answer (n ∷ []) [] →
    EndBefore first (distance first n) runs → AreRuns first (noted settled as') runs →
    AreRuns first (noted settled bs) (noted_by settled answer n runs) × EndBefore first (distance first n + 1) (noted_by settled answer n runs)
noted_more first n true answer as' bs runs hf hn e ends a = (a, end_later first (distance first n) (distance first n + 1) runs (omega arith) ends)
noted_more first n false true as' bs runs hf hn e ends a = (subst (λ ns. AreRuns first ns (extended n runs)) (sym e) (grown first n hf hn (agreed as') runs ends a), grown_ends first n hf hn runs ends)
noted_more first n false false as' bs runs hf hn e ends a = (subst (λ ns. AreRuns first ns runs) (sym (e ∙ append-nil (agreed as'))) a, end_later first (distance first n) (distance first n + 1) runs (omega arith) ends)

no_runs_yet : (first : ℕ) → AreRuns first [] []
no_runs_yet first = record { apart = tt; hold = λ n h. refl }

pub nothing_noted : (R : Type 0) (first : ℕ) (settled : Bool) → AreRuns first (noted {R = R} settled []) []
nothing_noted R first true = no_runs_yet first
nothing_noted R first false = no_runs_yet first

-- ---- one step

-- the record x is read at a step of the walk
pub record Reads (d : DispositionModel) (order : List Delivery) (count : ℕ) (x : Delivery) : Type 0 where
  pub grow : take (count + 1) order ≡ take count order ++ x ∷ []
  pub rest : drop count order ≡ x ∷ drop (count + 1) order
  pub near : reach d.first 0 (take count order) ≤ distance d.first x.number
  pub few : count ≤ reach d.first 0 (take count order)
  pub far : Farther d.first (distance d.first x.number) (drop count order)

pub reads : (d : DispositionModel) (rows : List Delivery) (from count : ℕ) (x : Delivery) → d.first < 2 ^ 32 → IsTable rows →
    from ≤ length rows → in_order d.first rows ≡ turned from rows → count < length rows →
    slice_get rows (around from count (length rows)) ≡ Some x → Reads d (turned from rows) count x
reads d rows from count x hf t h o lt at =
    let order = turned from rows in
    let len = turned_length from rows h in
    let within : count < length order = omega (arith, len, lt) in
    let read = turned_read from rows count x h lt at in
    let rest : drop count order ≡ x ∷ drop (count + 1) order = drop_more order count x within ∙ ap (λ y. y ∷ drop (count + 1) order) read in
    let all : Farther d.first 0 (take count order ++ drop count order) = subst (Farther d.first 0) (o ∙ sym (take-append-drop count order)) (order_farther d.first hf rows t) in
    let both = farther_split d.first 0 (take count order) (drop count order) all in
    let prepended : Farther d.first (reach d.first 0 (take count order)) (x ∷ drop (count + 1) order) = subst (Farther d.first (reach d.first 0 (take count order))) rest both.1 in
    let long = reach_length d.first 0 (take count order) both.0 in
    let taken = length-take count order in
    record {
      grow = take_more order count x within ∙ ap (λ y. take count order ++ y ∷ []) read;
      rest = rest;
      near = prepended.0;
      few = omega (arith, long, taken, within);
      far = subst (Farther d.first (distance d.first x.number)) (sym rest) (omega arith, prepended.1);
    }

-- the walk ends at a record that is too far on
pub stops_at : (d : DispositionModel) (order : List Delivery) (count : ℕ) (x : Delivery) → span d.first d.last < 2 ^ 31 →
    Reads d order count x → span d.first d.last < distance d.first x.number → EachMeant d true (take count order) → IsSplit d order count
stops_at d order count x f r far near = record { near = near; far = far_all d (distance d.first x.number) (drop count order) f far r.far }

-- or at the end
pub stops_end : (d : DispositionModel) (order : List Delivery) (count : ℕ) → length order ≤ count →
    EachMeant d true (take count order) → IsSplit d order count
stops_end d order count h near = record { near = near; far = subst (EachMeant d false) (sym (drop_all count order h)) tt }

-- or after the one record of its number, where the range is that number alone
pub stops_alone : (d : DispositionModel) (order : List Delivery) (x : Delivery) → span d.first d.last ≡ 0 → Reads d order 0 x →
    distance d.first x.number ≡ 0 → IsSplit d order 1
stops_alone d order x alone r same =
    let forward : span d.first d.last < 2 ^ 31 = omega (arith, alone) in
    let prepended = subst (Farther d.first (distance d.first x.number)) r.rest r.far in
    record {
      near = subst (EachMeant d true) (sym r.grow) (meant_is d x.number forward (omega (arith, same)), tt);
      far = far_all d (distance d.first x.number + 1) (drop 1 order) forward (omega (arith, alone)) prepended.1;
    }
