-- Tables that lose a stretch of their records.
use Rattle.std.proofs.Common.{◌≡◌, ℕ, suc, zero, ◌≤◌, ◌<◌, ◌+◌, ◌-◌, ◌*◌, ◌^◌, List, [], ◌∷◌, ◌++◌, length, take, drop, refl, ap, sym, ◌∙◌, subst, arith, cond, Bool, true, false, not, nat_le, inl, inr, append-nil, length-drop, length-take}
use Rattle.std.specs.List.{filter}
use Rattle.std.proofs.lemmas.Bool.{cases_lt}
use Rattle.std.proofs.lemmas.Bool.Decides.{nat_tests}
use Rattle.std.proofs.lemmas.Grind.{common_steps}
use Rattle.std.proofs.lemmas.List.{drop_all, drop-drop, take-append-drop, take-append-le, drop-append-le}
use Rattle.std.proofs.lemmas.List.Elements.{filter-append}
use Rattle.amqp_types.specs.Disposition.{DispositionModel}
use Rattle.amqp_session.specs.declared.deliveries.Delivery.{Delivery}
use Rattle.amqp_session.specs.Deliveries.{EachNumber, IsRising, IsTable, cut}
use Rattle.amqp_session.specs.Links.{LinksView}
use Rattle.amqp_session.specs.Relay.{DispositionGives, DispositionQuestion}
use Rattle.amqp_session.specs.Disposing.{is_meant, in_order, meant, not_meant, AsksEach, agreed}
use Rattle.amqp_session.specs.Inner.Walks.{turned, EachMeant, IsSplit, IsWalked}
use Rattle.amqp_session.proofs.WalkLemmas.{turned_length}

each_drop : (P : ℕ → Type 0) (j : ℕ) (rows : List Delivery) → EachNumber P rows → EachNumber P (drop j rows)
each_drop P zero rows a = a
each_drop P (suc j) [] a = tt
each_drop P (suc j) (e ∷ es) a = each_drop P j es a.1

rising_drop : (j : ℕ) (rows : List Delivery) → IsRising rows → IsRising (drop j rows)
rising_drop zero rows r = r
rising_drop (suc j) [] r = tt
rising_drop (suc j) (e ∷ es) r = rising_drop j es r.1

each_cut : (P : ℕ → Type 0) (i j : ℕ) (rows : List Delivery) → EachNumber P rows → EachNumber P (take i rows ++ drop j rows)
each_cut P i j rows a = join i rows (drop j rows) a (each_drop P j rows a)
  where
    join : (k : ℕ) (xs ys : List Delivery) → EachNumber P xs → EachNumber P ys → EachNumber P (take k xs ++ ys)
    join zero xs ys h g = g
    join (suc k) [] ys h g = g
    join (suc k) (x ∷ xs) ys h g = (h.0, join k xs ys h.1 g)

rising_cut : (i j : ℕ) (rows : List Delivery) → i ≤ j → IsRising rows → IsRising (take i rows ++ drop j rows)
rising_cut zero j rows h r = rising_drop j rows r
rising_cut (suc i) j [] h r = rising_drop j [] r
rising_cut (suc i) zero (e ∷ es) h r = absurd (omega (arith, h))
rising_cut (suc i) (suc j) (e ∷ es) h r = (each_cut (λ k. e.number < k) i j es r.0, rising_cut i j es (omega (arith, h)) r.1)

pub table_cut : (i j : ℕ) (rows : List Delivery) → i ≤ j → IsTable rows → IsTable (take i rows ++ drop j rows)
table_cut i j rows h t = (rising_cut i j rows h t.0, each_cut (λ k. k < 2 ^ 32) i j rows t.1)

pub table_drop : (j : ℕ) (rows : List Delivery) → IsTable rows → IsTable (drop j rows)
table_drop j rows t = (rising_drop j rows t.0, each_drop (λ k. k < 2 ^ 32) j rows t.1)

pub table_take : (i : ℕ) (rows : List Delivery) → IsTable rows → IsTable (take i rows)
table_take i rows t = subst IsTable (ap (λ xs. take i rows ++ xs) (none i rows) ∙ append-nil (take i rows)) (table_cut i (i + length rows) rows (omega arith) t)
  where
    none : (k : ℕ) (xs : List Delivery) → drop (k + length xs) xs ≡ []
    none k xs = drop_all (k + length xs) xs (omega arith)

-- a table without some of its records is one
pub table_without : (from count : ℕ) (rows : List Delivery) → IsTable rows → IsTable (cut from count rows)
table_without from count rows t =
    either (nat_le count (length rows - from)) _ _ (table_cut from (from + count) rows (omega arith) t) (table_drop (count - (length rows - from)) (take from rows) (table_take from rows t))
  where
    either : (b : Bool) (xs ys : List Delivery) → IsTable xs → IsTable ys → IsTable (cond b xs ys)
    either true xs ys h g = h
    either false xs ys h g = g

-- ---- what is meant is a stretch of the order

filter_all : (d : DispositionModel) (rows : List Delivery) → EachMeant d true rows →
    (filter (λ r. is_meant d.first d.last r.number) rows ≡ rows) × (not_meant d rows ≡ [])
filter_all d [] e = (refl, refl)
filter_all d (r ∷ rs) e = let rest = filter_all d rs e.1 in (rw e.0 (ap (λ xs. r ∷ xs) rest.0), rw e.0 rest.1)

filter_none : (d : DispositionModel) (rows : List Delivery) → EachMeant d false rows →
    (filter (λ r. is_meant d.first d.last r.number) rows ≡ []) × (not_meant d rows ≡ rows)
filter_none d [] e = (refl, refl)
filter_none d (r ∷ rs) e = let rest = filter_none d rs e.1 in (rw e.0 rest.0, rw e.0 (ap (λ xs. r ∷ xs) rest.1))

each_split : (d : DispositionModel) (b : Bool) (xs ys : List Delivery) → EachMeant d b (xs ++ ys) → EachMeant d b xs × EachMeant d b ys
each_split d b [] ys e = (tt, e)
each_split d b (x ∷ xs) ys e = let s = each_split d b xs ys e.1 in ((e.0, s.0), s.1)

-- those meant are the first of the order
pub split_meant : (d : DispositionModel) (rows : List Delivery) (from n : ℕ) → in_order d.first rows ≡ turned from rows →
    IsSplit d (turned from rows) n → meant d rows ≡ take n (turned from rows)
split_meant d rows from n o s =
    ap (filter (λ r. is_meant d.first d.last r.number)) (o ∙ sym (take-append-drop n (turned from rows))) ∙ filter-append (λ r. is_meant d.first d.last r.number) (take n (turned from rows)) (drop n (turned from rows))
    ∙ rw ((filter_all d (take n (turned from rows)) s.near).0, (filter_none d (drop n (turned from rows)) s.far).0) (append-nil (take n (turned from rows)))

take_past : (xs ys : List Delivery) (m : ℕ) → take (length xs + m) (xs ++ ys) ≡ xs ++ take m ys
take_past [] ys m = ap (λ k. take k ys) (omega arith)
take_past (x ∷ xs) ys m =
    let e : suc (length xs) + m ≡ suc (length xs + m) = omega arith in
    rw e (ap (λ zs. x ∷ zs) (take_past xs ys m))

drop_past : (xs ys : List Delivery) (m : ℕ) → drop (length xs + m) (xs ++ ys) ≡ drop m ys
drop_past [] ys m = ap (λ k. drop k ys) (omega arith)
drop_past (x ∷ xs) ys m =
    let e : suc (length xs) + m ≡ suc (length xs + m) = omega arith in
    rw e (drop_past xs ys m)

not_meant_append : (d : DispositionModel) (xs ys : List Delivery) → not_meant d (xs ++ ys) ≡ not_meant d xs ++ not_meant d ys
not_meant_append d xs ys = filter-append (λ r. not (is_meant d.first d.last r.number)) xs ys

-- those meant stand at the front of one part
near_cut : (d : DispositionModel) (t near far : List Delivery) → EachMeant d true near → EachMeant d false (far ++ t) →
    not_meant d (t ++ (near ++ far)) ≡ t ++ far
near_cut d t near far n f =
    let s = each_split d false far t f in
    not_meant_append d t (near ++ far) ∙ ap (λ xs. xs ++ not_meant d (near ++ far)) (filter_none d t s.1).1
    ∙ ap (λ xs. t ++ xs) (not_meant_append d near far ∙ ap (λ xs. xs ++ not_meant d far) (filter_all d near n).1 ∙ (filter_none d far s.0).1)

-- or they are all of one and the front of the other
far_cut : (d : DispositionModel) (all near far : List Delivery) → EachMeant d true (all ++ near) → EachMeant d false far →
    not_meant d ((near ++ far) ++ all) ≡ far
far_cut d all near far n f =
    let s = each_split d true all near n in
    not_meant_append d (near ++ far) all ∙ ap (λ xs. not_meant d (near ++ far) ++ xs) (filter_all d all s.0).1
    ∙ append-nil (not_meant d (near ++ far)) ∙ not_meant_append d near far ∙ ap (λ xs. xs ++ not_meant d far) (filter_all d near s.1).1 ∙ (filter_none d far f).1

-- those that are left are the others
pub split_cut : (d : DispositionModel) (rows : List Delivery) (from n : ℕ) → from ≤ length rows → IsSplit d (turned from rows) n →
    cut from n rows ≡ not_meant d rows
split_cut d rows from n h s =
    let front : List Delivery = take from rows in
    let back : List Delivery = drop from rows in
    let whole : front ++ back ≡ rows = take-append-drop from rows in
    let len : length back ≡ length rows - from = length-drop from rows in
    elim (cases_lt (length rows - from) n) [
      | inl far ↦
          let m : length back + (n - (length rows - from)) ≡ n = omega (arith, len, far) in
          let t : nat_le n (length rows - from) ≡ false = grind (arith, nat_tests, common_steps) in
          let taken : take n (back ++ front) ≡ back ++ take (n - (length rows - from)) front = ap (λ k. take k (back ++ front)) (sym m) ∙ take_past back front (n - (length rows - from)) in
          let left : drop n (back ++ front) ≡ drop (n - (length rows - from)) front = ap (λ k. drop k (back ++ front)) (sym m) ∙ drop_past back front (n - (length rows - from)) in
          let near = subst (EachMeant d true) taken s.near in
          let others = subst (EachMeant d false) left s.far in
          ap (λ b. cond b (front ++ drop (from + n) rows) (drop (n - (length rows - from)) front)) t
          ∙ sym (far_cut d back (take (n - (length rows - from)) front) (drop (n - (length rows - from)) front) near others)
          ∙ ap (λ xs. not_meant d (xs ++ back)) (take-append-drop (n - (length rows - from)) front) ∙ ap (not_meant d) whole
      | inr near_end ↦
          let t : nat_le n (length rows - from) ≡ true = grind (arith, nat_tests, common_steps) in
          let within : n ≤ length back = omega (arith, len, near_end) in
          let near = subst (EachMeant d true) (take-append-le n back front within) s.near in
          let others = subst (EachMeant d false) (drop-append-le n back front within) s.far in
          ap (λ b. cond b (front ++ drop (from + n) rows) (drop (n - (length rows - from)) front)) t
          ∙ ap (λ xs. front ++ xs) (sym (drop-drop n from rows))
          ∙ sym (near_cut d front (take n back) (drop n back) near others)
          ∙ ap (λ xs. not_meant d (front ++ xs)) (take-append-drop n back) ∙ ap (not_meant d) whole
    ]

pub meant_length : (d : DispositionModel) (rows : List Delivery) (from n : ℕ) → from ≤ length rows → n ≤ length rows →
    in_order d.first rows ≡ turned from rows → IsSplit d (turned from rows) n → length (meant d rows) ≡ n
meant_length d rows from n h k o s =
    let a = ap length (split_meant d rows from n o s) in
    let b = length-take n (turned from rows) in
    let c = turned_length from rows h in
    omega (arith, a, b, c, k)

-- where a relay answered true, a record is open
pub some_asked : {R : Type 0} → (gives : DispositionGives R) (d : DispositionModel) (rows : List Delivery) (asked : List (DispositionQuestion R)) (l new : LinksView R) →
    AsksEach gives d (meant d rows) asked l new → 0 < length (agreed asked) → ¬ (rows ≡ [])
some_asked gives d rows asked l new t some none =
    let asks = subst (λ rs. AsksEach gives d (meant d rs) asked l new) none t in
    omega (arith, ap (λ qs. length (agreed qs)) asks.0, some)

pub walked : (d : DispositionModel) (rows : List Delivery) (from n turns comparisons : ℕ) → from ≤ length rows →
    n ≤ length rows → in_order d.first rows ≡ turned from rows → IsSplit d (turned from rows) n →
    turns ≤ n + 1 → n ≤ turns → 2 ^ comparisons ≤ 2 * length rows + 1 → IsWalked d rows (record { turns = turns; comparisons = comparisons })
walked d rows from n turns comparisons h k o s most least cost =
    let len = meant_length d rows from n h k o s in
    record { turns = omega (arith, len, most); each_read = omega (arith, len, least); comparisons = cost }
