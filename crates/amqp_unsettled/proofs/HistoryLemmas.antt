-- What a table holds, by its history.
use Rattle.std.proofs.Common.{◌≡◌, ℕ, ◌+◌, ◌<◌, ◌^◌, arith, List, [], ◌∷◌, ◌++◌, length, append_assoc, append-nil}
use Rattle.std.proofs.Common.{ap, sym, subst, ◌∙◌, refl, cond, not, ◌||◌, Bool, true, false, Option, Some, None, Ok}
use Rattle.std.proofs.Common.{Err}
use Rattle.std.specs.List.{filter, find, list_any}
use Rattle.amqp_unsettled.specs.Inner.Order.{Each}
use Rattle.amqp_unsettled.specs.declared.entry.Entry.{Entry}
use Rattle.amqp_unsettled.specs.declared.entry.InsertError.TheVariants.{NotNext, OutOfMemory}
use Rattle.amqp_unsettled.specs.Chain.{Chain}
use Rattle.amqp_unsettled.specs.Table.{TakeStep, has_number, is_any, is_in, is_of, is_next, without_first}
use Rattle.amqp_unsettled.specs.History.{TableCall, TableStep, LeadsTo, listed, inserted_by, inserted_in, given_by}
use Rattle.amqp_unsettled.specs.History.{given_in, gives_back, unless_given, unsettled_after}
use Rattle.amqp_unsettled.specs.History.{Inserts, Removes, RemovesOldest, Settles, Leaves, Gets, Finds, AsksCount}
use Rattle.amqp_unsettled.specs.History.{AsksLen, AsksEmpty}
use Rattle.amqp_unsettled.specs.Laws.{InOrder}
use Rattle.amqp_unsettled.proofs.ListLemmas.{each_without, not_found, filter_append}
use Rattle.amqp_unsettled.proofs.TableLemmas.{Small, is_not_given, filter_all, counted_apart, only_one}
use Rattle.amqp_unsettled.proofs.TableLemmas.{in_order_without, in_order_end, small_end}

-- ---- one call more

given_append : (cs ds : List TableCall) → given_in (cs ++ ds) ≡ given_in cs ++ given_in ds
given_append [] ds = refl
given_append (c ∷ cs) ds = ap (λ es. given_by c ++ es) (given_append cs ds)
    ∙ sym (append_assoc (given_by c) (given_in cs) (given_in ds))

inserted_append : (cs ds : List TableCall) → inserted_in (cs ++ ds) ≡ inserted_in cs ++ inserted_in ds
inserted_append [] ds = refl
inserted_append (c ∷ cs) ds = ap (λ es. inserted_by c ++ es) (inserted_append cs ds)
    ∙ sym (append_assoc (inserted_by c) (inserted_in cs) (inserted_in ds))

any_append : {X : Type 0} (p : X → Bool) (xs ys : List X) → list_any p (xs ++ ys) ≡ (list_any p xs || list_any p ys)
any_append p [] ys = refl
any_append p (x ∷ xs) ys = by (p x) (any_append p xs ys)
  where
    by : (b : Bool) → list_any p (xs ++ ys) ≡ (list_any p xs || list_any p ys) →
        (b || list_any p (xs ++ ys)) ≡ ((b || list_any p xs) || list_any p ys)
    by true r = refl
    by false r = r

gives_append : (n : ℕ) (cs ds : List TableCall) → gives_back n (cs ++ ds) ≡ (gives_back n cs || gives_back n ds)
gives_append n cs ds = ap (list_any (has_number n)) (given_append cs ds)
    ∙ any_append (has_number n) (given_in cs) (given_in ds)

-- an entry that a call does not give back
abbrev is_left_by : TableCall → Entry → Bool
is_left_by c x = not (gives_back x.number (c ∷ []))

unless_more : (cs : List TableCall) (c : TableCall) (es : List Entry) →
    unless_given (cs ++ c ∷ []) es ≡ filter (is_left_by c) (unless_given cs es)
unless_more cs c [] = refl
unless_more cs c (e ∷ es) =
    ap (λ b. cond b (unless_given (cs ++ c ∷ []) es) (e ∷ unless_given (cs ++ c ∷ []) es))
    (gives_append e.number cs (c ∷ []))
    ∙ by (gives_back e.number cs) (gives_back e.number (c ∷ [])) refl (unless_more cs c es)
  where
    by : (a b : Bool) → gives_back e.number (c ∷ []) ≡ b →
        unless_given (cs ++ c ∷ []) es ≡ filter (is_left_by c) (unless_given cs es) →
        cond (a || b) (unless_given (cs ++ c ∷ []) es) (e ∷ unless_given (cs ++ c ∷ []) es)
        ≡ filter (is_left_by c) (cond a (unless_given cs es) (e ∷ unless_given cs es))
    by true b t r = r
    by false true t r = r
        ∙ sym (ap
        (λ d. cond (not d) (e ∷ filter (is_left_by c) (unless_given cs es))
        (filter (is_left_by c) (unless_given cs es))) t)
    by false false t r = ap (λ ys. e ∷ ys) r
        ∙ sym (ap
        (λ d. cond (not d) (e ∷ filter (is_left_by c) (unless_given cs es))
        (filter (is_left_by c) (unless_given cs es))) t)

unsettled_more : (G : List TableCall) (c : TableCall) →
    unsettled_after (G ++ c ∷ []) ≡ filter (is_left_by c) (unsettled_after G) ++ unless_given [] (inserted_by c)
unsettled_more [] c = append-nil (unless_given [] (inserted_by c))
unsettled_more (g ∷ gs) c =
    ap (λ es. es ++ unsettled_after (gs ++ c ∷ [])) (unless_more gs c (inserted_by g))
    ∙ ap (λ es. filter (is_left_by c) (unless_given gs (inserted_by g)) ++ es) (unsettled_more gs c)
    ∙ sym (append_assoc (filter (is_left_by c) (unless_given gs (inserted_by g)))
    (filter (is_left_by c) (unsettled_after gs)) (unless_given [] (inserted_by c)))
    ∙ ap (λ es. es ++ unless_given [] (inserted_by c))
    (sym (filter_append (is_left_by c) (unless_given gs (inserted_by g)) (unsettled_after gs)))

-- ---- what holds of each history

pub record Stands (G : List TableCall) (t : List Entry) : Type 0 where
  pub exact : t ≡ unsettled_after G
  pub order : InOrder t
  pub small : Each Small t
  pub in_all : (test : Entry → Bool) →
      length (filter test (inserted_in G)) ≡ length (filter test (given_in G)) + length (filter test t)

length_filter_append : (test : Entry → Bool) (xs ys : List Entry) →
    length (filter test (xs ++ ys)) ≡ length (filter test xs) + length (filter test ys)
length_filter_append test [] ys = omega arith
length_filter_append test (x ∷ xs) ys = by (test x) (length_filter_append test xs ys)
  where
    by : (b : Bool) → length (filter test (xs ++ ys)) ≡ length (filter test xs) + length (filter test ys) →
        length (cond b (x ∷ filter test (xs ++ ys)) (filter test (xs ++ ys)))
        ≡ length (cond b (x ∷ filter test xs) (filter test xs)) + length (filter test ys)
    by true r = omega (arith, r)
    by false r = r

module _ (G : List TableCall) (c : TableCall) (test : Entry → Bool) where
  inserted_count : length (filter test (inserted_in (G ++ c ∷ []))) ≡ length (filter test (inserted_in G)) + length
      (filter test (inserted_by c))
  inserted_count = ap (λ es. length (filter test es))
      (inserted_append G (c ∷ []) ∙ ap (λ es. inserted_in G ++ es) (append-nil (inserted_by c)))
      ∙ length_filter_append test (inserted_in G) (inserted_by c)

  given_count : length (filter test (given_in (G ++ c ∷ []))) ≡ length (filter test (given_in G)) + length
      (filter test (given_by c))
  given_count = ap (λ es. length (filter test es))
      (given_append G (c ∷ []) ∙ ap (λ es. given_in G ++ es) (append-nil (given_by c)))
      ∙ length_filter_append test (given_in G) (given_by c)

all_left : (c : TableCall) → given_by c ≡ [] → (es : List Entry) → Each (λ x. is_left_by c x ≡ true) es
all_left c g [] = tt
all_left c g (e ∷ es) = (ap (λ xs. not (list_any (has_number e.number) (xs ++ []))) g, all_left c g es)

-- a call that puts nothing in and gives nothing back
same : (G : List TableCall) (v w : List Entry) (c : TableCall) → Stands G v → inserted_by c ≡ [] → given_by c ≡ [] →
    w ≡ v → Stands (G ++ c ∷ []) w
same G v w c s i g e = subst (Stands (G ++ c ∷ [])) (sym e) (record {
  exact = s.exact ∙ sym (unsettled_more G c
      ∙ ap (λ xs. filter (is_left_by c) (unsettled_after G) ++ unless_given [] xs) i
      ∙ append-nil (filter (is_left_by c) (unsettled_after G))
      ∙ filter_all (is_left_by c) (unsettled_after G) (all_left c g (unsettled_after G)));
  order = s.order;
  small = s.small;
  in_all = λ test.
      let a = inserted_count G c test in
      let b = given_count G c test in
      let x = ap (λ es. length (filter test es)) i in
      let y = ap (λ es. length (filter test es)) g in
      let old = s.in_all test in
      omega (arith, a, b, x, y, old);
})

-- one that puts an entry in
more : (G : List TableCall) (v w : List Entry) (e : Entry) (done : Unit {0}) → Stands G v → e.number < 2 ^ 32 →
    is_next e.number v ≡ true → w ≡ v ++ e ∷ [] →
    Stands (G ++ Inserts e (Ok done) ∷ []) w
more G v w e done s h next is = subst (Stands (G ++ Inserts e (Ok done) ∷ [])) (sym is) (record {
  exact = ap (λ es. es ++ e ∷ [])
      (s.exact
      ∙ sym (filter_all (is_left_by (Inserts e (Ok done))) (unsettled_after G)
      (all_left (Inserts e (Ok done)) refl (unsettled_after G))))
      ∙ sym (unsettled_more G (Inserts e (Ok done)));
  order = in_order_end v e s.order next;
  small = small_end v e s.small h;
  in_all = λ test.
      let a = inserted_count G (Inserts e (Ok done)) test in
      let b = given_count G (Inserts e (Ok done)) test in
      let x = length_filter_append test v (e ∷ []) in
      let old = s.in_all test in
      omega (arith, a, b, x, old);
})

-- one that gives an entry back
fewer : (p : Entry → Bool) (G : List TableCall) (v w : List Entry) (c : TableCall) (e : Entry) → Stands G v →
    inserted_by c ≡ [] → given_by c ≡ e ∷ [] →
    find p v ≡ Some e → w ≡ without_first p v → Stands (G ++ c ∷ []) w
fewer p G v w c e s i g found is = subst (Stands (G ++ c ∷ [])) (sym is) (record {
  exact = sym (only_one p v e s.order s.small found) ∙ left ∙ ap (filter (is_left_by c)) s.exact
      ∙ sym (unsettled_more G c ∙ ap (λ xs. filter (is_left_by c) (unsettled_after G) ++ unless_given [] xs) i
      ∙ append-nil (filter (is_left_by c) (unsettled_after G)));
  order = in_order_without p v s.order;
  small = each_without Small p v s.small;
  in_all = λ test.
      let a = inserted_count G c test in
      let b = given_count G c test in
      let x = ap (λ es. length (filter test es)) i in
      let y = ap (λ es. length (filter test es)) g in
      let apart = counted_apart p test v e found in
      let old = s.in_all test in
      omega (arith, a, b, x, y, apart, old);
})
  where
    left : filter (is_not_given e) v ≡ filter (is_left_by c) v
    left = ap (λ xs. filter (λ (x : Entry). not (list_any (has_number x.number) (xs ++ []))) v) (sym g)

-- a call that takes the oldest one that is meant
taken : (p : Entry → Bool) (G : List TableCall) (v w : List Entry) (call : Option Entry → TableCall)
    (given : Option Entry) →
    ((o : Option Entry) → (inserted_by (call o) ≡ []) × (given_by (call o) ≡ listed o)) → Stands G v →
    TakeStep p v given w → Stands (G ++ call given ∷ []) w
taken p G v w call None effect s step = same G v w (call None) s (effect None).0 (effect None).1
    (step.1 ∙ not_found p v (sym step.0))
taken p G v w call (Some e) effect s step = fewer p G v w (call (Some e)) e s (effect (Some e)).0 (effect (Some e)).1
    (sym step.0) step.1

pub stands_more : (G : List TableCall) (v w : List Entry) (c : TableCall) → Stands G v → TableStep v c w →
    Stands (G ++ c ∷ []) w
stands_more G v w (Inserts e (Ok done)) s step = more G v w e done s step.0 step.1.0 step.1.1
stands_more G v w (Inserts e (Err NotNext)) s step = same G v w (Inserts e (Err NotNext)) s refl refl step.1.1
stands_more G v w (Inserts e (Err OutOfMemory)) s step = same G v w (Inserts e (Err OutOfMemory)) s refl refl step.1.1
stands_more G v w (Removes n given) s step = taken (has_number n) G v w (Removes n) given (λ o. (refl, refl)) s step
stands_more G v w (RemovesOldest given) s step = taken is_any G v w RemovesOldest given (λ o. (refl, refl)) s step
stands_more G v w (Settles first last given) s step = taken (is_in first last) G v w (Settles first last) given
    (λ o. (refl, refl)) s step
stands_more G v w (Leaves link given) s step = taken (is_of link) G v w (Leaves link) given (λ o. (refl, refl)) s step
stands_more G v w (Gets n answer) s step = same G v w (Gets n answer) s refl refl step.1
stands_more G v w (Finds first last answer) s step = same G v w (Finds first last answer) s refl refl step.1
stands_more G v w (AsksCount link n) s step = same G v w (AsksCount link n) s refl refl step.1
stands_more G v w (AsksLen n) s step = same G v w (AsksLen n) s refl refl step.1
stands_more G v w (AsksEmpty answer) s step = same G v w (AsksEmpty answer) s refl refl step.1

pub stands_on : (G : List TableCall) (v w : List Entry) (H : List TableCall) → Stands G v → Chain TableStep v H w →
    Stands (G ++ H) w
stands_on G v w [] s h = subst (λ xs. Stands xs w) (sym (append-nil G)) (subst (Stands G) (sym h) s)
stands_on G v w (c ∷ cs) s h =
    subst (λ xs. Stands xs w) (append_assoc G (c ∷ []) cs)
    (stands_on (G ++ c ∷ []) h.0 w cs (stands_more G v h.0 c s h.1) h.2)

pub stands : (H : List TableCall) (t : List Entry) → LeadsTo H t → Stands H t
stands H t h = stands_on [] [] t H (record { exact = refl; order = tt; small = tt; in_all = λ test. refl }) h
