-- The entries and the numbers of each link: an entry comes, or goes.
use Rattle.std.proofs.Common.{◌≡◌, ℕ, ◌^◌, ◌<◌, arith, List, [], ◌∷◌, ◌++◌, length, drop, map, append-nil}
use Rattle.std.proofs.Common.{ap, sym, subst, ◌∙◌, refl, cond, Bool, true, false, true≢false, Option, Some, None}
use Rattle.std.specs.Prelude.{slice_get, option_map}
use Rattle.std.specs.List.{filter, find}
use Rattle.std.proofs.lemmas.List.{map-append, length-append}
use Rattle.amqp_unsettled.specs.declared.entry.Entry.{Entry}
use Rattle.amqp_unsettled.specs.Serial.{is_after}
use Rattle.amqp_unsettled.specs.Table.{has_number, is_of, is_next, without_first}
use Rattle.amqp_unsettled.specs.Inner.Order.{Each, NonePasses, Below}
use Rattle.amqp_unsettled.specs.Inner.Rows.{Row, IsBefore, InSerial, comes_next}
use Rattle.amqp_unsettled.specs.Inner.Lists.{AsBefore, Gains, Loses, IsKept, is_number, numbers_of, numbers_in}
use Rattle.amqp_unsettled.proofs.ListLemmas.{each_map, each_filter, each_mapped, not_found, found_passes}
use Rattle.amqp_unsettled.proofs.NextLemmas.{all_pass, each_passes, is_after_parts, serial_end, small_end}
use Rattle.amqp_unsettled.proofs.NumberLemmas.{equal_test, other_test, test_equal}
use Rattle.amqp_unsettled.proofs.LinkLemmas.{numbers_append, numbers_own, numbers_other, numbers_first, numbers_none}
use Rattle.amqp_unsettled.proofs.TakeLemmas.{first_after}

abbrev number : Entry → ℕ
number e = e.number

-- ---- an entry comes

module _ (es : List Entry) (lists : List (Row ℕ)) (k : IsKept es lists) where
  pub kept_same : (new : List (Row ℕ)) → AsBefore lists new → IsKept es new
  kept_same new h = record { small = k.small; serial = k.serial; same = λ link. h link ∙ k.same link }

  -- a number that may come next may come next of each link
  pub next_of_link : (n link : ℕ) → is_next n es ≡ true → comes_next (λ m. m) n (numbers_of lists link) ≡ true
  next_of_link n link next =
      let all = each_passes (λ (e : Entry). is_after e.number n) es next in
      ap (comes_next (λ m. m) n) (k.same link)
      ∙ all_pass (λ m. is_after m n) (numbers_in link es)
      (each_mapped number (λ m. is_after m n ≡ true) (filter (is_of link) es)
      (each_filter (λ (e : Entry). is_after e.number n ≡ true) (is_of link) es all))

  module _ (e : Entry) (he : e.number < 2 ^ 32) (next : is_next e.number es ≡ true) (new : List (Row ℕ))
      (gains : Gains e.number e.link lists new) where
    same_end : (link : ℕ) → numbers_of new link ≡ numbers_in link (es ++ e ∷ [])
    same_end link = by (is_of link e) refl
      where
        by : (t : Bool) → is_of link e ≡ t → numbers_of new link ≡ numbers_in link (es ++ e ∷ [])
        by true t = subst (λ l. numbers_of new l ≡ numbers_in l (es ++ e ∷ [])) (test_equal e.link link t)
            (gains.own ∙ ap (λ ns. ns ++ e.number ∷ []) (k.same e.link)
            ∙ sym (numbers_append e.link es (e ∷ [])
            ∙ ap (λ ns. numbers_in e.link es ++ ns) (numbers_own e.link e [] (equal_test e.link e.link refl))))
        by false t = gains.others link (λ same. true≢false (sym (equal_test e.link link (sym same)) ∙ t))
            ∙ k.same link
            ∙ sym (numbers_append link es (e ∷ [])
            ∙ ap (λ ns. numbers_in link es ++ ns) (numbers_other link e [] t)
            ∙ append-nil (numbers_in link es))

    pub kept_end : IsKept (es ++ e ∷ []) new
    kept_end = record {
      small = subst (Below (2 ^ 32)) (sym (map-append number es (e ∷ []))) (small_end (2 ^ 32) e.number (map number es)
          k.small he);
      serial = subst InSerial (sym (map-append number es (e ∷ [])))
          (serial_end e.number (map number es) k.serial
          (each_mapped number (λ m. is_after m e.number ≡ true) es
          (each_passes (λ (x : Entry). is_after x.number e.number) es next)));
      same = same_end;
    }

-- ---- an entry goes

-- what is before the first that passes, and what is after it
find_split : {X : Type 0} (p : X → Bool) (xs : List X) (x : X) → find p xs ≡ Some x →
    (before : List X) × (after : List X) × (xs ≡ before ++ x ∷ after) × NonePasses p before
find_split p [] x e = absurd (let n : (let n : Option _ = None in n) ≡ Some x = e in grind (arith, n))
find_split {X} p (y ∷ ys) x e = by (p y) refl (λ rest. find_split p ys x rest)
  where
    by : (b : Bool) → p y ≡ b →
        (find p ys ≡ Some x → (before : List X) × (after : List X) × (ys ≡ before ++ x ∷ after) × NonePasses p before) →
        (before : List X) × (after : List X) × (y ∷ ys ≡ before ++ x ∷ after) × NonePasses p before
    by true t on =
        let is : Some y ≡ Some x = sym (ap (λ b. cond b (Some y) (find p ys)) t) ∙ e in
        let same : y ≡ x = grind (arith, is) in
        ([], ys, ap (λ z. z ∷ ys) same, tt)
    by false t on =
        let r = on (sym (ap (λ b. cond b (Some y) (find p ys)) t) ∙ e) in
        (y ∷ r.0, r.1, ap (λ zs. y ∷ zs) r.2, (t, r.3))

-- an entry's number is after those of the entries before it
before_it : (n : ℕ) (e : Entry) (xs ys : List Entry) → IsBefore n (map number (xs ++ e ∷ ys)) → is_after n e.number ≡
    true
before_it n e [] ys b = b.0
before_it n e (x ∷ xs) ys b = before_it n e xs ys b.1

all_before_it : (e : Entry) (xs ys : List Entry) → InSerial (map number (xs ++ e ∷ ys)) →
    Each (λ (x : Entry). is_after x.number e.number ≡ true) xs
all_before_it e [] ys s = tt
all_before_it e (x ∷ xs) ys s = (before_it x.number e xs ys s.0, all_before_it e xs ys s.1)

small_it : (e : Entry) (xs ys : List Entry) → Below (2 ^ 32) (map number (xs ++ e ∷ ys)) → e.number < 2 ^ 32
small_it e [] ys s = s.0
small_it e (x ∷ xs) ys s = small_it e xs ys s.1

small_but : (e : Entry) (xs ys : List Entry) → Below (2 ^ 32) (map number (xs ++ e ∷ ys)) → Below (2 ^ 32) (map number
    (xs ++ ys))
small_but e [] ys s = s.1
small_but e (x ∷ xs) ys s = (s.0, small_but e xs ys s.1)

before_but : (n : ℕ) (e : Entry) (xs ys : List Entry) → IsBefore n (map number (xs ++ e ∷ ys)) → IsBefore n (map number
    (xs ++ ys))
before_but n e [] ys b = b.1
before_but n e (x ∷ xs) ys b = (b.0, before_but n e xs ys b.1)

serial_but : (e : Entry) (xs ys : List Entry) → InSerial (map number (xs ++ e ∷ ys)) → InSerial (map number (xs ++ ys))
serial_but e [] ys s = s.1
serial_but e (x ∷ xs) ys s = (before_but x.number e xs ys s.0, serial_but e xs ys s.1)

module _ (es : List Entry) (lists : List (Row ℕ)) (k : IsKept es lists) (p : Entry → Bool) where
  pub kept_none : find p es ≡ None → IsKept (without_first p es) lists
  kept_none none = subst (λ xs. IsKept xs lists) (sym (not_found p es none)) k

  module _ (e : Entry) (found : find p es ≡ Some e) where
    abbrev before : List Entry
    before = (find_split p es e found).0

    abbrev after : List Entry
    after = (find_split p es e found).1

    whole : es ≡ before ++ e ∷ after
    whole = (find_split p es e found).2

    gone : without_first p es ≡ before ++ after
    gone = ap (without_first p) whole
        ∙ (first_after p before e after (find_split p es e found).3 (found_passes p es e found)).1

    others : NonePasses (has_number e.number) before
    others = each_map (λ (x : Entry). is_after x.number e.number ≡ true) (λ x. has_number e.number x ≡ false)
        (λ x t. other_test x.number e.number (λ same. let q = is_after_parts x.number e.number t in
        let small = small_it e before after (subst (λ xs. Below (2 ^ 32) (map number xs)) whole k.small) in
        omega (arith, q.0, same, small)))
        before (all_before_it e before after (subst (λ xs. InSerial (map number xs)) whole k.serial))

    -- the numbers of its link are those before it, its own, and those after it
    own_whole : numbers_of lists e.link ≡ numbers_in e.link before ++ e.number ∷ numbers_in e.link after
    own_whole = k.same e.link ∙ ap (numbers_in e.link) whole
        ∙ numbers_append e.link before (e ∷ after)
        ∙ ap (λ ns. numbers_in e.link before ++ ns) (numbers_own e.link e after (equal_test e.link e.link refl))

    pub own_some : 0 < length (numbers_of lists e.link)
    own_some = let a = ap length own_whole in
        let b = length-append (numbers_in e.link before) (e.number ∷ numbers_in e.link after) in omega (arith, a, b)

    own_left : without_first (is_number e.number) (numbers_of lists e.link) ≡ numbers_in e.link (before ++ after)
    own_left = ap (without_first (is_number e.number)) own_whole
        ∙ (first_after (is_number e.number) (numbers_in e.link before) e.number (numbers_in e.link after)
        (numbers_none e.link e.number before others) (equal_test e.number e.number refl)).1
        ∙ sym (numbers_append e.link before after)

    other_left : (link : ℕ) → is_of link e ≡ false → numbers_of lists link ≡ numbers_in link (before ++ after)
    other_left link t = k.same link ∙ ap (numbers_in link) whole
        ∙ numbers_append link before (e ∷ after)
        ∙ ap (λ ns. numbers_in link before ++ ns) (numbers_other link e after t)
        ∙ sym (numbers_append link before after)

    pub kept_without : (new : List (Row ℕ)) → Loses e.number e.link lists new → IsKept (without_first p es) new
    kept_without new loses = subst (λ xs. IsKept xs new) (sym gone) (record {
      small = small_but e before after (subst (λ xs. Below (2 ^ 32) (map number xs)) whole k.small);
      serial = serial_but e before after (subst (λ xs. InSerial (map number xs)) whole k.serial);
      same = same_left;
    })
      where
        same_left : (link : ℕ) → numbers_of new link ≡ numbers_in link (before ++ after)
        same_left link = by (is_of link e) refl
          where
            by : (b : Bool) → is_of link e ≡ b → numbers_of new link ≡ numbers_in link (before ++ after)
            by true t = subst (λ l. numbers_of new l ≡ numbers_in l (before ++ after)) (test_equal e.link link t)
                (loses.own ∙ own_left)
            by false t = loses.others link (λ is. true≢false (sym (equal_test e.link link (sym is)) ∙ t)) ∙ other_left
                link t

    -- its number finds it
    pub number_finds : (find (has_number e.number) es ≡ Some e) × (without_first (has_number e.number) es ≡
        without_first p es)
    number_finds =
        let r = first_after (has_number e.number) before e after others (equal_test e.number e.number refl) in (
          ap (find (has_number e.number)) whole ∙ r.0,
          ap (without_first (has_number e.number)) whole ∙ r.1 ∙ sym gone,
        )

-- ---- the first one goes

pub first_found : (p : Entry → Bool) (es : List Entry) (e : Entry) → slice_get es 0 ≡ Some e → p e ≡ true →
    (find p es ≡ Some e) × (without_first p es ≡ drop 1 es)
first_found p [] e at t = absurd (let n : (let n : Option Entry = None in n) ≡ Some e = at in grind (arith, n))
first_found p (x ∷ xs) e at t =
    let is : x ≡ e = grind (arith, at) in
    let u : p x ≡ true = ap p is ∙ t in
    (rw u (ap Some is), rw u refl)

pub none_first : (p : Entry → Bool) (es : List Entry) → slice_get es 0 ≡ None → (find p es ≡ None) × (without_first p es
    ≡ es)
none_first p [] e = (refl, refl)
none_first p (x ∷ xs) e = absurd (let is : Some x ≡ None = e in grind (arith, is))

-- ---- the oldest of a link

module _ (es : List Entry) (lists : List (Row ℕ)) (k : IsKept es lists) (link : ℕ) where
  link_first : slice_get (numbers_of lists link) 0 ≡ option_map number (find (is_of link) es)
  link_first = ap (λ ns. slice_get ns 0) (k.same link) ∙ numbers_first link es

  pub link_none : slice_get (numbers_of lists link) 0 ≡ None →
      (find (is_of link) es ≡ None) × (without_first (is_of link) es ≡ es)
  link_none h = let none = by (find (is_of link) es) (sym link_first ∙ h) in (none, not_found (is_of link) es none)
    where
      by : (o : Option Entry) → option_map number o ≡ None → o ≡ None
      by None e = refl
      by (Some x) e = absurd (let is : Some x.number ≡ None = e in grind (arith, is))

  pub link_some : (n : ℕ) → slice_get (numbers_of lists link) 0 ≡ Some n →
      (find (has_number n) es ≡ find (is_of link) es)
      × (without_first (has_number n) es ≡ without_first (is_of link) es)
  link_some n h = by (find (is_of link) es) refl (sym link_first ∙ h)
    where
      by : (o : Option Entry) → find (is_of link) es ≡ o → option_map number o ≡ Some n →
          (find (has_number n) es ≡ find (is_of link) es)
          × (without_first (has_number n) es ≡ without_first (is_of link) es)
      by None t e = absurd (let i : (let i : Option ℕ = None in i) ≡ Some n = e in grind (arith, i))
      by (Some y) t e =
          let is : Some y.number ≡ Some n = e in
          let same : y.number ≡ n = grind (arith, is) in
          let found = number_finds es lists k (is_of link) y t in (
            subst (λ m. find (has_number m) es ≡ find (is_of link) es) same (found.0 ∙ sym t),
            subst (λ m. without_first (has_number m) es ≡ without_first (is_of link) es) same found.1,
          )
