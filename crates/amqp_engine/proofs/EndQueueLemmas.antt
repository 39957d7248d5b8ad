-- The queue of the Ends that are noted: each stands there once, and the greatest item is the lowest number.
use Rattle.std.proofs.Common.{◌≡◌, ℕ, ◌+◌, ◌-◌, ◌<◌, ◌≤◌, cond, List, [], ◌∷◌, ◌++◌, length, Option, Some, None, is_some, refl, ap, sym, ◌∙◌, nat_eq, nat_lt, Bool, true, false, arith, slice_index_or}
use Rattle.std.specs.Prelude.{◌&&◌, T}
use Rattle.std.proofs.lemmas.Bool.Decides.{nat_tests}
use Rattle.std.proofs.lemmas.Grind.{common_steps}
use Rattle.std.proofs.lemmas.List.Sorted.{sum_by_popped, sum_by_pushed, IsPermutation-refl}
use Rattle.std.specs.List.Sorted.{IsPermutation}
use Rattle.std.specs.Ordering.{nat_cmp, is_lt}
use Rattle.std.specs.Cmp.{nat_cmp_total}
use Rattle.std.specs.Map.{lookup, set_value}
use Rattle.std.specs.FinMap as map
use Rattle.std.specs.FinMap.{get-entries, get-remove, entries_sorted, nat_cmp-IsAntisymmetric, find, is_sorted}
use Rattle.std.specs.FinMap.Entries.{below_all, same_entries}
use Rattle.std.specs.BinaryHeap.{IsUpperBound, lt_by_cmp}
use Rattle.amqp_types.specs.Error.{ErrorModel}
use Rattle.amqp_session.proofs.FiniteMapLemmas.{same_test}
use Rattle.amqp_engine.specs.declared.engine.handle_state.SessionSlot.{SessionSlot}
use Rattle.amqp_connection.specs.Channels.{mark}
use Rattle.amqp_engine.specs.Inner.Places.{pick, times, has_wish, has_entries, noted}
use Rattle.amqp_engine.proofs.PickedMapLemmas.{Writes, get_pick, picked_at}
use Rattle.amqp_connection.proofs.LowestChannelLemmas.{tested, untested, same_number, other_number}

-- ---- how many are noted

pub noted_most : (es : List (ℕ × SessionSlot)) → noted es ≤ length es
noted_most [] = omega arith
noted_most (e ∷ es) = omega (arith, one (is_some e.1.wish), noted_most es)
  where
    one : (b : Bool) → mark b ≤ 1
    one true = omega arith
    one false = omega arith

pub same_length : (es : List (ℕ × SessionSlot)) (n : ℕ) (p : SessionSlot) → length (set_value (nat_eq n) es p) ≡ length es
same_length [] n p = refl
same_length (e ∷ es) n p = by (same_length es n p) (nat_eq n e.0) refl
  where
    by : length (set_value (nat_eq n) es p) ≡ length es → (b : Bool) → nat_eq n e.0 ≡ b → length (set_value (nat_eq n) (e ∷ es) p) ≡ length (e ∷ es)
    by rest true t = rw t refl
    by rest false t = rw t (omega (arith, rest))

-- a place is written
pub noted_written : (es : List (ℕ × SessionSlot)) (n : ℕ) (old new : SessionSlot) → lookup (nat_eq n) es ≡ Some old →
    noted (set_value (nat_eq n) es new) + mark (is_some old.wish) ≡ noted es + mark (is_some new.wish)
noted_written [] n old new is = absurd cc
noted_written (e ∷ es) n old new is = by (λ h. noted_written es n old new h) (nat_eq n e.0) refl is
  where
    same : (a b : SessionSlot) → Some a ≡ Some b → mark (is_some a.wish) ≡ mark (is_some b.wish)
    same a b h = ap (λ (o : Option SessionSlot). mark (has_wish o)) h

    by : (lookup (nat_eq n) es ≡ Some old → noted (set_value (nat_eq n) es new) + mark (is_some old.wish) ≡ noted es + mark (is_some new.wish)) →
        (b : Bool) → nat_eq n e.0 ≡ b → lookup (nat_eq n) (e ∷ es) ≡ Some old →
        noted (set_value (nat_eq n) (e ∷ es) new) + mark (is_some old.wish) ≡ noted (e ∷ es) + mark (is_some new.wish)
    by rest true t h =
        let here : Some e.1 ≡ Some old = sym (ap (λ b. cond b (Some e.1) (lookup (nat_eq n) es)) t) ∙ h in
        rw t (omega (arith, same e.1 old here))
    by rest false t h =
        let later : lookup (nat_eq n) es ≡ Some old = sym (ap (λ b. cond b (Some e.1) (lookup (nat_eq n) es)) t) ∙ h in
        rw t (omega (arith, rest later))

pub noted_more : (es : List (ℕ × SessionSlot)) (n : ℕ) (p : SessionSlot) → p.wish ≡ None → noted (es ++ (n, p) ∷ []) ≡ noted es
noted_more [] n p none = omega (arith, ap (λ o. mark (is_some o)) none)
noted_more (e ∷ es) n p none = omega (arith, noted_more es n p none)

-- ---- how often each stands there

abbrev Each : List (ℕ × SessionSlot) → List ℕ → Type 0
Each es items = (n : ℕ) → times n items ≡ mark (has_wish (lookup (nat_eq n) es))

wrote : (old new : List (ℕ × SessionSlot)) (n : ℕ) (p : SessionSlot) → Writes old new n p → (q : ℕ) (b : Bool) → nat_eq n q ≡ b → lookup (nat_eq q) new ≡ cond b (Some p) (lookup (nat_eq q) old)
wrote old new n p w q b t = w q ∙ ap (λ c. cond c (Some p) (lookup (nat_eq q) old)) t

-- the items of one number are as its place is written, and those of the others stay
each_moved : (old new : List (ℕ × SessionSlot)) (items items' : List ℕ) (n : ℕ) (p : SessionSlot) → Writes old new n p → times n items' ≡ mark (has_wish (Some p)) →
    ((q : ℕ) → nat_eq n q ≡ false → times q items' ≡ times q items) → Each old items → Each new items'
each_moved old new items items' n p w here others each q = by (nat_eq n q) refl
  where
    by : (b : Bool) → nat_eq n q ≡ b → times q items' ≡ mark (has_wish (lookup (nat_eq q) new))
    by true t = ap (λ k. times k items') (sym (same_number n q t)) ∙ here ∙ ap (λ o. mark (has_wish o)) (sym (wrote old new n p w q true t))
    by false t = others q t ∙ each q ∙ ap (λ o. mark (has_wish o)) (sym (wrote old new n p w q false t))

-- a place without a wish comes, or stays without one
pub each_same : (old new : List (ℕ × SessionSlot)) (items : List ℕ) (n : ℕ) (p : SessionSlot) → Writes old new n p → has_wish (Some p) ≡ has_wish (lookup (nat_eq n) old) → Each old items → Each new items
each_same old new items n p w same each = each_moved old new items items n p w (each n ∙ ap (λ b. mark b) (sym same)) (λ q t. refl) each

-- an item stands for one number and no other
stands_for : (x n q : ℕ) → x + n ≡ 4294967295 → nat_eq n q ≡ false → mark (nat_eq (x + q) 4294967295) ≡ 0
stands_for x n q sum t = let other = other_number n q t in ap (λ b. mark b) (untested (x + q) 4294967295 (λ e. other (omega arith)))

-- a wish is noted
pub each_noted : (old new : List (ℕ × SessionSlot)) (items items' : List ℕ) (x n : ℕ) (p : SessionSlot) → x + n ≡ 4294967295 → IsPermutation (x ∷ items) items' → Writes old new n p →
    has_wish (lookup (nat_eq n) old) ≡ false → is_some p.wish ≡ true → Each old items → Each new items'
each_noted old new items items' x n p sum perm w was is each =
    each_moved old new items items' n p w (omega (arith, pushed n, one, ap (λ b. mark b) was, ap (λ b. mark b) is, each n))
    (λ q t. omega (arith, pushed q, stands_for x n q sum t)) each
  where
    pushed : (q : ℕ) → times q items' ≡ mark (nat_eq (x + q) 4294967295) + times q items
    pushed q = sum_by_pushed (λ y. mark (nat_eq (y + q) 4294967295)) x items items' perm

    one : mark (nat_eq (x + n) 4294967295) ≡ 1
    one = ap (λ b. mark b) (tested (x + n) 4294967295 sum)

-- a wish is taken
pub each_taken : (old new : List (ℕ × SessionSlot)) (items items' : List ℕ) (x n : ℕ) (p : SessionSlot) → x + n ≡ 4294967295 → IsPermutation items (x ∷ items') → Writes old new n p →
    has_wish (lookup (nat_eq n) old) ≡ true → is_some p.wish ≡ false → Each old items → Each new items'
each_taken old new items items' x n p sum perm w was is each =
    each_moved old new items items' n p w (omega (arith, popped n, one, ap (λ b. mark b) was, ap (λ b. mark b) is, each n))
    (λ q t. omega (arith, popped q, stands_for x n q sum t)) each
  where
    popped : (q : ℕ) → times q items' + mark (nat_eq (x + q) 4294967295) ≡ times q items
    popped q = sum_by_popped (λ y. mark (nat_eq (y + q) 4294967295)) x items items' perm

    one : mark (nat_eq (x + n) 4294967295) ≡ 1
    one = ap (λ b. mark b) (tested (x + n) 4294967295 sum)

-- ---- the greatest item is the lowest number

not_above : (x y : ℕ) → lt_by_cmp nat_cmp x y ≡ false → y ≤ x
not_above x y p = grind (arith, nat_tests, common_steps)

times_none : (x d : ℕ) (ys : List ℕ) → IsUpperBound nat_cmp x ys → x + d < 4294967295 → times d ys ≡ 0
times_none x d [] all h = refl
times_none x d (y ∷ ys) all h =
    let le = not_above x y all.0 in
    let no : nat_eq (y + d) 4294967295 ≡ false = untested (y + d) 4294967295 (λ e. absurd (omega arith)) in
    let step : times d (y ∷ ys) ≡ mark (nat_eq (y + d) 4294967295) + times d ys = sum_by_pushed (λ z. mark (nat_eq (z + d) 4294967295)) y ys (y ∷ ys) (IsPermutation-refl (y ∷ ys)) in
    omega (arith, step, ap mark no, times_none x d ys all.1 h)

unmarked : (b : Bool) → mark b ≡ 0 → b ≡ false
unmarked true e = absurd (omega (arith, e))
unmarked false e = refl

marked : (b : Bool) → 0 < mark b → b ≡ true
marked true e = refl
marked false e = absurd (omega (arith, e))

pub no_wish : (o : Option SessionSlot) → has_wish o ≡ false → picked_at (λ p. p.wish) o ≡ None
no_wish None e = refl
no_wish (Some p) e = by p.wish e
  where
    by : (w : Option (Option ErrorModel)) → is_some w ≡ false → w ≡ None
    by None h = refl
    by (Some x) h = absurd cc

-- below the number of the greatest item none is noted
pub none_below : (es : List (ℕ × SessionSlot)) (items items' : List ℕ) (x n : ℕ) → x + n ≡ 4294967295 → IsPermutation items (x ∷ items') → IsUpperBound nat_cmp x items' → Each es items →
    (k : ℕ) → k < n → map.get (pick (λ p. p.wish) es) k ≡ None
none_below es items items' x n sum perm all each k less =
    let popped : times k items' + mark (nat_eq (x + k) 4294967295) ≡ times k items = sum_by_popped (λ y. mark (nat_eq (y + k) 4294967295)) x items items' perm in
    let no = ap (λ b. mark b) (untested (x + k) 4294967295 (λ e. absurd (omega (arith, sum, less)))) in
    get_pick (λ p. p.wish) es k ∙ no_wish (lookup (nat_eq k) es) (unmarked _ (omega (arith, each k, popped, no, times_none x k items' all (omega (arith, sum, less)))))

-- what was popped is noted
pub popped_noted : (es : List (ℕ × SessionSlot)) (items items' : List ℕ) (x n : ℕ) → x + n ≡ 4294967295 → IsPermutation items (x ∷ items') → Each es items → has_wish (lookup (nat_eq n) es) ≡ true
popped_noted es items items' x n sum perm each =
    let popped : times n items' + mark (nat_eq (x + n) 4294967295) ≡ times n items = sum_by_popped (λ y. mark (nat_eq (y + n) 4294967295)) x items items' perm in
    let one = ap (λ b. mark b) (tested (x + n) 4294967295 sum) in
    marked _ (omega (arith, popped, one, each n))

-- where the queue is empty none is noted
pub none_noted : (es : List (ℕ × SessionSlot)) (items : List ℕ) → items ≡ [] → Each es items → (k : ℕ) → map.get (pick (λ p. p.wish) es) k ≡ None
none_noted es items none each k = get_pick (λ p. p.wish) es k ∙ no_wish (lookup (nat_eq k) es) (unmarked _ (sym (each k) ∙ ap (times k) none))

-- ---- the entries of a map begin with its lowest key

both1 : (a b : Bool) → T (a && b) → T a
both1 true b p = tt
both1 false b p = p

both2 : (a b : Bool) → T (a && b) → T b
both2 true b p = p
both2 false b p = absurd p

less : (x y : ℕ) → T (is_lt (nat_cmp x y)) → x < y
less x y t = grind (arith, nat_tests, common_steps)

pub no_entry : {X : Type 0} (m : map.FinMap nat_cmp X) → ((k : ℕ) → map.get m k ≡ None) → map.entries m ≡ []
no_entry {X} m none = by (map.entries m) (λ k. sym (get-entries m k) ∙ none k)
  where
    by : (es : List (ℕ × X)) → ((k : ℕ) → find nat_cmp k es ≡ None) → es ≡ []
    by [] h = refl
    by (e ∷ es) h =
        let here : nat_eq e.0 e.0 ≡ true = tested e.0 e.0 refl in
        absurd (let x = sym (ap (λ b. cond b (Some e.1) (find nat_cmp e.0 es)) (same_test e.0 e.0 ∙ here)) ∙ h e.0 in cc)

lesser : (a b : ℕ) → nat_lt a b ≡ true → a < b
lesser a b t = grind (arith, nat_tests)

neither : (a b : ℕ) → nat_lt a b ≡ false → nat_lt b a ≡ false → b ≡ a
neither a b t u = grind (arith, nat_tests)

find_under : {X : Type 0} (q x : ℕ) (es : List (ℕ × X)) → q ≤ x → T (below_all nat_cmp x es) → find nat_cmp q es ≡ None
find_under q x [] le below = refl
find_under q x (f ∷ es) le below =
    let above = less x f.0 (both1 _ _ below) in
    let other : nat_eq q f.0 ≡ false = untested q f.0 (λ e. absurd (omega (arith, above))) in
    ap (λ b. cond b (Some f.1) (find nat_cmp q es)) (same_test q f.0 ∙ other) ∙ find_under q x es le (both2 _ _ below)

not_both : (a b : ℕ) → ¬ (b ≡ a) → (a < b → ⊥) → (b < a → ⊥) → ⊥
not_both a b other na nb = elim (nat_lt a b) as (λ c. nat_lt a b ≡ c → ⊥) [
  | true ↦ λ t. na (lesser a b t)
  | false ↦ λ t. elim (nat_lt b a) as (λ c. nat_lt b a ≡ c → ⊥) [ true ↦ λ u. nb (lesser b a u) | false ↦ λ u. other (neither a b t u) ] refl
] refl

-- the lowest key comes first
pub lowest_first : {X : Type 0} (m : map.FinMap nat_cmp X) (n : ℕ) (x : X) → map.get m n ≡ Some x → ((k : ℕ) → k < n → map.get m k ≡ None) →
    map.entries m ≡ (n, x) ∷ map.entries (map.remove m n)
lowest_first {X} m n x is low = by (map.entries m) refl (entries_sorted m) (sym (get-entries m n) ∙ is) (λ k lt. sym (get-entries m k) ∙ low k lt)
  where
    found : (h : ℕ × X) (rest : List (ℕ × X)) → find nat_cmp h.0 (h ∷ rest) ≡ Some h.1
    found h rest = ap (λ b. cond b (Some h.1) (find nat_cmp h.0 rest)) (same_test h.0 h.0 ∙ tested h.0 h.0 refl)

    same_some : (a b : X) → Some a ≡ Some b → a ≡ b
    same_some a b e = cc

    head_is : (h : ℕ × X) (rest : List (ℕ × X)) → T (below_all nat_cmp h.0 rest) → find nat_cmp n (h ∷ rest) ≡ Some x → ((k : ℕ) → k < n → find nat_cmp k (h ∷ rest) ≡ None) → nat_eq n h.0 ≡ true
    head_is h rest below here none = go (nat_eq n h.0) refl
      where
        go : (b : Bool) → nat_eq n h.0 ≡ b → nat_eq n h.0 ≡ true
        go true t = t
        go false t =
            let other = other_number n h.0 t in
            let not_above : h.0 < n → ⊥ = λ lt. let y = sym (found h rest) ∙ none h.0 lt in cc in
            let not_below : n < h.0 → ⊥ = λ lt. let y = sym here ∙ ap (λ b. cond b (Some h.1) (find nat_cmp n rest)) (same_test n h.0 ∙ t) ∙ find_under n h.0 rest (omega (arith, lt)) below in cc in
            absurd (not_both h.0 n other not_above not_below)

    by : (es : List (ℕ × X)) → map.entries m ≡ es → T (is_sorted nat_cmp es) → find nat_cmp n es ≡ Some x → ((k : ℕ) → k < n → find nat_cmp k es ≡ None) →
        map.entries m ≡ (n, x) ∷ map.entries (map.remove m n)
    by [] e sorted here none = absurd (let y : None ≡ Some x = here in cc)
    by (h ∷ rest) e sorted here none =
        let below = both1 _ _ sorted in
        let key : nat_eq n h.0 ≡ true = head_is h rest below here none in
        let same : n ≡ h.0 = same_number n h.0 key in
        let value : h.1 ≡ x = same_some h.1 x (sym (ap (λ b. cond b (Some h.1) (find nat_cmp n rest)) (same_test n h.0 ∙ key)) ∙ here) in
        let tail : rest ≡ map.entries (map.remove m n) = same_entries nat_cmp nat_cmp_total nat_cmp-IsAntisymmetric rest (map.entries (map.remove m n)) (both2 _ _ sorted) (entries_sorted (map.remove m n)) (λ q. after q (nat_eq q n) refl) in
        e ∙ ap (λ k. (k, h.1) ∷ rest) (sym same) ∙ ap (λ v. (n, v) ∷ rest) value ∙ ap (λ r. (n, x) ∷ r) tail
      where
        after : (q : ℕ) (b : Bool) → nat_eq q n ≡ b → find nat_cmp q rest ≡ find nat_cmp q (map.entries (map.remove m n))
        after q b t =
            let same : n ≡ h.0 = same_number n h.0 (head_is h rest (both1 _ _ sorted) here none) in
            let gone : find nat_cmp q (map.entries (map.remove m n)) ≡ cond b None (find nat_cmp q (h ∷ rest)) =
            sym (get-entries (map.remove m n) q) ∙ get-remove nat_cmp_total m n q ∙ ap (λ c. cond c None (map.get m q)) (same_test q n ∙ t)
            ∙ ap (λ o. cond b None o) (get-entries m q ∙ ap (find nat_cmp q) e) in
            each b t same ∙ sym gone
          where
            each : (b : Bool) → nat_eq q n ≡ b → n ≡ h.0 → find nat_cmp q rest ≡ cond b None (find nat_cmp q (h ∷ rest))
            each true t s = find_under q h.0 rest (omega (arith, same_number q n t, s)) (both1 _ _ sorted)
            each false t s =
                let no : nat_eq q h.0 ≡ false = untested q h.0 (λ y. other_number q n t (y ∙ sym s)) in
                sym (ap (λ c. cond c (Some h.1) (find nat_cmp q rest)) (same_test q h.0 ∙ no))

-- where the queue has an item, a wish is noted
pub some_noted : (es : List (ℕ × SessionSlot)) (items : List ℕ) (x : ℕ) → 0 < length items → x ≡ slice_index_or items 0 x → x < 4294967296 → Each es items →
    has_entries (map.entries (pick (λ p. p.wish) es)) ≡ true
some_noted es [] x some top fits each = absurd (omega arith)
some_noted es (y ∷ ys) x some top fits each =
    let n = 4294967295 - x in
    let one = ap (λ b. mark b) (tested (y + n) 4294967295 (omega (arith, top, fits))) in
    let step : times n (y ∷ ys) ≡ mark (nat_eq (y + n) 4294967295) + times n ys = sum_by_pushed (λ z. mark (nat_eq (z + n) 4294967295)) y ys (y ∷ ys) (IsPermutation-refl (y ∷ ys)) in
    let is : has_wish (lookup (nat_eq n) es) ≡ true = marked _ (omega (arith, each n, step, one)) in
    not_empty n (has_one (lookup (nat_eq n) es) is (map.get (pick (λ p. p.wish) es) n) (get_pick (λ p. p.wish) es n))
  where
    has_one : (o : Option SessionSlot) → has_wish o ≡ true → (g : Option (Option ErrorModel)) → g ≡ picked_at (λ p. p.wish) o → is_some g ≡ true
    has_one None h g e = absurd cc
    has_one (Some p) h g e = ap (λ z. is_some z) e ∙ h

    not_empty : (n : ℕ) → is_some (map.get (pick (λ p. p.wish) es) n) ≡ true → has_entries (map.entries (pick (λ p. p.wish) es)) ≡ true
    not_empty n h = by (map.entries (pick (λ p. p.wish) es)) (ap (λ z. is_some z) (sym (get-entries (pick (λ p. p.wish) es) n)) ∙ h)
      where
        by : (fs : List (ℕ × Option ErrorModel)) → is_some (find nat_cmp n fs) ≡ true → has_entries fs ≡ true
        by [] e = absurd cc
        by (f ∷ fs) e = refl
