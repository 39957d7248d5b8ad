use Rattle.std.proofs.Common.{rules, ◌≡◌, ℕ, ◌+◌, ◌-◌, ◌<◌, ◌≤◌, cond, List, [], ◌∷◌, length, Option, Some, None, IsSome, is_some, refl, ap, sym, subst, ◌∙◌, nat_eq, nat_lt, Bool, true, false, arith, slice_index_or}
use Rattle.std.proofs.lemmas.Bool.Decides.{nat_tests}
use Rattle.std.proofs.lemmas.Grind.{common_steps}
use Rattle.std.proofs.lemmas.List.Sorted.{sum_by_popped, sum_by_pushed, IsPermutation-refl}
use Rattle.std.specs.List.Sorted.{IsPermutation}
use Rattle.std.specs.Ordering.{nat_cmp}
use Rattle.std.specs.Map.{lookup}
use Rattle.std.specs.FinMap as map
use Rattle.std.specs.BinaryHeap.{IsUpperBound, lt_by_cmp}
use Rattle.amqp_connection.specs.Channels.{ChannelTable, IsLowestFree, mark, occurs, held_at, Channelled}
use Rattle.amqp_session.proofs.FiniteMapLemmas.{get_at}

pub tested : (a b : ℕ) → a ≡ b → nat_eq a b ≡ true
tested a b e = grind (arith, nat_tests)

pub untested : (a b : ℕ) → ¬ (a ≡ b) → nat_eq a b ≡ false
untested a b e = grind (arith, nat_tests)

pub same_number : (a b : ℕ) → nat_eq a b ≡ true → a ≡ b
same_number a b p = grind (arith, nat_tests)

pub other_number : (a b : ℕ) → nat_eq a b ≡ false → ¬ (a ≡ b)
other_number a b p = grind (arith, nat_tests)

not_above : (x y : ℕ) → lt_by_cmp nat_cmp x y ≡ false → y ≤ x
not_above x y p = grind (arith, nat_tests, common_steps)

occurs_none : (x d : ℕ) (ys : List ℕ) → IsUpperBound nat_cmp x ys → x + d < 65535 → occurs d ys ≡ 0
occurs_none x d [] all h = refl
occurs_none x d (y ∷ ys) all h =
    let le = not_above x y all.0 in
    let no : nat_eq (y + d) 65535 ≡ false = untested (y + d) 65535 (λ e. absurd (omega arith)) in
    let step : occurs d (y ∷ ys) ≡ mark (nat_eq (y + d) 65535) + occurs d ys = sum_by_pushed (λ z. mark (nat_eq (z + d) 65535)) y ys (y ∷ ys) (IsPermutation-refl (y ∷ ys)) in
    omega (arith, step, ap mark no, occurs_none x d ys all.1 h)

top_occurs : (x : ℕ) (ys : List ℕ) → 0 < length ys → x ≡ slice_index_or ys 0 x → x < 65536 → 0 < occurs (65535 - x) ys
top_occurs x [] h e f = absurd (omega arith)
top_occurs x (y ∷ ys) h e f =
    let one : mark (nat_eq (y + (65535 - x)) 65535) ≡ 1 = ap (λ b. mark b) (tested (y + (65535 - x)) 65535 (omega (arith, e))) in
    let step : occurs (65535 - x) (y ∷ ys) ≡ mark (nat_eq (y + (65535 - x)) 65535) + occurs (65535 - x) ys = sum_by_pushed (λ z. mark (nat_eq (z + (65535 - x)) 65535)) y ys (y ∷ ys) (IsPermutation-refl (y ∷ ys)) in
    omega (arith, step, one)

is_held : (o : Option ℕ) → mark (is_some o) ≡ 1 → IsSome o
is_held (Some x) e = search rules
is_held None e = absurd (omega (arith, e))

not_held : (o : Option ℕ) → mark (is_some o) ≡ 0 → o ≡ None
not_held (Some x) e = absurd (omega (arith, e))
not_held None e = refl

below_is : (c next : ℕ) → c < next → mark (nat_lt c next) ≡ 1
below_is c next h = grind (arith, nat_tests, common_steps)

is_below : (c next : ℕ) → 0 < mark (nat_lt c next) → c < next
is_below c next h = grind (arith, nat_tests, common_steps)

below_at_most : (c next : ℕ) → mark (nat_lt c next) ≤ 1
below_at_most c next = grind (arith, nat_tests, common_steps)

not_below : (c next : ℕ) → next ≤ c → mark (nat_lt c next) ≡ 0
not_below c next h = grind (arith, nat_tests, common_steps)

-- what was given back first is the lowest free channel
pub lowest_at : (es : List (ℕ × ℕ)) (hl : ℕ) (items : List ℕ) (fl cap next : ℕ) (m : ChannelTable) (x : ℕ) → Channelled es hl items fl cap next → map.from_entries es ≡ m → x < 65536 → 0 < length items → x ≡ slice_index_or items 0 x → IsUpperBound nat_cmp x items → IsLowestFree m (65535 - x)
lowest_at es hl items fl cap next m x inv is small some top all =
    let stands = top_occurs x items some top small in
    let each = inv.each (65535 - x) in
    let most = below_at_most (65535 - x) next in
    let below : 65535 - x < next = is_below (65535 - x) next (omega (arith, each, stands)) in
    record {
      free = ap (λ n. map.get n (65535 - x)) (sym is) ∙ get_at es (65535 - x) ∙ not_held _ (omega (arith, each, stands, most));
      lowest = λ d lt. subst (λ n. IsSome (map.get n d)) is (subst IsSome (sym (get_at es d)) (is_held _ (omega (arith, inv.each d, occurs_none x d items all (omega arith), below_is d next (omega arith)))));
    }

-- where none was given back, it is the next one
pub lowest_next : (es : List (ℕ × ℕ)) (hl : ℕ) (items : List ℕ) (fl cap next : ℕ) (m : ChannelTable) → Channelled es hl items fl cap next → map.from_entries es ≡ m → items ≡ [] → IsLowestFree m next
lowest_next es hl items fl cap next m inv is none = record {
  free = ap (λ n. map.get n next) (sym is) ∙ get_at es next ∙ not_held _ (omega (arith, inv.each next, ap (occurs next) none, not_below next next (omega arith)));
  lowest = λ d lt. subst (λ n. IsSome (map.get n d)) is (subst IsSome (sym (get_at es d)) (is_held _ (omega (arith, inv.each d, ap (occurs d) none, below_is d next lt))));
}

pub all_held : (m : ChannelTable) (c max : ℕ) → IsLowestFree m c → max < c → (d : ℕ) → d ≤ max → IsSome (map.get m d)
all_held m c max l lt d le = l.lowest d (omega arith)

pub empty : {X : Type 0} → (xs : List X) → length xs ≡ 0 → xs ≡ []
empty [] e = refl
empty (x ∷ xs) e = absurd (omega arith)

-- a channel that was given back is held again
pub each_popped : (x c n next : ℕ) (old new : List (ℕ × ℕ)) (items items' : List ℕ) → x + c ≡ 65535 → IsPermutation items (x ∷ items') →
    ((q : ℕ) → lookup (nat_eq q) new ≡ cond (nat_eq c q) (Some n) (lookup (nat_eq q) old)) →
    ((d : ℕ) → occurs d items + held_at old d ≡ mark (nat_lt d next)) → (d : ℕ) → occurs d items' + held_at new d ≡ mark (nat_lt d next)
each_popped x c n next old new items items' sum perm up each d = by (nat_eq c d) refl
  where
    popped : occurs d items' + mark (nat_eq (x + d) 65535) ≡ occurs d items
    popped = sum_by_popped (λ y. mark (nat_eq (y + d) 65535)) x items items' perm

    by : (b : Bool) → nat_eq c d ≡ b → occurs d items' + held_at new d ≡ mark (nat_lt d next)
    by true p =
        let one = ap (λ b. mark b) (tested (x + d) 65535 (omega (arith, same_number c d p))) in
        let now : held_at new d ≡ 1 = ap (λ o. mark (is_some o)) (up d ∙ ap (λ b. cond b (Some n) (lookup (nat_eq d) old)) p) in
        omega (arith, popped, one, now, each d, below_at_most d next)
    by false p =
        let other = other_number c d p in
        let none = ap (λ b. mark b) (untested (x + d) 65535 (λ e. other (omega arith))) in
        let now : held_at new d ≡ held_at old d = ap (λ o. mark (is_some o)) (up d ∙ ap (λ b. cond b (Some n) (lookup (nat_eq d) old)) p) in
        omega (arith, popped, none, now, each d)

-- a channel that was held is given back
pub each_pushed : (x c next : ℕ) (old new : List (ℕ × ℕ)) (items items' : List ℕ) → x + c ≡ 65535 → IsPermutation (x ∷ items) items' → IsSome (lookup (nat_eq c) old) →
    ((q : ℕ) → lookup (nat_eq q) new ≡ cond (nat_eq c q) None (lookup (nat_eq q) old)) →
    ((d : ℕ) → occurs d items + held_at old d ≡ mark (nat_lt d next)) → (d : ℕ) → occurs d items' + held_at new d ≡ mark (nat_lt d next)
each_pushed x c next old new items items' sum perm was up each d = by (nat_eq c d) refl
  where
    pushed : occurs d items' ≡ mark (nat_eq (x + d) 65535) + occurs d items
    pushed = sum_by_pushed (λ y. mark (nat_eq (y + d) 65535)) x items items' perm

    held_one : (o : Option ℕ) → IsSome o → mark (is_some o) ≡ 1
    held_one (Some y) s = refl
    held_one None s = search rules

    by : (b : Bool) → nat_eq c d ≡ b → occurs d items' + held_at new d ≡ mark (nat_lt d next)
    by true p =
        let same = same_number c d p in
        let one = ap (λ b. mark b) (tested (x + d) 65535 (omega arith)) in
        let before : held_at old d ≡ 1 = ap (λ k. held_at old k) (sym same) ∙ held_one _ was in
        let now : held_at new d ≡ 0 = ap (λ o. mark (is_some o)) (up d ∙ ap (λ b. cond b None (lookup (nat_eq d) old)) p) in
        omega (arith, pushed, one, before, now, each d)
    by false p =
        let other = other_number c d p in
        let none = ap (λ b. mark b) (untested (x + d) 65535 (λ e. other (omega arith))) in
        let now : held_at new d ≡ held_at old d = ap (λ o. mark (is_some o)) (up d ∙ ap (λ b. cond b None (lookup (nat_eq d) old)) p) in
        omega (arith, pushed, none, now, each d)
