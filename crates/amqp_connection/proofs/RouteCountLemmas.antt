-- How many channels lead to a session, and the counts of it.
use Rattle.std.proofs.Common.{◌≡◌, ℕ, zero, suc, ◌+◌, ◌<◌, ◌≤◌, cond, List, Option, Some, None, [], is_some, refl, ap, sym, ◌∙◌, nat_eq, nat_lt, Bool, true, false, arith}
use Rattle.std.proofs.lemmas.Bool.Decides.{nat_tests}
use Rattle.std.proofs.lemmas.Grind.{common_steps}
use Rattle.std.specs.Prelude.{unwrap_or}
use Rattle.std.specs.Option.{option_eq}
use Rattle.std.specs.Map.{lookup}
use Rattle.std.specs.FinMap as map
use Rattle.std.specs.FinMap.{get-insert, get-remove, same_map, nat_cmp-IsAntisymmetric}
use Rattle.std.specs.Ordering.{nat_cmp, eq_by_cmp}
use Rattle.std.specs.Cmp.{nat_cmp_total, eq_by_cmp_equiv}
use Rattle.amqp_values.proofs.ReaderLemmas.{pair_is}
use Rattle.amqp_session.proofs.FiniteMapLemmas.{same_test, get_at}
use Rattle.amqp_connection.specs.Channels.{ChannelTable, RoutesView, mark}
use Rattle.amqp_connection.specs.RouteCounts.{leads, leading, count_at, NoZero, Counted, Raised, Lowered, IsLedTo}
use Rattle.amqp_connection.proofs.LowestChannelLemmas.{tested, untested, same_number, other_number}

-- routes with the same hash and the same map are the same
pub same_routes : {v w : RoutesView} → v.hash ≡ w.hash → v.routes ≡ w.routes → v ≡ w
same_routes {v = v} {w = w} hash routes = ap (λ x. record v { hash = x }) hash ∙ ap (λ x. record w { routes = x }) routes

-- ---- how many channels lead to a session

leads_one : (o : Option ℕ) (n : ℕ) → leads o n ≤ 1
leads_one None n = omega arith
leads_one (Some x) n = one (nat_eq x n)
  where
    one : (b : Bool) → mark b ≤ 1
    one true = omega arith
    one false = omega arith

leading_most : (m : ChannelTable) (n end : ℕ) → leading m n end ≤ end
unfolding leading
leading_most m n zero = omega arith
leading_most m n (suc c) = omega (arith, leading_most m n c, leads_one (map.get m c) n)

leading_same : (old new : ChannelTable) (n end : ℕ) → ((q : ℕ) → q < end → map.get new q ≡ map.get old q) → leading new n end ≡ leading old n end
unfolding leading
leading_same old new n zero same = refl
leading_same old new n (suc c) same = omega (arith, ap (λ o. leads o n) (same c (omega arith)), leading_same old new n c (λ q lt. same q (omega (arith, lt))))

not_last : (c k : ℕ) → k < suc c → ¬ (c ≡ k) → k < c
not_last c k lt other = grind arith

-- one channel leads elsewhere
leading_changed : (old new : ChannelTable) (k n end : ℕ) → k < end → ((q : ℕ) → ¬ (q ≡ k) → map.get new q ≡ map.get old q) →
    leading new n end + leads (map.get old k) n ≡ leading old n end + leads (map.get new k) n
unfolding leading
leading_changed old new k n zero lt same = absurd (omega (arith, lt))
leading_changed old new k n (suc c) lt same = by (λ less. leading_changed old new k n c less same) (nat_eq c k) refl
  where
    by : (k < c → leading new n c + leads (map.get old k) n ≡ leading old n c + leads (map.get new k) n) → (b : Bool) → nat_eq c k ≡ b →
        leading new n (suc c) + leads (map.get old k) n ≡ leading old n (suc c) + leads (map.get new k) n
    by rest true t =
        let e : c ≡ k = same_number c k t in
        let below = leading_same old new n c (λ q less. same q (λ is. absurd (omega (arith, less, is, e)))) in
        omega (arith, below, ap (λ q. leads (map.get old q) n) e, ap (λ q. leads (map.get new q) n) e)
    by rest false t =
        let other = other_number c k t in
        omega (arith, rest (not_last c k lt other), ap (λ o. leads o n) (same c other))

leading_none : (m : ChannelTable) (n end : ℕ) → ((q : ℕ) → map.get m q ≡ None) → leading m n end ≡ 0
unfolding leading
leading_none m n zero none = refl
leading_none m n (suc c) none = omega (arith, ap (λ o. leads o n) (none c), leading_none m n c none)

-- where more than none lead to the session, there is one that does
some_leads : (m : ChannelTable) (n end : ℕ) → 0 < leading m n end → (c : ℕ) × (map.get m c ≡ Some n)
unfolding leading
some_leads m n zero more = absurd (omega (arith, more))
some_leads m n (suc c) more = by (λ less. some_leads m n c less) (map.get m c) refl
  where
    at : (0 < leading m n c → (c : ℕ) × (map.get m c ≡ Some n)) → (x : ℕ) → map.get m c ≡ Some x → (b : Bool) → nat_eq x n ≡ b → (c : ℕ) × (map.get m c ≡ Some n)
    at rest x e true t = (c, e ∙ ap (λ y. Some y) (same_number x n t))
    at rest x e false t = rest (omega (arith, more, ap (λ o. leads o n) e, ap (λ b. mark b) t))

    by : (0 < leading m n c → (c : ℕ) × (map.get m c ≡ Some n)) → (o : Option ℕ) → map.get m c ≡ o → (c : ℕ) × (map.get m c ≡ Some n)
    by rest None e = rest (omega (arith, more, ap (λ o. leads o n) e))
    by rest (Some x) e = at rest x e (nat_eq x n) refl

-- a channel that leads to the session is among those that do
at_most_leading : (m : ChannelTable) (k n end : ℕ) → k < end → leads (map.get m k) n ≤ leading m n end
unfolding leading
at_most_leading m k n zero lt = absurd (omega (arith, lt))
at_most_leading m k n (suc c) lt = by (λ less. at_most_leading m k n c less) (nat_eq c k) refl
  where
    by : (k < c → leads (map.get m k) n ≤ leading m n c) → (b : Bool) → nat_eq c k ≡ b → leads (map.get m k) n ≤ leading m n (suc c)
    by rest true t = omega (arith, ap (λ q. leads (map.get m q) n) (same_number c k t))
    by rest false t = omega (arith, rest (not_last c k lt (other_number c k t)))

-- ---- what is written at one session

-- the session's count is this one now, and those of the others stay
abbrev pub Writes : List (ℕ × ℕ) → List (ℕ × ℕ) → ℕ → Option ℕ → Type 0
Writes old new k w = (q : ℕ) → lookup (nat_eq q) new ≡ cond (nat_eq k q) w (lookup (nat_eq q) old)

turned : (k q : ℕ) → eq_by_cmp nat_cmp q k ≡ nat_eq k q
turned k q = sym (sym (same_test k q) ∙ (eq_by_cmp_equiv nat_cmp_total).symm k q)

pub put_writes : (old new : List (ℕ × ℕ)) (k v : ℕ) → map.from_entries {R = nat_cmp} new ≡ map.insert (map.from_entries old) k v → Writes old new k (Some v)
put_writes old new k v is q =
    sym (get_at new q) ∙ ap (λ m. map.get {R = nat_cmp} m q) is ∙ get-insert nat_cmp_total (map.from_entries old) k v q
    ∙ ap (λ b. cond b (Some v) (map.get {R = nat_cmp} (map.from_entries old) q)) (turned k q) ∙ ap (cond (nat_eq k q) (Some v)) (get_at old q)

pub take_writes : (old new : List (ℕ × ℕ)) (k : ℕ) → map.from_entries {R = nat_cmp} new ≡ map.remove (map.from_entries old) k → Writes old new k None
take_writes old new k is q =
    sym (get_at new q) ∙ ap (λ m. map.get {R = nat_cmp} m q) is ∙ get-remove nat_cmp_total (map.from_entries old) k q
    ∙ ap (λ b. cond b None (map.get {R = nat_cmp} (map.from_entries old) q)) (turned k q) ∙ ap (cond (nat_eq k q) None) (get_at old q)

wrote : (old new : List (ℕ × ℕ)) (k : ℕ) (w : Option ℕ) → Writes old new k w → (q : ℕ) (b : Bool) → nat_eq k q ≡ b → lookup (nat_eq q) new ≡ cond b w (lookup (nat_eq q) old)
wrote old new k w writes q b t = writes q ∙ ap (λ c. cond c w (lookup (nat_eq q) old)) t

still_no_zero : (old new : List (ℕ × ℕ)) (k : ℕ) (w : Option ℕ) → Writes old new k w → ¬ (w ≡ Some 0) → NoZero old → NoZero new
still_no_zero old new k w writes some none q = by (nat_eq k q) refl
  where
    by : (b : Bool) → nat_eq k q ≡ b → ¬ (lookup (nat_eq q) new ≡ Some 0)
    by true t = λ e. some (sym (wrote old new k w writes q true t) ∙ e)
    by false t = λ e. none q (sym (wrote old new k w writes q false t) ∙ e)

pub raised : (old new : List (ℕ × ℕ)) (k v : ℕ) → Writes old new k (Some v) → v ≡ count_at old k + 1 → Raised k old new
raised old new k v writes is = record {
  each = λ q. by q (nat_eq k q) refl;
  no_zero = still_no_zero old new k (Some v) writes (λ e. not_zero e);
}
  where
    by : (q : ℕ) (b : Bool) → nat_eq k q ≡ b → count_at new q ≡ count_at old q + leads (Some k) q
    by q true t = omega (arith, ap (λ o. unwrap_or o 0) (wrote old new k (Some v) writes q true t), is, ap (λ n. count_at old n) (same_number k q t), ap (λ b. mark b) t)
    by q false t = omega (arith, ap (λ o. unwrap_or o 0) (wrote old new k (Some v) writes q false t), ap (λ b. mark b) t)

    not_zero : ¬ (Some v ≡ Some 0)
    not_zero e = absurd (omega (arith, is, ap (λ o. unwrap_or o 0) e))

pub lowered : (old new : List (ℕ × ℕ)) (k v : ℕ) → Writes old new k (Some v) → v + 1 ≡ count_at old k → ¬ (v ≡ 0) → Lowered (Some k) old new
lowered old new k v writes is some = record {
  each = λ q. by q (nat_eq k q) refl;
  no_zero = still_no_zero old new k (Some v) writes (λ e. some (ap (λ o. unwrap_or o 0) e));
}
  where
    by : (q : ℕ) (b : Bool) → nat_eq k q ≡ b → count_at new q + leads (Some k) q ≡ count_at old q
    by q true t = omega (arith, ap (λ o. unwrap_or o 0) (wrote old new k (Some v) writes q true t), is, ap (λ n. count_at old n) (same_number k q t), ap (λ b. mark b) t)
    by q false t = omega (arith, ap (λ o. unwrap_or o 0) (wrote old new k (Some v) writes q false t), ap (λ b. mark b) t)

-- the last channel that led to the session
pub gone : (old new : List (ℕ × ℕ)) (k : ℕ) → Writes old new k None → count_at old k ≡ 1 → Lowered (Some k) old new
gone old new k writes is = record {
  each = λ q. by q (nat_eq k q) refl;
  no_zero = still_no_zero old new k None writes (λ e. cc);
}
  where
    by : (q : ℕ) (b : Bool) → nat_eq k q ≡ b → count_at new q + leads (Some k) q ≡ count_at old q
    by q true t = omega (arith, ap (λ o. unwrap_or o 0) (wrote old new k None writes q true t), is, ap (λ n. count_at old n) (same_number k q t), ap (λ b. mark b) t)
    by q false t = omega (arith, ap (λ o. unwrap_or o 0) (wrote old new k None writes q false t), ap (λ b. mark b) t)

-- ---- the counts of a table of routes

pub counted_new : (routes counts : List (ℕ × ℕ)) → routes ≡ [] → counts ≡ [] → Counted (map.from_entries routes) counts
counted_new routes counts no_routes no_counts = record {
  each = λ n. ap (λ es. count_at es n) no_counts ∙ sym (none n 65536);
  no_zero = λ n e. absurd (let x = sym (ap (λ es. lookup (nat_eq n) es) no_counts) ∙ e in cc);
  within = λ c h. nowhere c;
}
  where
    nowhere : (c : ℕ) → map.get (map.from_entries {R = nat_cmp} routes) c ≡ None
    nowhere c = get_at routes c ∙ ap (λ es. lookup (nat_eq c) es) no_routes

    none : (n end : ℕ) → leading (map.from_entries routes) n end ≡ 0
    none n end = leading_none (map.from_entries routes) n end nowhere

pub count_small : (routes : ChannelTable) (counts : List (ℕ × ℕ)) (n : ℕ) → Counted routes counts → count_at counts n ≤ 65536
count_small routes counts n c = omega (arith, c.each n, leading_most routes n 65536)

-- the session to which a channel leads has a count
pub has_count : (routes : ChannelTable) (counts : List (ℕ × ℕ)) (k n : ℕ) → k < 65536 → Counted routes counts → leads (map.get routes k) n ≤ count_at counts n
has_count routes counts k n lt c = omega (arith, c.each n, at_most_leading routes k n 65536 lt)

-- and still has it when one more channel leads to some session
pub has_count_still : (routes : ChannelTable) (counts up : List (ℕ × ℕ)) (k number n : ℕ) → k < 65536 → Counted routes counts → Raised number counts up →
    leads (map.get routes k) n ≤ count_at up n
has_count_still routes counts up k number n lt c raises = omega (arith, has_count routes counts k n lt c, raises.each n)

pub counted_put : (routes : ChannelTable) (counts up down : List (ℕ × ℕ)) (k number : ℕ) → k < 65536 → Counted routes counts → Raised number counts up →
    Lowered (map.get routes k) up down → Counted (map.insert routes k number) down
counted_put routes counts up down k number lt c raises lowers = record {
  each = λ n. omega (arith, c.each n, raises.each n, lowers.each n, leading_changed routes (map.insert routes k number) k n 65536 lt others, ap (λ o. leads o n) here);
  no_zero = lowers.no_zero (raises.no_zero c.no_zero);
  within = λ q h. others q (λ e. absurd (omega (arith, lt, h, e))) ∙ c.within q h;
}
  where
    here : map.get (map.insert routes k number) k ≡ Some number
    here = get-insert nat_cmp_total routes k number k ∙ ap (λ b. cond b (Some number) (map.get routes k)) (turned k k ∙ tested k k refl)

    others : (q : ℕ) → ¬ (q ≡ k) → map.get (map.insert routes k number) q ≡ map.get routes q
    others q other = get-insert nat_cmp_total routes k number q ∙ ap (λ b. cond b (Some number) (map.get routes q)) (turned k q ∙ untested k q (λ e. other (sym e)))

pub counted_take : (routes : ChannelTable) (counts down : List (ℕ × ℕ)) (k : ℕ) → k < 65536 → Counted routes counts → Lowered (map.get routes k) counts down →
    Counted (map.remove routes k) down
counted_take routes counts down k lt c lowers = record {
  each = λ n. omega (arith, c.each n, lowers.each n, leading_changed routes (map.remove routes k) k n 65536 lt others, ap (λ o. leads o n) here);
  no_zero = lowers.no_zero c.no_zero;
  within = λ q h. others q (λ e. absurd (omega (arith, lt, h, e))) ∙ c.within q h;
}
  where
    here : map.get (map.remove routes k) k ≡ None
    here = get-remove nat_cmp_total routes k k ∙ ap (λ b. cond b None (map.get routes k)) (turned k k ∙ tested k k refl)

    others : (q : ℕ) → ¬ (q ≡ k) → map.get (map.remove routes k) q ≡ map.get routes q
    others q other = get-remove nat_cmp_total routes k q ∙ ap (λ b. cond b None (map.get routes q)) (turned k q ∙ untested k q (λ e. other (sym e)))

-- ---- whether a session has a count

below : (k : ℕ) → nat_lt k 65536 ≡ true → k < 65536
below k t = grind (arith, nat_tests, common_steps)

not_below : (k : ℕ) → nat_lt k 65536 ≡ false → 65536 ≤ k
not_below k t = grind (arith, nat_tests, common_steps)

above_zero : (o : Option ℕ) → is_some o ≡ true → ¬ (o ≡ Some 0) → 0 < unwrap_or o 0
above_zero None e none = absurd cc
above_zero (Some zero) e none = absurd (none refl)
above_zero (Some (suc x)) e none = omega arith

zero_at : (o : Option ℕ) → is_some o ≡ false → unwrap_or o 0 ≡ 0
zero_at None e = refl
zero_at (Some x) e = absurd cc

not_led : (routes : ChannelTable) (counts : List (ℕ × ℕ)) (n k : ℕ) → Counted routes counts → count_at counts n ≡ 0 → map.get routes k ≡ Some n → (b : Bool) → nat_lt k 65536 ≡ b → ⊥
not_led routes counts n k c zeroed e true lt = omega (arith, zeroed, c.each n, at_most_leading routes k n 65536 (below k lt), ap (λ o. leads o n) e, ap (λ b. mark b) (tested n n refl))
not_led routes counts n k c zeroed e false lt = let x = sym e ∙ c.within k (not_below k lt) in cc

-- then, and only then, some channel leads to it
pub led : (routes : ChannelTable) (counts : List (ℕ × ℕ)) (n : ℕ) (b : Bool) → Counted routes counts → is_some (lookup (nat_eq n) counts) ≡ b → IsLedTo routes n b
led routes counts n true c is = some_leads routes n 65536 (omega (arith, c.each n, above_zero (lookup (nat_eq n) counts) is (c.no_zero n)))
led routes counts n false c is = λ k e. not_led routes counts n k c (zero_at (lookup (nat_eq n) counts) is) e (nat_lt k 65536) refl

-- ---- a route that is there already

pub same_option : (o : Option ℕ) (n : ℕ) → option_eq nat_eq o (Some n) ≡ true → o ≡ Some n
same_option None n e = absurd cc
same_option (Some x) n e = ap (λ y. Some y) (same_number x n e)

-- put once more, it changes nothing
pub there : (routes : ChannelTable) (k number : ℕ) → map.get routes k ≡ Some number → routes ≡ map.insert routes k number
there routes k number is = same_map nat_cmp_total nat_cmp-IsAntisymmetric _ _ (λ q. by q (nat_eq k q) refl)
  where
    by : (q : ℕ) (b : Bool) → nat_eq k q ≡ b → map.get routes q ≡ map.get (map.insert routes k number) q
    by q true t = ap (λ c. map.get routes c) (sym (same_number k q t)) ∙ is ∙ sym (get-insert nat_cmp_total routes k number q ∙ ap (λ b. cond b (Some number) (map.get routes q)) (turned k q ∙ t))
    by q false t = sym (get-insert nat_cmp_total routes k number q ∙ ap (λ b. cond b (Some number) (map.get routes q)) (turned k q ∙ t))

-- ---- an entry that was sought by its key

-- where no key is found, no value is
pub none_found : (r : Option ℕ) → false ≡ is_some r → None ≡ r
none_found None e = refl
none_found (Some n) e = absurd cc

-- no entry stands where one was found
pub none_stands : {X : Type 0} (o : Option X) (x : X) → None ≡ o → o ≡ Some x → ⊥
none_stands o x none some = absurd cc

-- the value under the key that stands at a place
pub found_value : (es : List (ℕ × ℕ)) (k found n v : ℕ) → ◌≡◌ {A = Option (ℕ × ℕ)} (Some (found, n)) (Some (k, v)) → lookup (nat_eq found) es ≡ Some n → Some n ≡ lookup (nat_eq k) es
found_value es k found n v e l = sym l ∙ ap (λ x. lookup (nat_eq x) es) (pair_is found k n v e).0
