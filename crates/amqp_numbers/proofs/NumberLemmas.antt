-- The numbers that ranges hold, as a map.
use Rattle.std.proofs.Common.{◌≡◌, ℕ, zero, suc, ◌+◌, ◌-◌, ◌≤◌, List, [], ◌∷◌, cond, Bool, true, false, ◌&&◌, ◌||◌, Some, None, nat_eq, nat_lt, nat_le, refl, ap, sym, ◌∙◌, arith}
use Rattle.std.proofs.lemmas.Bool.Decides.{nat_tests}
use Rattle.std.proofs.lemmas.Grind.{common_steps}
use Rattle.std.specs.Ordering.{nat_cmp, eq_by_cmp}
use Rattle.std.specs.Cmp.{nat_cmp_total}
use Rattle.std.specs.FinMap.{get, insert, get-empty, get-insert, same_map, nat_cmp-IsAntisymmetric}
use Rattle.amqp_numbers.specs.declared.ranges.Range.{Range}
use Rattle.amqp_numbers.specs.Ranges.{Numbers, with_run, numbers_of, is_held, IsAlone}

same_test : (q k : ℕ) → eq_by_cmp nat_cmp q k ≡ nat_eq q k
same_test q k = grind (arith, nat_tests, common_steps)

either : {X : Type 0} (a b : Bool) (x y : X) → cond a x (cond b x y) ≡ cond (a || b) x y
either true b x y = refl
either false b x y = refl

none_yet : (first q : ℕ) → (nat_le first q && nat_lt q (first + 0)) ≡ false
none_yet first q = grind (arith, nat_tests, common_steps)

one_more : (first n q : ℕ) → (nat_eq q (first + n) || (nat_le first q && nat_lt q (first + n))) ≡ (nat_le first q && nat_lt q (first + suc n))
one_more first n q = grind (arith, nat_tests, common_steps)

get_run : (first count : ℕ) (m : Numbers) (q : ℕ) → get (with_run first count m) q ≡ cond (nat_le first q && nat_lt q (first + count)) (Some true) (get m q)
get_run first zero m q = sym (ap (λ b. cond b (Some true) (get m q)) (none_yet first q))
get_run first (suc n) m q =
    get-insert nat_cmp_total (with_run first n m) (first + n) true q
    ∙ ap (λ b. cond b (Some true) (get (with_run first n m) q)) (same_test q (first + n))
    ∙ ap (cond (nat_eq q (first + n)) (Some true)) (get_run first n m q)
    ∙ either (nat_eq q (first + n)) (nat_le first q && nat_lt q (first + n)) (Some true) (get m q)
    ∙ ap (λ b. cond b (Some true) (get m q)) (one_more first n q)

up_to_last : (first last q : ℕ) → (nat_le first q && nat_lt q (first + (suc last - first))) ≡ (nat_le first q && nat_le q last)
up_to_last first last q = grind (arith, nat_tests, common_steps)

pub get_numbers : (rs : List Range) (q : ℕ) → get (numbers_of rs) q ≡ cond (is_held q rs) (Some true) None
get_numbers [] q = get-empty nat_cmp q
get_numbers (r ∷ rs) q =
    get_run r.first (suc r.last - r.first) (numbers_of rs) q
    ∙ ap (λ b. cond b (Some true) (get (numbers_of rs) q)) (up_to_last r.first r.last q)
    ∙ ap (cond (nat_le r.first q && nat_le q r.last) (Some true)) (get_numbers rs q)
    ∙ either (nat_le r.first q && nat_le q r.last) (is_held q rs) (Some true) None

-- ranges that hold one number more
pub inserted : (old new : List Range) (n : ℕ) → ((q : ℕ) → is_held q new ≡ (nat_eq q n || is_held q old)) → numbers_of new ≡ insert (numbers_of old) n true
inserted old new n h = same_map nat_cmp_total nat_cmp-IsAntisymmetric _ _ (λ q.
    get_numbers new q ∙ ap (λ b. cond b (Some true) None) (h q) ∙ sym (either (nat_eq q n) (is_held q old) (Some true) None)
    ∙ sym (get-insert nat_cmp_total (numbers_of old) n true q ∙ ap (λ b. cond b (Some true) (get (numbers_of old) q)) (same_test q n)
    ∙ ap (cond (nat_eq q n) (Some true)) (get_numbers old q)))

same_number : (q n : ℕ) → nat_eq q n ≡ true → q ≡ n
same_number q n h = grind (arith, nat_tests, common_steps)

-- a number that is held already
pub inserted_again : (rs : List Range) (n : ℕ) → is_held n rs ≡ true → numbers_of rs ≡ insert (numbers_of rs) n true
inserted_again rs n h = inserted rs rs n (λ q. by q (nat_eq q n) refl)
  where
    by : (q : ℕ) (b : Bool) → nat_eq q n ≡ b → is_held q rs ≡ (nat_eq q n || is_held q rs)
    by q true e = ap (λ k. is_held k rs) (same_number q n e) ∙ h ∙ sym (ap (λ b. b || is_held q rs) e)
    by q false e = sym (ap (λ b. b || is_held q rs) e)

-- none of them is beside a number
pub alone : (rs : List Range) (n : ℕ) → ((q : ℕ) → n ≤ q + 1 → q ≤ n + 1 → is_held q rs ≡ false) → IsAlone (numbers_of rs) n
alone rs n f = λ q lo hi. get_numbers rs q ∙ ap (λ b. cond b (Some true) None) (f q lo hi)
