-- What is picked of entries, as a map.
use Rattle.std.proofs.Common.{◌≡◌, ℕ, cond, List, [], ◌∷◌, Option, Some, None, IsSome, refl, ap, sym, ◌∙◌, nat_eq, Bool, true, false, arith}
use Rattle.std.proofs.lemmas.Bool.Decides.{nat_tests}
use Rattle.std.proofs.lemmas.Grind.{common_steps}
use Rattle.std.proofs.lemmas.Map.{lookup-set_value}
use Rattle.std.specs.Ordering.{nat_cmp, eq_by_cmp}
use Rattle.std.specs.Cmp.{nat_cmp_total, nat_eq_equiv, eq_by_cmp_equiv}
use Rattle.std.specs.Map.{lookup, set_value}
use Rattle.std.specs.FinMap.{FinMap, get, insert, remove, get-empty, get-insert, get-remove, same_map, nat_cmp-IsAntisymmetric}
use Rattle.amqp_session.proofs.FiniteMapLemmas.{same_test}
use Rattle.amqp_engine.specs.Inner.Places.{pick, pick_by}

abbrev pub picked_at : {X Y : Type 0} → (X → Option Y) → Option X → Option Y
picked_at f None = None
picked_at f (Some x) = f x

-- the map of one entry more
get_more : {Y : Type 0} (o : Option Y) (k q : ℕ) (m : FinMap nat_cmp Y) → get (pick_by o k m) q ≡ cond (nat_eq q k) o (get m q)
get_more None k q m = get-remove nat_cmp_total m k q ∙ ap (λ b. cond b None (get m q)) (same_test q k)
get_more (Some y) k q m = get-insert nat_cmp_total m k y q ∙ ap (λ b. cond b (Some y) (get m q)) (same_test q k)

into : {X Y : Type 0} (f : X → Option Y) (b : Bool) (x : X) (o : Option X) → cond b (f x) (picked_at f o) ≡ picked_at f (cond b (Some x) o)
into f true x o = refl
into f false x o = refl

pub get_pick : {X Y : Type 0} (f : X → Option Y) (es : List (ℕ × X)) (q : ℕ) → get (pick f es) q ≡ picked_at f (lookup (nat_eq q) es)
get_pick f [] q = get-empty nat_cmp q
get_pick f (e ∷ es) q = get_more (f e.1) e.0 q (pick f es) ∙ ap (λ o. cond (nat_eq q e.0) (f e.1) o) (get_pick f es q) ∙ into f (nat_eq q e.0) e.1 (lookup (nat_eq q) es)

turned : (k q : ℕ) → eq_by_cmp nat_cmp q k ≡ nat_eq k q
turned k q = (eq_by_cmp_equiv nat_cmp_total).symm q k ∙ same_test k q

-- how entries differ that were written at one key
abbrev pub Writes : {X : Type 0} → List (ℕ × X) → List (ℕ × X) → ℕ → X → Type 0
Writes old new k x = (q : ℕ) → lookup (nat_eq q) new ≡ cond (nat_eq k q) (Some x) (lookup (nat_eq q) old)

one_key : (k x y : ℕ) → nat_eq k x ≡ true → nat_eq k y ≡ nat_eq x y
one_key k x y h = let e : k ≡ x = grind (arith, nat_tests, common_steps) in ap (λ n. nat_eq n y) e

pub writes : {X : Type 0} (es : List (ℕ × X)) (k : ℕ) (x : X) → IsSome (lookup (nat_eq k) es) → Writes es (set_value (nat_eq k) es x) k x
writes es k x there q = lookup-set_value nat_eq_equiv (nat_eq k) (one_key k) q x es there

seen : {X Y : Type 0} (f : X → Option Y) (old new : List (ℕ × X)) (k : ℕ) (x : X) → Writes old new k x → (q : ℕ) → get (pick f new) q ≡ cond (nat_eq k q) (f x) (get (pick f old) q)
seen f old new k x w q =
    get_pick f new q ∙ ap (picked_at f) (w q) ∙ sym (into f (nat_eq k q) x (lookup (nat_eq q) old)) ∙ ap (λ o. cond (nat_eq k q) (f x) o) (sym (get_pick f old q))

-- what is written gives a value, or none
pub put : {X Y : Type 0} (f : X → Option Y) (old new : List (ℕ × X)) (k : ℕ) (x : X) (y : Y) → Writes old new k x → f x ≡ Some y → pick f new ≡ insert (pick f old) k y
put f old new k x y w e = same_map nat_cmp_total nat_cmp-IsAntisymmetric _ _ (λ q.
    seen f old new k x w q ∙ ap (λ o. cond (nat_eq k q) o (get (pick f old) q)) e
    ∙ sym (get-insert nat_cmp_total (pick f old) k y q ∙ ap (λ b. cond b (Some y) (get (pick f old) q)) (turned k q)))

pub cleared : {X Y : Type 0} (f : X → Option Y) (old new : List (ℕ × X)) (k : ℕ) (x : X) → Writes old new k x → f x ≡ None → pick f new ≡ remove (pick f old) k
cleared f old new k x w e = same_map nat_cmp_total nat_cmp-IsAntisymmetric _ _ (λ q.
    seen f old new k x w q ∙ ap (λ o. cond (nat_eq k q) o (get (pick f old) q)) e
    ∙ sym (get-remove nat_cmp_total (pick f old) k q ∙ ap (λ b. cond b None (get (pick f old) q)) (turned k q)))

same_key : (k q : ℕ) → nat_eq k q ≡ true → k ≡ q
same_key k q p = grind (arith, nat_tests, common_steps)

-- it gives what was there
pub stays : {X Y : Type 0} (f : X → Option Y) (old new : List (ℕ × X)) (k : ℕ) (x : X) → Writes old new k x → f x ≡ picked_at f (lookup (nat_eq k) old) → pick f new ≡ pick f old
stays f old new k x w e = same_map nat_cmp_total nat_cmp-IsAntisymmetric _ _ (λ q. seen f old new k x w q ∙ by q (nat_eq k q) refl)
  where
    by : (q : ℕ) (b : Bool) → nat_eq k q ≡ b → cond (nat_eq k q) (f x) (get (pick f old) q) ≡ get (pick f old) q
    by q true p = ap (λ b. cond b (f x) (get (pick f old) q)) p ∙ e ∙ sym (get_pick f old k) ∙ ap (get (pick f old)) (same_key k q p)
    by q false p = ap (λ b. cond b (f x) (get (pick f old) q)) p

-- how entries differ of which one key is gone
abbrev pub Clears : {X : Type 0} → List (ℕ × X) → List (ℕ × X) → ℕ → Type 0
Clears old new k = (q : ℕ) → lookup (nat_eq q) new ≡ cond (nat_eq k q) None (lookup (nat_eq q) old)

pub gone : {X Y : Type 0} (f : X → Option Y) (old new : List (ℕ × X)) (k : ℕ) → Clears old new k → pick f new ≡ remove (pick f old) k
gone f old new k w = same_map nat_cmp_total nat_cmp-IsAntisymmetric _ _ (λ q.
    get_pick f new q ∙ ap (picked_at f) (w q) ∙ none (nat_eq k q) (lookup (nat_eq q) old) ∙ ap (λ o. cond (nat_eq k q) None o) (sym (get_pick f old q))
    ∙ sym (get-remove nat_cmp_total (pick f old) k q ∙ ap (λ b. cond b None (get (pick f old) q)) (turned k q)))
  where
    none : (b : Bool) (o : Option _) → picked_at f (cond b None o) ≡ cond b None (picked_at f o)
    none true o = refl
    none false o = refl
