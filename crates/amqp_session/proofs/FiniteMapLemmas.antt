-- Index maps and slabs as finite maps.
use Rattle.std.proofs.Common.{◌≡◌, ◌≢◌, ◌<◌, ◌+◌, ℕ, suc, zero, subst, slice_index_or, string_bytes, bytes_eq, map as each, cond, List, [], ◌∷◌, Option, Some, None, IsSome, OnSome, refl, ap, sym, ◌∙◌, nat_eq, Bool, true, false, arith}
use Rattle.std.proofs.lemmas.Bool.Decides.{nat_tests}
use Rattle.std.proofs.lemmas.Grind.{common_steps}
use Rattle.std.proofs.lemmas.Map.{lookup-set_value}
use Rattle.std.specs.Ordering.{nat_cmp, eq_by_cmp}
use Rattle.std.specs.Cmp.{nat_cmp_total, nat_eq_equiv, eq_by_cmp_equiv}
use Rattle.std.specs.Map.{lookup, set_value}
use Rattle.std.specs.FinMap.{get, find, insert, remove, from_entries, get-from_entries, get-insert, get-remove, same_map, nat_cmp-IsAntisymmetric, slice_cmp-IsAntisymmetric, IsAntisymmetric, FinMap}
use Rattle.std.specs.Prelude.{String}
use Rattle.std.specs.Option.{option_map, option_copied_mut}
use Rattle.std.specs.Borrow.{MutBor}
use Rattle.std.specs.String.{string_eq}
use Rattle.std.specs.HashMap.{HashMap, UpdatesBy}
use Rattle.std.specs.Cmp.Lexicographic.{slice_cmp, nat_list_cmp_total, nat_list_eq_equiv}
use Rattle.std.proofs.lemmas.Map.Text.{is_eq-slice_cmp, hash_map_updates_text}
use Rattle.slab.specs.Slab.{Slab, Updates, entries_from, get as slot}
use Rattle.amqp_session.specs.declared.link.LiveLink.{LiveLink}
use Rattle.amqp_session.specs.declared.link.handles.HandleSlot.{HandleSlot}
use Rattle.amqp_session.specs.declared.link.handles.HandleSlot.TheVariants.{Awaited}
use Rattle.amqp_session.specs.Linking.{live_name, is_awaited, IsWaited}
use Rattle.amqp_session.specs.Links.{place_name, handles_of, names_of}

-- ---- keys that are numbers

-- the two tests of numbers agree
pub same_test : (q k : ℕ) → eq_by_cmp nat_cmp q k ≡ nat_eq q k
same_test q k = grind (arith, nat_tests, common_steps)

find_lookup : {X : Type 0} → (es : List (ℕ × X)) (q : ℕ) → find nat_cmp q es ≡ lookup (nat_eq q) es
find_lookup [] q = refl
find_lookup (e ∷ es) q = ap (λ b. cond b (Some e.1) (find nat_cmp q es)) (same_test q e.0) ∙ ap (cond (nat_eq q e.0) (Some e.1)) (find_lookup es q)

-- a map as its entries say
pub get_at : {X : Type 0} → (es : List (ℕ × X)) (q : ℕ) → get (from_entries {R = nat_cmp} es) q ≡ lookup (nat_eq q) es
get_at es q = get-from_entries nat_cmp_total es q ∙ find_lookup es q

-- entries that differ at one key make maps that differ there
pub inserted : {X : Type 0} → (old new : List (ℕ × X)) (k : ℕ) (v : X) → ((q : ℕ) → lookup (nat_eq q) new ≡ cond (nat_eq k q) (Some v) (lookup (nat_eq q) old)) → from_entries {R = nat_cmp} new ≡ insert (from_entries old) k v
inserted old new k v h = same_map nat_cmp_total nat_cmp-IsAntisymmetric _ _ (λ q.
    get_at new q ∙ h q ∙ ap (λ b. cond b (Some v) (lookup (nat_eq q) old)) (sym (same_test k q) ∙ (eq_by_cmp_equiv nat_cmp_total).symm k q)
    ∙ sym (get-insert nat_cmp_total (from_entries old) k v q ∙ ap (cond (eq_by_cmp nat_cmp q k) (Some v)) (get_at old q)))

pub removed : {X : Type 0} → (old new : List (ℕ × X)) (k : ℕ) → ((q : ℕ) → lookup (nat_eq q) new ≡ cond (nat_eq k q) None (lookup (nat_eq q) old)) → from_entries {R = nat_cmp} new ≡ remove (from_entries old) k
removed old new k h = same_map nat_cmp_total nat_cmp-IsAntisymmetric _ _ (λ q.
    get_at new q ∙ h q ∙ ap (λ b. cond b None (lookup (nat_eq q) old)) (sym (same_test k q) ∙ (eq_by_cmp_equiv nat_cmp_total).symm k q)
    ∙ sym (get-remove nat_cmp_total (from_entries old) k q ∙ ap (cond (eq_by_cmp nat_cmp q k) None) (get_at old q)))

one_key : (k x y : ℕ) → nat_eq k x ≡ true → nat_eq k y ≡ nat_eq x y
one_key k x y h = let e : k ≡ x = grind (arith, nat_tests, common_steps) in ap (λ n. nat_eq n y) e

-- a value that is written over one
pub written : {X : Type 0} → (es : List (ℕ × X)) (k : ℕ) (v : X) → IsSome (lookup (nat_eq k) es) → from_entries {R = nat_cmp} (set_value (nat_eq k) es v) ≡ insert (from_entries es) k v
written es k v there = inserted es (set_value (nat_eq k) es v) k v (λ q. lookup-set_value nat_eq_equiv (nat_eq k) (one_key k) q v es there)

-- written once more, or written where it was removed
pub insert_again : {X : Type 0} → (m : FinMap nat_cmp X) (k : ℕ) (v : X) → insert (remove m k) k v ≡ insert m k v
insert_again m k v = same_map nat_cmp_total nat_cmp-IsAntisymmetric _ _ (λ q.
    get-insert nat_cmp_total (remove m k) k v q ∙ ap (cond (eq_by_cmp nat_cmp q k) (Some v)) (get-remove nat_cmp_total m k q)
    ∙ once (eq_by_cmp nat_cmp q k) (Some v) None (get m q) ∙ sym (get-insert nat_cmp_total m k v q))
  where
    once : {A : Type 0} → (b : Bool) (x y z : A) → cond b x (cond b y z) ≡ cond b x z
    once true x y z = refl
    once false x y z = refl

-- a removal where nothing stands
pub remove_none : {X : Type 0} → (m : FinMap nat_cmp X) (k : ℕ) → get m k ≡ None → remove m k ≡ m
remove_none m k none = same_map nat_cmp_total nat_cmp-IsAntisymmetric _ _ (λ q. get-remove nat_cmp_total m k q ∙ ap (λ b. cond b None (get m q)) (same_test q k) ∙ by q (nat_eq q k) refl)
  where
    by : (q : ℕ) (b : Bool) → nat_eq q k ≡ b → cond (nat_eq q k) None (get m q) ≡ get m q
    by q true t = let e : q ≡ k = grind (arith, nat_tests, common_steps) in ap (λ b. cond b None (get m q)) t ∙ sym (ap (get m) e ∙ none)
    by q false t = ap (λ b. cond b None (get m q)) t

-- ---- slabs

abbrev places : ℕ → List (Option HandleSlot) → List (ℕ × Option (List ℕ))
places k slots = each (λ e. (e.0, place_name e.1)) (entries_from k slots)

places_below : (n k : ℕ) (slots : List (Option HandleSlot)) → n < k → lookup (nat_eq n) (places k slots) ≡ None
places_below n k [] h = refl
places_below n k (None ∷ rest) h = places_below n (k + 1) rest (omega arith)
places_below n k (Some p ∷ rest) h =
    let t : nat_eq n k ≡ false = grind (arith, nat_tests, common_steps) in
    ap (λ b. cond b (Some (place_name p)) (lookup (nat_eq n) (places (k + 1) rest))) t ∙ places_below n (k + 1) rest (omega arith)

places_at : (k i : ℕ) (slots : List (Option HandleSlot)) → lookup (nat_eq (k + i)) (places k slots) ≡ option_map place_name (slice_index_or slots i None)
places_at k zero [] = refl
places_at k (suc i) [] = refl
places_at k zero (None ∷ rest) = places_below (k + 0) (k + 1) rest (omega arith)
places_at k (suc i) (None ∷ rest) =
    let e : (k + 1) + i ≡ k + suc i = omega arith in
    subst (λ n. lookup (nat_eq n) (places (k + 1) rest) ≡ option_map place_name (slice_index_or rest i None)) e (places_at (k + 1) i rest)
places_at k zero (Some p ∷ rest) =
    let t : nat_eq (k + 0) k ≡ true = grind (arith, nat_tests, common_steps) in
    ap (λ b. cond b (Some (place_name p)) (lookup (nat_eq (k + 0)) (places (k + 1) rest))) t
places_at k (suc i) (Some p ∷ rest) =
    let e : (k + 1) + i ≡ k + suc i = omega arith in
    let t : nat_eq (k + suc i) k ≡ false = grind (arith, nat_tests, common_steps) in
    ap (λ b. cond b (Some (place_name p)) (lookup (nat_eq (k + suc i)) (places (k + 1) rest))) t
    ∙ subst (λ n. lookup (nat_eq n) (places (k + 1) rest) ≡ option_map place_name (slice_index_or rest i None)) e (places_at (k + 1) i rest)

-- a slab as its slots say
pub place_at : (s : Slab HandleSlot) (q : ℕ) → get (handles_of s) q ≡ option_map place_name (slot s q)
place_at s q =
    let e : 0 + q ≡ q = omega arith in
    get_at (places 0 s.slots) q ∙ subst (λ n. lookup (nat_eq n) (places 0 s.slots) ≡ option_map place_name (slot s q)) e (places_at 0 q s.slots)

-- the name of a handle's live link, and whether its answer is awaited, by its slot
pub live_at : (s : Slab HandleSlot) (q : ℕ) (o : Option HandleSlot) → o ≡ slot s q → live_name (get (handles_of s) q) ≡ live_name (option_map place_name o)
live_at s q o e = ap live_name (place_at s q ∙ ap (option_map place_name) (sym e))

pub awaited_at : (s : Slab HandleSlot) (q : ℕ) (o : Option HandleSlot) → o ≡ slot s q → is_awaited (get (handles_of s) q) ≡ is_awaited (option_map place_name o)
awaited_at s q o e = ap is_awaited (place_at s q ∙ ap (option_map place_name) (sym e))

-- what is answered for an awaited slot
pub next_of_awaited : (s : Slab HandleSlot) (q next : ℕ) (o : Option HandleSlot) → o ≡ slot s q → is_awaited (get (handles_of s) q) ≡ true → OnSome o (next ≡ q) → next ≡ q
next_of_awaited s q next None e a h = absurd (let no : false ≡ true = sym (awaited_at s q None e) ∙ a in cc)
next_of_awaited s q next (Some p) e a h = h

-- a live link's slot
pub live_slot : (s : Slab HandleSlot) (q : ℕ) → IsSome (live_name (get (handles_of s) q)) → IsSome (slot s q)
live_slot s q h = by (slot s q) (subst (λ o. IsSome (live_name o)) (place_at s q) h)
  where
    by : (o : Option HandleSlot) → IsSome (live_name (option_map place_name o)) → IsSome o
    by (Some p) x = refl
    by None x = absurd (cc)

pub not_awaited : (s : Slab HandleSlot) (q : ℕ) → IsSome (live_name (get (handles_of s) q)) → slot s q ≡ Some Awaited → ⊥
not_awaited s q h e = let x = subst (λ o. IsSome (live_name o)) (place_at s q ∙ ap (option_map place_name) e) h in cc

updated : (old new : Slab HandleSlot) (k : ℕ) (p : Option HandleSlot) → Updates old new k p → (q : ℕ) → get (handles_of new) q ≡ cond (eq_by_cmp nat_cmp q k) (option_map place_name p) (get (handles_of old) q)
updated old new k p u q = rw (place_at new q, place_at old q, same_test q k) (by (nat_eq q k) refl)
  where
    by : (b : Bool) → nat_eq q k ≡ b → option_map place_name (slot new q) ≡ cond b (option_map place_name p) (option_map place_name (slot old q))
    by true t = let e : q ≡ k = grind (arith, nat_tests, common_steps) in ap (option_map place_name) (ap (slot new) e ∙ u.changed)
    by false t = let e : q ≢ k = grind (arith, nat_tests, common_steps) in ap (option_map place_name) (u.others q e)

pub place_taken : (old new : Slab HandleSlot) (k : ℕ) (p : HandleSlot) → Updates old new k (Some p) → handles_of new ≡ insert (handles_of old) k (place_name p)
place_taken old new k p u = same_map nat_cmp_total nat_cmp-IsAntisymmetric _ _ (λ q. updated old new k (Some p) u q ∙ sym (get-insert nat_cmp_total (handles_of old) k (place_name p) q))

pub place_freed : (old new : Slab HandleSlot) (k : ℕ) → Updates old new k None → handles_of new ≡ remove (handles_of old) k
place_freed old new k u = same_map nat_cmp_total nat_cmp-IsAntisymmetric _ _ (λ q. updated old new k None u q ∙ sym (get-remove nat_cmp_total (handles_of old) k q))

-- ---- keys that are texts

pub same_text : (q k : List ℕ) → eq_by_cmp (slice_cmp nat_cmp) q k ≡ bytes_eq q k
same_text q k = is_eq-slice_cmp q k

find_text : {R Z : Type 0} → (q : List ℕ) (es : List (String Z × LiveLink R)) → find (slice_cmp nat_cmp) q (each (λ e. (string_bytes e.0, e.1)) es) ≡ lookup (λ k. bytes_eq q (string_bytes k)) es
find_text q [] = refl
find_text q (e ∷ es) = ap (λ b. cond b (Some e.1) (find (slice_cmp nat_cmp) q (each (λ x. (string_bytes x.0, x.1)) es))) (same_text q (string_bytes e.0)) ∙ ap (cond (bytes_eq q (string_bytes e.0)) (Some e.1)) (find_text q es)

-- a map as its entries say
pub text_at : {R Z : Type 0} → (es : List (String Z × LiveLink R)) (q : List ℕ) → get (names_of es) q ≡ lookup (λ k. bytes_eq q (string_bytes k)) es
text_at es q = get-from_entries nat_list_cmp_total (each (λ e. (string_bytes e.0, e.1)) es) q ∙ find_text q es

texts_apart : IsAntisymmetric (slice_cmp nat_cmp)
texts_apart = slice_cmp-IsAntisymmetric nat_cmp-IsAntisymmetric

at_text : {R Y S : Type 0} → (m n : HashMap (String Y) (LiveLink R) S) (bs : List ℕ) (w : Option (LiveLink R)) → UpdatesBy string_eq (λ k. bytes_eq bs (string_bytes k)) m n w →
    (q : List ℕ) → get (names_of n.entries) q ≡ cond (eq_by_cmp (slice_cmp nat_cmp) q bs) w (get (names_of m.entries) q)
at_text m n bs w u q = rw (text_at n.entries q, text_at m.entries q, same_text q bs, nat_list_eq_equiv.symm q bs) (hash_map_updates_text bs m n w u q)

pub name_put : {R Y S : Type 0} → (m n : HashMap (String Y) (LiveLink R) S) (bs : List ℕ) (v : LiveLink R) → UpdatesBy string_eq (λ k. bytes_eq bs (string_bytes k)) m n (Some v) → names_of n.entries ≡ insert (names_of m.entries) bs v
name_put m n bs v u = same_map nat_list_cmp_total texts_apart _ _ (λ q. at_text m n bs (Some v) u q ∙ sym (get-insert nat_list_cmp_total (names_of m.entries) bs v q))

pub name_removed : {R Y S : Type 0} → (m n : HashMap (String Y) (LiveLink R) S) (bs : List ℕ) → UpdatesBy string_eq (λ k. bytes_eq bs (string_bytes k)) m n None → names_of n.entries ≡ remove (names_of m.entries) bs
name_removed m n bs u = same_map nat_list_cmp_total texts_apart _ _ (λ q. at_text m n bs None u q ∙ sym (get-remove nat_list_cmp_total (names_of m.entries) bs q))

-- what was found, and is lent
pub lent_some : {X : Type 0} → (r : Option (MutBor X)) (o : Option X) → option_copied_mut r ≡ o → IsSome o → IsSome r
lent_some (Some x) o e h = refl
lent_some None o e h = absurd (let x = subst IsSome (sym e) h in cc)

pub waited_some : {R : Type 0} → (o : Option (LiveLink R)) → IsWaited o → IsSome o
waited_some (Some n) h = refl
waited_some None h = absurd h
