-- Maps by numbers: an entry that stands at an index.
use Rattle.std.proofs.Common.{◌≡◌, ℕ, suc, zero, cond, List, [], ◌∷◌, Option, Some, None, refl, ap, sym, ◌∙◌, nat_eq, true, false, arith, slice_get, length, ◌<◌, get_or, IfSome}
use Rattle.std.proofs.lemmas.Bool.Decides.{nat_tests}
use Rattle.std.proofs.lemmas.List.Quantifiers.{position-Some}
use Rattle.std.proofs.lemmas.Grind.{common_steps}
use Rattle.std.proofs.lemmas.Map.Keys.{IsDistinct-head, IsDistinct-tail}
use Rattle.std.specs.List.{AllByRecursion, IsDistinct, position}
use Rattle.indexmap.specs.IndexMap.{set_value_at}
use Rattle.std.specs.Cmp.{nat_eq_equiv}
use Rattle.std.proofs.lemmas.Map.Entries.{lookup_from_place}
use Rattle.std.specs.Option.{option_map}
use Rattle.std.specs.Map.{keys_of, values_of, lookup, set_value}

abbrev key_in : {X : Type 0} → Option (ℕ × X) → ℕ
key_in None = 0
key_in (Some p) = p.0

entry_is : {X : Type 0} → (e : ℕ × X) (k : ℕ) (v : X) → Some e ≡ Some (k, v) → e.0 ≡ k
entry_is e k v h = ap key_in h

same_key : (k n : ℕ) → n ≡ k → nat_eq k n ≡ true
same_key k n h = grind (arith, nat_tests, common_steps)

same_number : (k n : ℕ) → nat_eq k n ≡ true → n ≡ k
same_number k n h = grind (arith, nat_tests, common_steps)

other_key : (k n : ℕ) → nat_eq n k ≡ false → nat_eq k n ≡ false
other_key k n h = grind (arith, nat_tests, common_steps)

-- a key that differs from all differs from that at an index
apart : {X : Type 0} → (n : ℕ) (es : List (ℕ × X)) (i k : ℕ) (v : X) → AllByRecursion (λ y. nat_eq n y ≡ false) (keys_of es) → slice_get es i ≡ Some (k, v) → nat_eq n k ≡ false
apart n [] i k v all h = absurd (cc)
apart n (e ∷ es) zero k v all h = ap (nat_eq n) (sym (entry_is e k v h)) ∙ all.0
apart n (e ∷ es) (suc i) k v all h = apart n es i k v all.1 h

-- to write at the index of a key is to write under the key
pub written_at : {X : Type 0} → (es : List (ℕ × X)) (i k : ℕ) (v w : X) → IsDistinct nat_eq (keys_of es) → slice_get es i ≡ Some (k, v) → set_value_at es i w ≡ set_value (nat_eq k) es w
written_at [] i k v w d h = refl
written_at (e ∷ es) zero k v w d h =
    ap (λ b. cond b ((e.0, w) ∷ es) (e ∷ set_value (nat_eq k) es w)) (sym (same_key k e.0 (entry_is e k v h)))
written_at (e ∷ es) (suc i) k v w d h =
    ap (λ rest. e ∷ rest) (written_at es i k v w (IsDistinct-tail nat_eq e.0 (keys_of es) d) h)
    ∙ ap (λ b. cond b ((e.0, w) ∷ es) (e ∷ set_value (nat_eq k) es w)) (sym (other_key k e.0 (apart e.0 es i k v (IsDistinct-head nat_eq e.0 (keys_of es) d) h)))

entry_of : {X : Type 0} → (es : List (ℕ × X)) (i k : ℕ) → i < length (keys_of es) → nat_eq k (get_or (keys_of es) i 0) ≡ true → (v : X) × (slice_get es i ≡ Some (k, v))
entry_of [] i k within t = absurd (omega (arith, within))
entry_of (e ∷ es) zero k within t = (e.1, ap (λ n. Some (n, e.1)) (same_number k e.0 t))
entry_of (e ∷ es) (suc i) k within t = entry_of es i k (omega (arith, within)) t

-- the entry at the index where the search of a key ends
pub found_at : {X : Type 0} → (es : List (ℕ × X)) (i k : ℕ) → position (nat_eq k) (keys_of es) ≡ Some i → (v : X) × (slice_get es i ≡ Some (k, v))
found_at es i k h = let s = position-Some (nat_eq k) (keys_of es) i 0 h in entry_of es i k s.0 s.1

pub found_in : {X : Type 0} → (es : List (ℕ × X)) (k : ℕ) (r : Option ℕ) → r ≡ position (nat_eq k) (keys_of es) → IfSome r (λ i. (v : X) × (slice_get es i ≡ Some (k, v)))
found_in es k None h = tt
found_in es k (Some i) h = found_at es i k (sym h)

-- the value that stands at an index, by its key
value_at : {X : Type 0} → (es : List (ℕ × X)) (i k : ℕ) (v : X) → slice_get es i ≡ Some (k, v) → slice_get (values_of es) i ≡ Some v
value_at [] i k v h = absurd (cc)
value_at (e ∷ es) zero k v h = ap (option_map (λ p. p.1)) h
value_at (e ∷ es) (suc i) k v h = value_at es i k v h

-- what is lent at the index of a key is what stands under the key, and is put back there
pub lent_at : {X : Type 0} → (es : List (ℕ × X)) (i k : ℕ) (v u : X) → IsDistinct nat_eq (keys_of es) → slice_get es i ≡ Some (k, v) → Some u ≡ slice_get (values_of es) i →
    (lookup (nat_eq k) es ≡ Some u) × ((w : X) → set_value_at es i w ≡ set_value (nat_eq k) es w)
lent_at es i k v u d there lent =
    (lookup_from_place nat_eq_equiv es i k v d there ∙ sym (value_at es i k v there) ∙ sym lent, λ w. written_at es i k v w d there)
