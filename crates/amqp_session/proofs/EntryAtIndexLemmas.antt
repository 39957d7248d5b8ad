-- The entry of a key that stands at an index.
use Rattle.std.proofs.Common.{◌≡◌, ℕ, suc, zero, cond, Bool, List, [], ◌∷◌, Option, Some, None, ap, sym, ◌∙◌, true, false, slice_get, refl}
use Rattle.std.proofs.lemmas.Map.Keys.{IsDistinct-head, IsDistinct-tail}
use Rattle.std.specs.Cmp.{IsEquivalence}
use Rattle.std.specs.List.{AllByRecursion, IsDistinct}
use Rattle.std.specs.Map.{keys_of, values_of, lookup, set_value}
use Rattle.indexmap.specs.IndexMap.{set_value_at}

abbrev key_or : {K X : Type 0} → K → Option (K × X) → K
key_or k None = k
key_or k (Some p) = p.0

-- a key that differs from all differs from that at an index
apart : {K X : Type 0} (R : K → K → Bool) (n : K) (es : List (K × X)) (i : ℕ) (k : K) (v : X) → AllByRecursion (λ y. R n y ≡ false) (keys_of es) → slice_get es i ≡ Some (k, v) → R n k ≡ false
apart R n [] i k v all h = absurd (cc)
apart R n (e ∷ es) zero k v all h = ap (R n) (sym (ap (key_or e.0) h)) ∙ all.0
apart R n (e ∷ es) (suc i) k v all h = apart R n es i k v all.1 h

-- no key before it equals it
earlier : {K X : Type 0} {R : K → K → Bool} → IsEquivalence R → (key : K) (e : K × X) (es : List (K × X)) (i : ℕ) (k : K) (v : X) → IsDistinct R (keys_of (e ∷ es)) →
    slice_get es i ≡ Some (k, v) → R key k ≡ true → R key e.0 ≡ false
earlier {R = R} o key e es i k v d h t =
    let others : R e.0 k ≡ false = apart R e.0 es i k v (IsDistinct-head R e.0 (keys_of es) d) h in
    o.congr key k e.0 t ∙ o.symm k e.0 ∙ others

-- to write there is to write under the key
pub written_first : {K X : Type 0} {R : K → K → Bool} → IsEquivalence R → (key : K) (es : List (K × X)) (i : ℕ) (k : K) (v w : X) → IsDistinct R (keys_of es) → slice_get es i ≡ Some (k, v) →
    R key k ≡ true → set_value_at es i w ≡ set_value (R key) es w
written_first o key [] i k v w d h t = refl
written_first {R = R} o key (e ∷ es) zero k v w d h t =
    sym (ap (λ b. cond b ((e.0, w) ∷ es) (e ∷ set_value (R key) es w)) (ap (R key) (ap (key_or e.0) h) ∙ t))
written_first {R = R} o key (e ∷ es) (suc i) k v w d h t =
    ap (λ rest. e ∷ rest) (written_first o key es i k v w (IsDistinct-tail R e.0 (keys_of es) d) h t)
    ∙ sym (ap (λ b. cond b ((e.0, w) ∷ es) (e ∷ set_value (R key) es w)) (earlier o key e es i k v d h t))

-- the value there is the one that a look-up finds
pub value_first : {K X : Type 0} {R : K → K → Bool} → IsEquivalence R → (key : K) (es : List (K × X)) (i : ℕ) (k : K) (v : X) → IsDistinct R (keys_of es) → slice_get es i ≡ Some (k, v) →
    R key k ≡ true → slice_get (values_of es) i ≡ lookup (R key) es
value_first o key [] i k v d h t = absurd (cc)
value_first {R = R} o key (e ∷ es) zero k v d h t = sym (ap (λ b. cond b (Some e.1) (lookup (R key) es)) (ap (R key) (ap (key_or e.0) h) ∙ t))
value_first {R = R} o key (e ∷ es) (suc i) k v d h t =
    value_first o key es i k v (IsDistinct-tail R e.0 (keys_of es) d) h t
    ∙ sym (ap (λ b. cond b (Some e.1) (lookup (R key) es)) (earlier o key e es i k v d h t))
