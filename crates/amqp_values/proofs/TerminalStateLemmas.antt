-- The test of a descriptor tells whether it stands for a terminal state.
use Rattle.std.proofs.Common.{◌≡◌, ℕ, Bool, true, false, eqb, ◌||◌, ◌&&◌, List, [], ◌∷◌, ◌++◌, length, Option, Some, None, refl, sym, ap, subst, ◌∙◌, inl, inr, ◌⊎◌}
use Rattle.std.specs.Prelude.{codes, IsTrue, ◌↔◌}
use Rattle.std.specs.Int.{w64, from_be_bytes}
use Rattle.std.specs.Str.{bytes_eq}
use Rattle.std.proofs.lemmas.Bool.{eq-eqb, eqb-true}
use Rattle.std.proofs.lemmas.List.{append-nil}
use Rattle.std.proofs.lemmas.Slice.Eq.{bytes_eq-Decides}
use Rattle.amqp_values.specs.Reading.{region_at, is_empty, IsNumber}
use Rattle.amqp_values.specs.Outcome.{IsOutcome, accepted, rejected, released, modified, StandsFor, small_number, large_number, short_name, long_name}
use Rattle.amqp_values.specs.Outcome.{has_outcome_number, has_outcome_name, spells_small, spells_large, spells_name, is_whole_name, spells_outcome, stands_for_outcome, IsTerminal}
use Rattle.amqp_values.specs.Parts.{IsDescribed}
use Rattle.amqp_values.proofs.ReaderLemmas.{chosen}
use Rattle.amqp_values.proofs.RawValueLemmas.{one_front}
use Rattle.amqp_values.proofs.CompoundLemmas.{empty_is, region_all}
use Rattle.amqp_values.proofs.RegionLemmas.{region_found}

both_of : (a b : Bool) → (a && b) ≡ true → (a ≡ true) × (b ≡ true)
both_of true b e = (refl, e)
both_of false b e = absurd cc

-- ---- numbers and names

one_of : (a b c d : Bool) → (a || b || c || d) ≡ true → (a ≡ true) ⊎ ((b ≡ true) ⊎ ((c ≡ true) ⊎ (d ≡ true)))
one_of true b c d e = inl refl
one_of false true c d e = inr (inl refl)
one_of false false true d e = inr (inr (inl refl))
one_of false false false d e = inr (inr (inr e))

numbered : (n : ℕ) → has_outcome_number n ≡ true → (name : List ℕ) × IsOutcome n name
numbered n e = elim (one_of (eqb n 0x24) (eqb n 0x25) (eqb n 0x26) (eqb n 0x27) e) [
  | inl t ↦ (codes "amqp:accepted:list", subst (λ m. IsOutcome m (codes "amqp:accepted:list")) (sym (eqb-true n 0x24 t)) accepted)
  | inr s ↦ elim s [
    | inl t ↦ (codes "amqp:rejected:list", subst (λ m. IsOutcome m (codes "amqp:rejected:list")) (sym (eqb-true n 0x25 t)) rejected)
    | inr r ↦ elim r [
      | inl t ↦ (codes "amqp:released:list", subst (λ m. IsOutcome m (codes "amqp:released:list")) (sym (eqb-true n 0x26 t)) released)
      | inr t ↦ (codes "amqp:modified:list", subst (λ m. IsOutcome m (codes "amqp:modified:list")) (sym (eqb-true n 0x27 t)) modified)
    ]
  ]
]

same : (a b : List ℕ) → bytes_eq a b ≡ true → b ≡ a
same a b e = sym ((bytes_eq-Decides a b).0 e)

named : (name : List ℕ) → has_outcome_name name ≡ true → (n : ℕ) × IsOutcome n name
named name e = elim (one_of (bytes_eq name (codes "amqp:accepted:list")) (bytes_eq name (codes "amqp:rejected:list")) (bytes_eq name (codes "amqp:released:list")) (bytes_eq name (codes "amqp:modified:list")) e) [
  | inl t ↦ (0x24, subst (IsOutcome 0x24) (same name _ t) accepted)
  | inr s ↦ elim s [
    | inl t ↦ (0x25, subst (IsOutcome 0x25) (same name _ t) rejected)
    | inr r ↦ elim r [
      | inl t ↦ (0x26, subst (IsOutcome 0x26) (same name _ t) released)
      | inr t ↦ (0x27, subst (IsOutcome 0x27) (same name _ t) modified)
    ]
  ]
]

number_true : (n : ℕ) (name : List ℕ) → IsOutcome n name → has_outcome_number n ≡ true
number_true _ _ accepted = refl
number_true _ _ rejected = refl
number_true _ _ released = refl
number_true _ _ modified = refl

name_true : (n : ℕ) (name : List ℕ) → IsOutcome n name → has_outcome_name name ≡ true
name_true _ _ accepted = refl
name_true _ _ rejected = refl
name_true _ _ released = refl
name_true _ _ modified = refl

-- ---- descriptors

abbrev Stands : List ℕ → Type 0
Stands descriptor = (n : ℕ) × (name : List ℕ) × StandsFor n name descriptor × IsOutcome n name

small_found : (bytes : List ℕ) → spells_small bytes ≡ true → Stands (0x53 ∷ bytes)
small_found [] e = absurd cc
small_found (n ∷ others) e =
    let b = both_of (is_empty others) (has_outcome_number n) e in
    let o = numbered n b.1 in
    (n, o.0, subst (λ (x : List ℕ). StandsFor n o.0 (0x53 ∷ n ∷ x)) (sym (empty_is others b.0)) (small_number n o.0), o.1)

large_found : (bytes : List ℕ) → spells_large bytes ≡ true → Stands (0x80 ∷ bytes)
large_found bytes e = elim (chosen (eqb (length bytes) 8) (has_outcome_number (from_be_bytes w64 bytes)) false true e) [
  | inl t ↦ let o = numbered (from_be_bytes w64 bytes) t.1 in (from_be_bytes w64 bytes, o.0, large_number o.0 bytes (eqb-true _ _ t.0), o.1)
  | inr t ↦ absurd (let f = t.1 in cc)
]

whole_name : (o : Option (List ℕ × List ℕ)) → is_whole_name o ≡ true → (name : List ℕ) × (o ≡ Some (name, [])) × (has_outcome_name name ≡ true)
whole_name None e = absurd cc
whole_name (Some x) e =
    let b = both_of (is_empty x.1) (has_outcome_name x.0) e in
    (x.0, ap (λ (r : List ℕ). Some (x.0, r)) (empty_is x.1 b.0), b.1)

name_found : (wide : Bool) (bytes : List ℕ) → spells_name wide bytes ≡ true
    → (n : ℕ) × (name : List ℕ) × (size : List ℕ) × IsNumber wide size (length name) × (bytes ≡ size ++ name) × IsOutcome n name
unfolding spells_name
name_found wide bytes e =
    let w = whole_name (region_at wide bytes) e in
    let f = region_found wide bytes w.0 [] w.1 in
    let o = named w.0 w.2 in
    (o.0, w.0, f.0, f.1, f.2 ∙ append-nil (f.0 ++ w.0), o.1)

short_found : (bytes : List ℕ) → spells_name false bytes ≡ true → Stands (0xa3 ∷ bytes)
short_found bytes e =
    let f = name_found false bytes e in
    (f.0, f.1, subst (λ (x : List ℕ). StandsFor f.0 f.1 (0xa3 ∷ x)) (sym f.4) (short_name f.0 f.1 f.2 f.3), f.5)

long_found : (bytes : List ℕ) → spells_name true bytes ≡ true → Stands (0xb3 ∷ bytes)
long_found bytes e =
    let f = name_found true bytes e in
    (f.0, f.1, subst (λ (x : List ℕ). StandsFor f.0 f.1 (0xb3 ∷ x)) (sym f.4) (long_name f.0 f.1 f.2 f.3), f.5)

coded : (code k : ℕ) (bytes : List ℕ) → eqb code k ≡ true → Stands (k ∷ bytes) → Stands (code ∷ bytes)
coded code k bytes e s = subst (λ c. Stands (c ∷ bytes)) (sym (eqb-true code k e)) s

stands_found : (descriptor : List ℕ) → stands_for_outcome descriptor ≡ true → Stands descriptor
unfolding spells_outcome
stands_found [] e = absurd cc
stands_found (code ∷ bytes) e = elim (chosen (eqb code 0x53) _ _ true e) [
  | inl t ↦ coded code 0x53 bytes t.0 (small_found bytes t.1)
  | inr a ↦ elim (chosen (eqb code 0x80) _ _ true a.1) [
    | inl t ↦ coded code 0x80 bytes t.0 (large_found bytes t.1)
    | inr b ↦ elim (chosen (eqb code 0xa3) _ _ true b.1) [
      | inl t ↦ coded code 0xa3 bytes t.0 (short_found bytes t.1)
      | inr c ↦ elim (chosen (eqb code 0xb3) _ _ true c.1) [
        | inl t ↦ coded code 0xb3 bytes t.0 (long_found bytes t.1)
        | inr d ↦ absurd (let f = d.1 in cc)
      ]
    ]
  ]
]

stands_again : (n : ℕ) (name descriptor : List ℕ) → StandsFor n name descriptor → IsOutcome n name → stands_for_outcome descriptor ≡ true
unfolding spells_outcome spells_name
stands_again _ _ _ (small_number n name) o = number_true n name o
stands_again _ _ _ (large_number name bytes len) o = rw (eq-eqb _ _ len) (number_true (from_be_bytes w64 bytes) name o)
stands_again _ _ _ (short_name n name size h) o = rw (region_all false size name h) (name_true n name o)
stands_again _ _ _ (long_name n name size h) o = rw (region_all true size name h) (name_true n name o)

-- ---- the public clause

pub terminal_by : (bytes descriptor inner : List ℕ) → IsDescribed bytes descriptor inner → (r : Bool) → r ≡ stands_for_outcome descriptor → IsTrue r ↔ IsTerminal bytes
terminal_by bytes descriptor inner h r e = (to, from)
  where
    to : r ≡ true → IsTerminal bytes
    to t = let s = stands_found descriptor (sym e ∙ t) in
        record { descriptor = descriptor; inner = inner; number = s.0; name = s.1; described = h; stands = s.2; outcome = s.3 }

    from : IsTerminal bytes → r ≡ true
    from t =
        let joins : ◌≡◌ {A = List ℕ} (0x00 ∷ t.descriptor ++ t.inner) (0x00 ∷ descriptor ++ inner) = sym t.described.whole ∙ h.whole in
        let after : t.descriptor ++ t.inner ≡ descriptor ++ inner = cc in
        let front = one_front 64 t.descriptor descriptor t.inner inner t.described.descriptor_is h.descriptor_is after in
        e ∙ ap stands_for_outcome (sym front.0) ∙ stands_again t.number t.name t.descriptor t.stands t.outcome
