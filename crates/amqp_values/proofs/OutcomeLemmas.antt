-- What is one raw value: the shortest text of an outcome, and the bytes that are tested for it.
use Rattle.std.proofs.Common.{◌≡◌, ℕ, true, false, List, [], ◌∷◌, Option, Some, None, refl, sym, ap, subst, ◌∙◌, inl, inr}
use Rattle.std.proofs.lemmas.Bool.{ne_eqb}
use Rattle.std.proofs.lemmas.List.{append-nil}
use Rattle.amqp_values.specs.Grammar.{IsValue, plain, described, fixed, list0}
use Rattle.amqp_values.specs.Outcome.{outcome_text}
use Rattle.amqp_values.specs.Raw.{IsRaw, begins_null, is_end, is_raw_text}
use Rattle.amqp_values.specs.Walk.{value_at}
use Rattle.amqp_values.proofs.ReaderLemmas.{chosen}
use Rattle.amqp_values.proofs.RawValueLemmas.{null_alone, value_is_read, value_reads}

pub outcome_is_raw : (n : ℕ) → IsRaw (outcome_text n)
outcome_is_raw n = record {
  value = described 63 (0x53 ∷ n ∷ []) (0x45 ∷ []) (plain 63 0x53 (n ∷ []) (fixed 63 (n ∷ []))) (plain 63 0x45 [] (list0 62));
  not_null = λ e. cc;
}

nothing_left : (o : Option (List ℕ)) → is_end o ≡ true → o ≡ Some []
nothing_left None e = absurd cc
nothing_left (Some []) e = refl
nothing_left (Some (b ∷ bytes)) e = absurd cc

one_value : (bytes : List ℕ) → is_end (value_at 64 bytes) ≡ true → IsValue 64 bytes
one_value bytes e =
    let f = value_reads 64 bytes [] (nothing_left (value_at 64 bytes) e) in
    subst (IsValue 64) (sym (f.2 ∙ append-nil f.0)) f.1

pub raw_text_is_raw : (bytes : List ℕ) → is_raw_text bytes ≡ true → IsRaw bytes
unfolding is_raw_text
raw_text_is_raw bytes e = elim (chosen (begins_null bytes) false (is_end (value_at 64 bytes)) true e) [
  | inl h ↦ absurd (let n : false ≡ true = h.1 in cc)
  | inr h ↦ record {
    value = one_value bytes h.1;
    not_null = λ null. let n : true ≡ false = sym (ap begins_null null) ∙ h.0 in cc;
  }
]

whole : (bytes : List ℕ) → IsRaw bytes → is_end (value_at 64 bytes) ≡ true
whole bytes r = ap is_end (ap (value_at 64) (sym (append-nil bytes)) ∙ value_is_read 64 bytes r.value [])

no_null : (bytes : List ℕ) → IsRaw bytes → begins_null bytes ≡ false
no_null [] r = refl
no_null (c ∷ others) r = ne_eqb _ _ (λ null.
    let v : IsValue 64 (0x40 ∷ others) = subst (λ n. IsValue 64 (n ∷ others)) null r.value in
    r.not_null (ap (λ n. n ∷ others) null ∙ ap (λ (x : List ℕ). 0x40 ∷ x) (null_alone 64 others v)))

pub raw_is_raw_text : (bytes : List ℕ) → IsRaw bytes → is_raw_text bytes ≡ true
unfolding is_raw_text
raw_is_raw_text bytes r = rw (no_null bytes r, whole bytes r) refl

pub other_text_is_not : (bytes : List ℕ) → is_raw_text bytes ≡ false → IsRaw bytes → ⊥
other_text_is_not bytes e r = let n : true ≡ false = sym (raw_is_raw_text bytes r) ∙ e in cc
