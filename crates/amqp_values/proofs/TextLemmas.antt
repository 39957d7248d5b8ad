-- Binaries, strings and symbols are read exactly by their grammar.
use Rattle.std.proofs.Common.{◌≡◌, ℕ, Bool, true, false, cond, eqb, List, [], ◌∷◌, ◌++◌, Option, Some, None, refl, sym, ap, subst, ◌∙◌, inl, inr}
use Rattle.std.specs.Str.{is_utf8}
use Rattle.std.proofs.lemmas.Bool.{eqb-true, eq-eqb}
use Rattle.amqp_values.specs.Text.{IsVar, var, var_at, binary_at, IsBinary, IsString, IsSymbol, is_ascii, tested_at, string_at, symbol_at}
use Rattle.amqp_values.proofs.ReaderLemmas.{IsFormat, bind_some, chosen, pair_is}
use Rattle.amqp_values.proofs.NumberLemmas.{headed}
use Rattle.amqp_values.proofs.RegionLemmas.{region_found, region_again}

pub var_found : (a b : ℕ) (bytes v rest : List ℕ) → var_at a b bytes ≡ Some (v, rest) → (text : List ℕ) × IsVar a b v text × (bytes ≡ text ++ rest)
unfolding var_at
var_found a b [] v rest e = absurd cc
var_found a b (c ∷ bytes) v rest e =
    elim (chosen (eqb c a) _ _ _ e) [
      | inl x ↦ let f = region_found false bytes v rest x.1 in (a ∷ f.0 ++ v, var false f.0 v f.1, headed c a bytes (f.0 ++ v) rest (eqb-true c a x.0) f.2)
      | inr x ↦ elim (chosen (eqb c b) _ _ _ x.1) [
        | inl y ↦ let f = region_found true bytes v rest y.1 in (b ∷ f.0 ++ v, var true f.0 v f.1, headed c b bytes (f.0 ++ v) rest (eqb-true c b y.0) f.2)
        | inr y ↦ absurd (let n = y.1 in cc)
      ]
    ]

pub var_again : (a b : ℕ) → eqb b a ≡ false → (v text rest : List ℕ) → IsVar a b v text → var_at a b (text ++ rest) ≡ Some (v, rest)
unfolding var_at
var_again a b apart v _ rest (var false len _ is) = rw (eq-eqb a a refl) (region_again false len v rest is)
var_again a b apart v _ rest (var true len _ is) = rw (apart, eq-eqb b b refl) (region_again true len v rest is)

no_var : (a b : ℕ) → eqb 0x40 a ≡ false → eqb 0x40 b ≡ false → (rest : List ℕ) → var_at a b (0x40 ∷ rest) ≡ None
unfolding var_at
no_var a b ea eb rest = rw (ea, eb) refl

-- a text that passes a test
tested_law : (test : List ℕ → Bool) (Is : List ℕ → List ℕ → Type 0) (at : List ℕ → Option (List ℕ × List ℕ)) → IsFormat Is at
    → IsFormat (λ v text. Is v text × (test v ≡ true)) (tested_at test at)
tested_law test Is at law = record {
  found = λ bytes v rest e.
      let b = bind_some (at bytes) (λ x. cond (test x.0) (Some x) None) (v, rest) e in
      elim (chosen (test b.0.0) _ _ _ b.2) [
        | inl t ↦
            let s = pair_is b.0.0 v b.0.1 rest t.1 in
            let f = law.found bytes b.0.0 b.0.1 b.1 in
            (f.0, (subst (λ (x : List ℕ). Is x f.0) s.0 f.1, ap test (sym s.0) ∙ t.0), f.2 ∙ ap (λ (x : List ℕ). f.0 ++ x) s.1)
        | inr t ↦ absurd (let n = t.1 in cc)
      ];
  again = λ v text rest h. rw (law.again v text rest h.0, h.1) refl;
  no_null = λ rest. rw (law.no_null rest) refl;
}

pub binary_format : IsFormat IsBinary binary_at
unfolding binary_at
binary_format = record { found = var_found 0xa0 0xb0; again = var_again 0xa0 0xb0 refl; no_null = no_var 0xa0 0xb0 refl refl }

pub string_format : IsFormat IsString string_at
unfolding string_at
string_format = tested_law is_utf8 (IsVar 0xa1 0xb1) (var_at 0xa1 0xb1) (record { found = var_found 0xa1 0xb1; again = var_again 0xa1 0xb1 refl; no_null = no_var 0xa1 0xb1 refl refl })

pub symbol_format : IsFormat IsSymbol symbol_at
unfolding symbol_at
symbol_format = tested_law is_ascii (IsVar 0xa3 0xb3) (var_at 0xa3 0xb3) (record { found = var_found 0xa3 0xb3; again = var_again 0xa3 0xb3 refl; no_null = no_var 0xa3 0xb3 refl refl })
