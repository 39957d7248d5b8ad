-- Each number's reader is exactly its grammar.
use Rattle.std.proofs.Common.{◌≡◌, ℕ, Bool, true, false, eqb, List, [], ◌∷◌, ◌++◌, length, Some, refl, sym, ap, subst, ◌∙◌, inl, inr}
use Rattle.std.specs.Int.{Width, w16, w32, w64, byte_len, from_be_bytes}
use Rattle.std.proofs.lemmas.Bool.{eqb-true}
use Rattle.amqp_values.specs.Number.{IsUbyte, ubyte, ubyte_at, IsUshort, ushort, ushort_at, three_at}
use Rattle.amqp_values.specs.Number.{IsUint, uint0, small_uint, uint, uint_at, IsUlong, ulong0, small_ulong, ulong, ulong_at}
use Rattle.amqp_values.specs.Number.{IsBoolean, is_true, is_false, byte_true, byte_false, flag_at, boolean_at}
use Rattle.amqp_values.proofs.ReaderLemmas.{IsFormat, chosen, pair_is}
use Rattle.amqp_values.proofs.RegionLemmas.{byte_found, number_found, number_again}

pub headed : (c k : ℕ) (bytes text rest : List ℕ) → c ≡ k → bytes ≡ text ++ rest → ◌≡◌ {A = List ℕ} (c ∷ bytes) (k ∷ text ++ rest)
headed c k bytes text rest e f = ap (λ x. x ∷ bytes) e ∙ ap (λ (x : List ℕ). k ∷ x) f

-- a number with three codes: for zero, for one byte, and for its whole width
three_found : (Is : ℕ → List ℕ → Type 0) (nought small long : ℕ) (w : Width) → Is 0 (nought ∷ [])
    → ((n : ℕ) → Is n (small ∷ n ∷ []))
    → ((text : List ℕ) → length text ≡ byte_len w → Is (from_be_bytes w text) (long ∷ text))
    → (bytes : List ℕ) (v : ℕ) (rest : List ℕ) → three_at nought small long w bytes ≡ Some (v, rest)
    → (text : List ℕ) × Is v text × (bytes ≡ text ++ rest)
three_found Is nought small long w is_zero is_small is_long [] v rest e = absurd cc
three_found Is nought small long w is_zero is_small is_long (c ∷ bytes) v rest e =
    elim (chosen (eqb c nought) _ _ _ e) [
      | inl a ↦
          let s = pair_is 0 v bytes rest a.1 in
          (nought ∷ [], subst (λ n. Is n (nought ∷ [])) s.0 is_zero, headed c nought bytes [] rest (eqb-true c nought a.0) s.1)
      | inr a ↦ elim (chosen (eqb c small) _ _ _ a.1) [
        | inl b ↦
            let f = byte_found bytes v rest b.1 in
            (small ∷ v ∷ [], is_small v, headed c small bytes (v ∷ []) rest (eqb-true c small b.0) f)
        | inr b ↦ elim (chosen (eqb c long) _ _ _ b.1) [
          | inl d ↦
              let f = number_found w bytes v rest d.1 in
              let is : Is v (long ∷ f.0) = subst (λ n. Is n (long ∷ f.0)) (sym f.2) (is_long f.0 f.1) in
              (long ∷ f.0, is, headed c long bytes f.0 rest (eqb-true c long d.0) f.3)
          | inr d ↦ absurd (let n = d.1 in cc)
        ]
      ]
    ]

uint_found : (bytes : List ℕ) (v : ℕ) (rest : List ℕ) → uint_at bytes ≡ Some (v, rest)
    → (text : List ℕ) × IsUint v text × (bytes ≡ text ++ rest)
unfolding uint_at
uint_found = three_found IsUint 0x43 0x52 0x70 w32 uint0 small_uint uint

uint_again : (v : ℕ) (text rest : List ℕ) → IsUint v text → uint_at (text ++ rest) ≡ Some (v, rest)
unfolding uint_at
uint_again _ _ rest uint0 = refl
uint_again _ _ rest (small_uint n) = refl
uint_again _ _ rest (uint bytes len) = number_again w32 bytes rest len

pub uint_format : IsFormat IsUint uint_at
unfolding uint_at
uint_format = record { found = uint_found; again = uint_again; no_null = λ rest. refl }

ushort_found : (bytes : List ℕ) (v : ℕ) (rest : List ℕ) → ushort_at bytes ≡ Some (v, rest) → (text : List ℕ) × IsUshort v text × (bytes ≡ text ++ rest)
unfolding ushort_at
ushort_found [] v rest e = absurd cc
ushort_found (c ∷ bytes) v rest e =
    elim (chosen (eqb c 0x60) _ _ _ e) [
      | inl d ↦ let k = eqb-true c 0x60 d.0 in let f = number_found w16 bytes v rest d.1 in (0x60 ∷ f.0, subst (λ n. IsUshort n (0x60 ∷ f.0)) (sym f.2) (ushort f.0 f.1), headed c 0x60 bytes f.0 rest k f.3)
      | inr d ↦ absurd (let n = d.1 in cc)
    ]

ushort_again : (v : ℕ) (text rest : List ℕ) → IsUshort v text → ushort_at (text ++ rest) ≡ Some (v, rest)
unfolding ushort_at
ushort_again _ _ rest (ushort bytes len) = number_again w16 bytes rest len

pub ushort_format : IsFormat IsUshort ushort_at
unfolding ushort_at
ushort_format = record { found = ushort_found; again = ushort_again; no_null = λ rest. refl }

flag_found : (bytes : List ℕ) (v : Bool) (rest : List ℕ) → flag_at bytes ≡ Some (v, rest) → (text : List ℕ) × IsBoolean v (0x56 ∷ text) × (bytes ≡ text ++ rest)
flag_found [] v rest e = absurd cc
flag_found (c ∷ bytes) v rest e =
    elim (chosen (eqb c 0) _ _ _ e) [
      | inl x ↦ let s = pair_is false v bytes rest x.1 in (0 ∷ [], subst (λ b. IsBoolean b (0x56 ∷ 0 ∷ [])) s.0 byte_false, headed c 0 bytes [] rest (eqb-true c 0 x.0) s.1)
      | inr x ↦ elim (chosen (eqb c 1) _ _ _ x.1) [
        | inl y ↦ let s = pair_is true v bytes rest y.1 in (1 ∷ [], subst (λ b. IsBoolean b (0x56 ∷ 1 ∷ [])) s.0 byte_true, headed c 1 bytes [] rest (eqb-true c 1 y.0) s.1)
        | inr y ↦ absurd (let n = y.1 in cc)
      ]
    ]

boolean_found : (bytes : List ℕ) (v : Bool) (rest : List ℕ) → boolean_at bytes ≡ Some (v, rest) → (text : List ℕ) × IsBoolean v text × (bytes ≡ text ++ rest)
unfolding boolean_at
boolean_found [] v rest e = absurd cc
boolean_found (c ∷ bytes) v rest e =
    elim (chosen (eqb c 0x41) _ _ _ e) [
      | inl x ↦ let s = pair_is true v bytes rest x.1 in (0x41 ∷ [], subst (λ b. IsBoolean b (0x41 ∷ [])) s.0 is_true, headed c 0x41 bytes [] rest (eqb-true c 0x41 x.0) s.1)
      | inr x ↦ elim (chosen (eqb c 0x42) _ _ _ x.1) [
        | inl y ↦ let s = pair_is false v bytes rest y.1 in (0x42 ∷ [], subst (λ b. IsBoolean b (0x42 ∷ [])) s.0 is_false, headed c 0x42 bytes [] rest (eqb-true c 0x42 y.0) s.1)
        | inr y ↦ elim (chosen (eqb c 0x56) _ _ _ y.1) [
          | inl z ↦ let f = flag_found bytes v rest z.1 in (0x56 ∷ f.0, f.1, headed c 0x56 bytes f.0 rest (eqb-true c 0x56 z.0) f.2)
          | inr z ↦ absurd (let n = z.1 in cc)
        ]
      ]
    ]

boolean_again : (v : Bool) (text rest : List ℕ) → IsBoolean v text → boolean_at (text ++ rest) ≡ Some (v, rest)
unfolding boolean_at
boolean_again _ _ rest is_true = refl
boolean_again _ _ rest is_false = refl
boolean_again _ _ rest byte_true = refl
boolean_again _ _ rest byte_false = refl

pub boolean_format : IsFormat IsBoolean boolean_at
unfolding boolean_at
boolean_format = record { found = boolean_found; again = boolean_again; no_null = λ rest. refl }

ulong_found : (bytes : List ℕ) (v : ℕ) (rest : List ℕ) → ulong_at bytes ≡ Some (v, rest)
    → (text : List ℕ) × IsUlong v text × (bytes ≡ text ++ rest)
unfolding ulong_at
ulong_found = three_found IsUlong 0x44 0x53 0x80 w64 ulong0 small_ulong ulong

ulong_again : (v : ℕ) (text rest : List ℕ) → IsUlong v text → ulong_at (text ++ rest) ≡ Some (v, rest)
unfolding ulong_at
ulong_again _ _ rest ulong0 = refl
ulong_again _ _ rest (small_ulong n) = refl
ulong_again _ _ rest (ulong bytes len) = number_again w64 bytes rest len

pub ulong_format : IsFormat IsUlong ulong_at
unfolding ulong_at
ulong_format = record { found = ulong_found; again = ulong_again; no_null = λ rest. refl }

ubyte_found : (bytes : List ℕ) (v : ℕ) (rest : List ℕ) → ubyte_at bytes ≡ Some (v, rest) → (text : List ℕ) × IsUbyte v text × (bytes ≡ text ++ rest)
unfolding ubyte_at
ubyte_found [] v rest e = absurd cc
ubyte_found (c ∷ bytes) v rest e =
    elim (chosen (eqb c 0x50) _ _ _ e) [
      | inl d ↦ (0x50 ∷ v ∷ [], ubyte v, headed c 0x50 bytes (v ∷ []) rest (eqb-true c 0x50 d.0) (byte_found bytes v rest d.1))
      | inr d ↦ absurd (let n = d.1 in cc)
    ]

ubyte_again : (v : ℕ) (text rest : List ℕ) → IsUbyte v text → ubyte_at (text ++ rest) ≡ Some (v, rest)
unfolding ubyte_at
ubyte_again _ _ rest (ubyte n) = refl

pub ubyte_format : IsFormat IsUbyte ubyte_at
unfolding ubyte_at
ubyte_format = record { found = ubyte_found; again = ubyte_again; no_null = λ rest. refl }
