-- Reading a map is exactly the raw values whose code is that of a map.
use Rattle.std.proofs.Common.{◌≡◌, ℕ, true, false, cond, List, [], ◌∷◌, ◌++◌, Some, None, refl, sym, ap, subst, ◌∙◌, inl, inr}
use Rattle.std.proofs.lemmas.Bool.Decides.{eqb_tells}
use Rattle.amqp_values.specs.Raw.{HasMapCode, map8, map32, has_map_code, SpellsMap, raw_at, map_at}
use Rattle.amqp_values.proofs.ReaderLemmas.{IsFormat, bind_some, pair_is, chosen}
use Rattle.amqp_values.proofs.RawValueLemmas.{raw_format}

pub map_code : (bytes : List ℕ) → has_map_code bytes ≡ true → HasMapCode bytes
map_code [] e = absurd cc
map_code (code ∷ others) e = elim (eqb_tells code 0xc1) [
  | inl t ↦ subst (λ c. HasMapCode (c ∷ others)) (sym t.1) (map8 others)
  | inr t ↦ elim (eqb_tells code 0xd1) [
    | inl u ↦ subst (λ c. HasMapCode (c ∷ others)) (sym u.1) (map32 others)
    | inr u ↦ absurd (let f : false ≡ true = rw (t.0, u.0) at e in cc)
  ]
]

pub has_code : (bytes : List ℕ) → HasMapCode bytes → has_map_code bytes ≡ true
has_code _ (map8 others) = refl
has_code _ (map32 others) = refl

map_found : (bytes v rest : List ℕ) → map_at bytes ≡ Some (v, rest) → (text : List ℕ) × SpellsMap v text × (bytes ≡ text ++ rest)
unfolding map_at
map_found bytes v rest e =
    let r = bind_some (raw_at bytes) (λ x. cond (has_map_code x.0) (Some x) None) (v, rest) e in
    elim (chosen (has_map_code r.0.0) _ _ _ r.2) [
      | inl t ↦
          let s = pair_is r.0.0 v r.0.1 rest t.1 in
          let f = raw_format.found bytes r.0.0 r.0.1 r.1 in
          let code : HasMapCode f.0 = subst HasMapCode f.1.1 (map_code r.0.0 t.0) in
          (f.0, (record { raw = f.1.0; code = code }, sym s.0 ∙ f.1.1), f.2 ∙ ap (λ (x : List ℕ). f.0 ++ x) s.1)
      | inr t ↦ absurd (let n = t.1 in cc)
    ]

map_again : (v text rest : List ℕ) → SpellsMap v text → map_at (text ++ rest) ≡ Some (v, rest)
unfolding map_at
map_again v text rest h =
    let code : has_map_code v ≡ true = ap has_map_code h.1 ∙ has_code text h.0.code in
    rw (raw_format.again v text rest (h.0.raw, h.1), code) refl

map_no_null : (rest : List ℕ) → map_at (0x40 ∷ rest) ≡ None
unfolding map_at
map_no_null rest = rw (raw_format.no_null rest) refl

pub map_format : IsFormat SpellsMap map_at
map_format = record { found = map_found; again = map_again; no_null = map_no_null }
