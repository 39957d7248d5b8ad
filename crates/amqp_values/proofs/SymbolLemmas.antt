-- Multiple symbols are read exactly by their grammar.
use Rattle.std.proofs.Common.{◌≡◌, ℕ, zero, suc, Bool, true, false, cond, eqb, List, [], ◌∷◌, ◌++◌, length, Some, None, refl, sym, ap, subst, ◌∙◌, inl, inr}
use Rattle.std.proofs.lemmas.Bool.{eqb-true}
use Rattle.std.proofs.lemmas.List.{append-nil}
use Rattle.amqp_values.specs.Reading.{◌>>=◌, count_at, region_at, is_empty, IsNumber}
use Rattle.amqp_values.specs.Text.{by_width, is_ascii}
use Rattle.amqp_values.specs.Symbols.{IsRun, no_symbols, more_symbols, IsSymbols, one_symbol, array, bare, item_at, run_at, all_at, array_at, alone_at, symbols_at}
use Rattle.amqp_values.proofs.ReaderLemmas.{IsFormat, bind_some, chosen, pair_is, some_is}
use Rattle.amqp_values.proofs.NumberLemmas.{headed}
use Rattle.amqp_values.proofs.RegionLemmas.{count_found, count_again, region_found, region_again}

nothing_is : (bytes : List ℕ) → is_empty bytes ≡ true → bytes ≡ []
nothing_is [] e = refl
nothing_is (b ∷ bytes) e = absurd cc

item_found : (long : Bool) (bytes s rest : List ℕ) → item_at long bytes ≡ Some (s, rest)
    → (len : List ℕ) × IsNumber long len (length s) × (is_ascii s ≡ true) × (bytes ≡ (len ++ s) ++ rest)
unfolding item_at
item_found long bytes s rest e =
    let b = bind_some (region_at long bytes) (λ x. cond (is_ascii x.0) (Some x) None) (s, rest) e in
    elim (chosen (is_ascii b.0.0) _ _ _ b.2) [
      | inl t ↦
          let p = pair_is b.0.0 s b.0.1 rest t.1 in
          let f = region_found long bytes b.0.0 b.0.1 b.1 in (
            f.0,
            subst (λ (x : List ℕ). IsNumber long f.0 (length x)) p.0 f.1,
            ap is_ascii (sym p.0) ∙ t.0,
            f.2 ∙ ap (λ (x : List ℕ). (f.0 ++ x) ++ b.0.1) p.0 ∙ ap (λ (x : List ℕ). (f.0 ++ s) ++ x) p.1,
          )
      | inr t ↦ absurd (let n = t.1 in cc)
    ]

item_again : (long : Bool) (len s rest : List ℕ) → IsNumber long len (length s) → is_ascii s ≡ true → item_at long ((len ++ s) ++ rest) ≡ Some (s, rest)
unfolding item_at
item_again long len s rest h a = rw (region_again long len s rest h, a) refl

run_found : (n : ℕ) (long : Bool) (bytes : List ℕ) (items : List (List ℕ)) → run_at n long bytes ≡ Some items → IsRun long items bytes × (length items ≡ n)
unfolding run_at
run_found zero long bytes items e = elim (chosen (is_empty bytes) _ _ _ e) [
  | inl t ↦
      let none : [] ≡ items = some_is [] items t.1 in
      (subst (λ (x : List ℕ). IsRun long items x) (sym (nothing_is bytes t.0)) (subst (λ (x : List (List ℕ)). IsRun long x []) none no_symbols), ap length (sym none))
  | inr t ↦ absurd (let n = t.1 in cc)
]
run_found (suc n) long bytes items e =
    let x = bind_some (item_at long bytes) (λ x. run_at n long x.1 >>= λ others. Some (x.0 ∷ others)) items e in
    let o = bind_some (run_at n long x.0.1) (λ others. Some (x.0.0 ∷ others)) items x.2 in
    let same : x.0.0 ∷ o.0 ≡ items = some_is (x.0.0 ∷ o.0) items o.2 in
    let f = item_found long bytes x.0.0 x.0.1 x.1 in
    let r = run_found n long x.0.1 o.0 o.1 in
    (subst (λ (y : List ℕ). IsRun long items y) (sym f.3) (subst (λ (y : List (List ℕ)). IsRun long y ((f.0 ++ x.0.0) ++ x.0.1)) same (more_symbols f.0 x.0.0 o.0 x.0.1 f.1 f.2 r.0)), ap length (sym same) ∙ ap suc r.1)

run_again : (long : Bool) (items : List (List ℕ)) (text : List ℕ) → IsRun long items text → run_at (length items) long text ≡ Some items
unfolding run_at
run_again long _ _ no_symbols = refl
run_again long _ _ (more_symbols len s others text h a r) = rw (item_again long len s text h a, run_again long others text r) refl

-- the region of an array after its count
pub data IsAll : List (List ℕ) → List ℕ → Type 0 where
  with_constructor : (long : Bool) (items : List (List ℕ)) (text : List ℕ) → IsRun long items text → IsAll items (by_width long 0xa3 0xb3 ∷ text)
  without : IsAll [] []

all_found : (n : ℕ) (bytes : List ℕ) (items : List (List ℕ)) → all_at n bytes ≡ Some items → IsAll items bytes × (length items ≡ n)
unfolding all_at
all_found n [] items e = elim (chosen (eqb n 0) _ _ _ e) [
  | inl t ↦ let none : [] ≡ items = some_is [] items t.1 in (subst (λ (x : List (List ℕ)). IsAll x []) none without, ap length (sym none) ∙ sym (eqb-true n 0 t.0))
  | inr t ↦ absurd (let n = t.1 in cc)
]
all_found n (c ∷ bytes) items e = elim (chosen (eqb c 0xa3) _ _ _ e) [
  | inl t ↦ let r = run_found n false bytes items t.1 in (subst (λ d. IsAll items (d ∷ bytes)) (sym (eqb-true c 0xa3 t.0)) (with_constructor false items bytes r.0), r.1)
  | inr t ↦ elim (chosen (eqb c 0xb3) _ _ _ t.1) [
    | inl u ↦ let r = run_found n true bytes items u.1 in (subst (λ d. IsAll items (d ∷ bytes)) (sym (eqb-true c 0xb3 u.0)) (with_constructor true items bytes r.0), r.1)
    | inr u ↦ absurd (let n = u.1 in cc)
  ]
]

all_again : (items : List (List ℕ)) (bytes : List ℕ) → IsAll items bytes → all_at (length items) bytes ≡ Some items
unfolding all_at
all_again items _ (with_constructor false _ text r) = run_again false items text r
all_again items _ (with_constructor true _ text r) = run_again true items text r
all_again _ _ without = refl

array_found : (wide : Bool) (bytes : List ℕ) (items : List (List ℕ)) (rest : List ℕ) → array_at wide bytes ≡ Some (items, rest)
    → (text : List ℕ) × IsSymbols items (by_width wide 0xe0 0xf0 ∷ text) × (bytes ≡ text ++ rest)
unfolding array_at
array_found wide bytes items rest e =
    let r = bind_some (region_at wide bytes) (λ r. count_at wide r.0 >>= λ n. all_at n.0 n.1 >>= λ items. Some (items, r.1)) (items, rest) e in
    let c = bind_some (count_at wide r.0.0) (λ n. all_at n.0 n.1 >>= λ items. Some (items, r.0.1)) (items, rest) r.2 in
    let a = bind_some (all_at c.0.0 c.0.1) (λ items. Some (items, r.0.1)) (items, rest) c.2 in
    let p = pair_is a.0 items r.0.1 rest a.2 in
    let f = region_found wide bytes r.0.0 r.0.1 r.1 in
    let n = count_found wide r.0.0 c.0.0 c.0.1 c.1 in
    let h = all_found c.0.0 c.0.1 a.0 a.1 in
    let size_is : IsNumber wide f.0 (length (n.0 ++ c.0.1)) = subst (λ (x : List ℕ). IsNumber wide f.0 (length x)) n.2 f.1 in
    let count_is : IsNumber wide n.0 (length items) = subst (λ m. IsNumber wide n.0 m) (sym h.1 ∙ ap length p.0) n.1 in
    let whole : bytes ≡ (f.0 ++ (n.0 ++ c.0.1)) ++ rest = f.2 ∙ ap (λ (x : List ℕ). (f.0 ++ x) ++ r.0.1) n.2 ∙ ap (λ (x : List ℕ). (f.0 ++ (n.0 ++ c.0.1)) ++ x) p.1 in
    (f.0 ++ (n.0 ++ c.0.1), in_array wide f.0 n.0 items c.0.1 size_is count_is (subst (λ (x : List (List ℕ)). IsAll x c.0.1) p.0 h.0), whole)
  where
    in_array : (wide : Bool) (size count : List ℕ) (items : List (List ℕ)) (body : List ℕ) → IsNumber wide size (length (count ++ body)) → IsNumber wide count (length items) → IsAll items body
        → IsSymbols items (by_width wide 0xe0 0xf0 ∷ size ++ (count ++ body))
    in_array wide size count items _ s c (with_constructor long _ text r) = array wide long size count items text s c r
    in_array wide size count _ _ s c without =
        let same : count ++ [] ≡ count = append-nil count in
        subst (λ (x : List ℕ). IsSymbols [] (by_width wide 0xe0 0xf0 ∷ size ++ x)) (sym same) (bare wide size count (subst (λ (x : List ℕ). IsNumber wide size (length x)) same s) c)

array_again : (wide : Bool) (size count : List ℕ) (items : List (List ℕ)) (body rest : List ℕ) → IsNumber wide size (length (count ++ body)) → IsNumber wide count (length items) → IsAll items body
    → array_at wide ((size ++ (count ++ body)) ++ rest) ≡ Some (items, rest)
unfolding array_at
array_again wide size count items body rest s c h = rw (region_again wide size (count ++ body) rest s, count_again wide count (length items) body c, all_again items body h) refl

bare_again : (wide : Bool) (size count rest : List ℕ) → IsNumber wide size (length count) → IsNumber wide count 0 → array_at wide ((size ++ count) ++ rest) ≡ Some ([], rest)
bare_again wide size count rest s c =
    let same : count ++ [] ≡ count = append-nil count in
    ap (λ (x : List ℕ). array_at wide ((size ++ x) ++ rest)) (sym same) ∙ array_again wide size count [] [] rest (subst (λ (x : List ℕ). IsNumber wide size (length x)) (sym same) s) c without

alone_found : (long : Bool) (bytes : List ℕ) (items : List (List ℕ)) (rest : List ℕ) → alone_at long bytes ≡ Some (items, rest)
    → (text : List ℕ) × IsSymbols items (by_width long 0xa3 0xb3 ∷ text) × (bytes ≡ text ++ rest)
alone_found long bytes items rest e =
    let x = bind_some (item_at long bytes) (λ x. Some (x.0 ∷ [], x.1)) (items, rest) e in
    let p = pair_is (x.0.0 ∷ []) items x.0.1 rest x.2 in
    let f = item_found long bytes x.0.0 x.0.1 x.1 in
    (f.0 ++ x.0.0, subst (λ (y : List (List ℕ)). IsSymbols y (by_width long 0xa3 0xb3 ∷ f.0 ++ x.0.0)) p.0 (one_symbol long f.0 x.0.0 f.1 f.2), f.3 ∙ ap (λ (y : List ℕ). (f.0 ++ x.0.0) ++ y) p.1)

symbols_found : (bytes : List ℕ) (v : List (List ℕ)) (rest : List ℕ) → symbols_at bytes ≡ Some (v, rest) → (text : List ℕ) × IsSymbols v text × (bytes ≡ text ++ rest)
unfolding symbols_at
symbols_found [] v rest e = absurd cc
symbols_found (c ∷ bytes) v rest e = elim (chosen (eqb c 0xa3) _ _ _ e) [
  | inl t ↦ let f = alone_found false bytes v rest t.1 in (0xa3 ∷ f.0, f.1, headed c 0xa3 bytes f.0 rest (eqb-true c 0xa3 t.0) f.2)
  | inr t ↦ elim (chosen (eqb c 0xb3) _ _ _ t.1) [
    | inl u ↦ let f = alone_found true bytes v rest u.1 in (0xb3 ∷ f.0, f.1, headed c 0xb3 bytes f.0 rest (eqb-true c 0xb3 u.0) f.2)
    | inr u ↦ elim (chosen (eqb c 0xe0) _ _ _ u.1) [
      | inl w ↦ let f = array_found false bytes v rest w.1 in (0xe0 ∷ f.0, f.1, headed c 0xe0 bytes f.0 rest (eqb-true c 0xe0 w.0) f.2)
      | inr w ↦ elim (chosen (eqb c 0xf0) _ _ _ w.1) [
        | inl z ↦ let f = array_found true bytes v rest z.1 in (0xf0 ∷ f.0, f.1, headed c 0xf0 bytes f.0 rest (eqb-true c 0xf0 z.0) f.2)
        | inr z ↦ absurd (let n = z.1 in cc)
      ]
    ]
  ]
]

symbols_again : (v : List (List ℕ)) (text rest : List ℕ) → IsSymbols v text → symbols_at (text ++ rest) ≡ Some (v, rest)
unfolding symbols_at
symbols_again _ _ rest (one_symbol false len s h a) = rw (item_again false len s rest h a) refl
symbols_again _ _ rest (one_symbol true len s h a) = rw (item_again true len s rest h a) refl
symbols_again items _ rest (array false long size count _ text s c r) = array_again false size count items (by_width long 0xa3 0xb3 ∷ text) rest s c (with_constructor long items text r)
symbols_again items _ rest (array true long size count _ text s c r) = array_again true size count items (by_width long 0xa3 0xb3 ∷ text) rest s c (with_constructor long items text r)
symbols_again _ _ rest (bare false size count s c) = bare_again false size count rest s c
symbols_again _ _ rest (bare true size count s c) = bare_again true size count rest s c

pub symbols_format : IsFormat IsSymbols symbols_at
unfolding symbols_at
symbols_format = record { found = symbols_found; again = symbols_again; no_null = λ rest. refl }
