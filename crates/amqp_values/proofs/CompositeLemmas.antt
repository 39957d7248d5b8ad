-- Described lists are read exactly by their grammar.
use Rattle.std.proofs.Common.{◌≡◌, ℕ, Bool, true, false, eqb, List, [], ◌∷◌, ◌++◌, length, Option, Some, None, refl, sym, ap, subst, ◌∙◌, arith, inl, inr, append_assoc}
use Rattle.std.specs.Prelude.{codes, bytes_eq}
use Rattle.std.specs.Int.{w64}
use Rattle.std.proofs.lemmas.Bool.{eqb-true, eq-eqb}
use Rattle.amqp_values.specs.Slots.{PartsLeft}
use Rattle.amqp_values.specs.Reading.{◌>>=◌, count_at, region_at, IsNumber, joined}
use Rattle.amqp_values.specs.Text.{by_width, IsVar, var}
use Rattle.amqp_values.specs.Composite.{IsList, list0, list, IsComposite, IsName, open_name, begin_name, attach_name, flow_name, transfer_name, disposition_name, detach_name, end_name, close_name, error_name, IsDescriptor, described0, described_small, described_by_number, described_by_name, IsDescribed, counted_parts, list_at, composite_at, code_of, meaning_at, code_at, descriptor_at, coded_at, described_at}
use Rattle.amqp_values.proofs.ReaderLemmas.{IsFormat, bind_some, chosen, pair_is, some_is}
use Rattle.amqp_values.proofs.NumberLemmas.{headed}
use Rattle.amqp_values.proofs.RegionLemmas.{byte_found, number_found, number_again, count_found, count_again, region_found, region_again}
use Rattle.amqp_values.proofs.SlotLemmas.{IsBody, Ahead}
use Rattle.std.proofs.lemmas.Slice.Eq.{bytes_eq-Decides}

-- ---- lists

nothing : (parts : List (List ℕ)) → length parts ≡ 0 → parts ≡ []
nothing [] e = refl
nothing (x ∷ xs) e = absurd (omega arith)

-- a region is a count and as many parts
counted : (wide : Bool) (region left rest : List ℕ) (p : PartsLeft) (parts : List (List ℕ)) → counted_parts wide (region, left) ≡ Some (p, rest) → Ahead p parts
    → (count : List ℕ) × IsNumber wide count (length parts) × (region ≡ count ++ joined parts) × (left ≡ rest)
counted wide region left rest p parts e a =
    let b = bind_some (count_at wide region) (λ n. Some (record { left = n.0; bytes = n.1 }, left)) (p, rest) e in
    let s = pair_is (record { left = b.0.0; bytes = b.0.1 }) p left rest b.2 in
    let n : b.0.0 ≡ length parts = ap (λ (q : PartsLeft). q.left) s.0 ∙ a.count in
    let m : b.0.1 ≡ joined parts = ap (λ (q : PartsLeft). q.bytes) s.0 ∙ a.bytes in
    let f = count_found wide region b.0.0 b.0.1 b.1 in
    (f.0, subst (λ k. IsNumber wide f.0 k) n f.1, f.2 ∙ ap (λ (x : List ℕ). f.0 ++ x) m, s.1)

-- a list of this width is found
wide_found : (wide : Bool) (c : ℕ) (bytes rest : List ℕ) (p : PartsLeft) (parts : List (List ℕ)) → c ≡ by_width wide 0xc0 0xd0 → (region_at wide bytes >>= counted_parts wide) ≡ Some (p, rest) → Ahead p parts
    → (text : List ℕ) × IsList parts text × ◌≡◌ {A = List ℕ} (c ∷ bytes) (text ++ rest)
wide_found wide c bytes rest p parts code e a =
    let b = bind_some (region_at wide bytes) (counted_parts wide) (p, rest) e in
    let g = counted wide b.0.0 b.0.1 rest p parts b.2 a in
    let f = region_found wide bytes b.0.0 b.0.1 b.1 in
    let size_is : IsNumber wide f.0 (length (g.0 ++ joined parts)) = subst (λ (x : List ℕ). IsNumber wide f.0 (length x)) g.2 f.1 in
    let whole : bytes ≡ (f.0 ++ (g.0 ++ joined parts)) ++ rest = f.2 ∙ ap (λ (r : List ℕ). (f.0 ++ r) ++ b.0.1) g.2 ∙ ap (λ (x : List ℕ). (f.0 ++ (g.0 ++ joined parts)) ++ x) g.3 in
    (by_width wide 0xc0 0xd0 ∷ f.0 ++ (g.0 ++ joined parts), list wide f.0 g.0 parts size_is g.1, headed c (by_width wide 0xc0 0xd0) bytes (f.0 ++ (g.0 ++ joined parts)) rest code whole)

list_found : (bytes rest : List ℕ) (p : PartsLeft) (parts : List (List ℕ)) → list_at bytes ≡ Some (p, rest) → Ahead p parts → (text : List ℕ) × IsList parts text × (bytes ≡ text ++ rest)
unfolding list_at
list_found [] rest p parts e a = absurd cc
list_found (c ∷ bytes) rest p parts e a =
    elim (chosen (eqb c 0x45) _ _ _ e) [
      | inl x ↦
          let s = pair_is (record { left = 0; bytes = [] }) p bytes rest x.1 in
          let none : parts ≡ [] = nothing parts (sym a.count ∙ sym (ap (λ (q : PartsLeft). q.left) s.0)) in
          (0x45 ∷ [], subst (λ (ps : List (List ℕ)). IsList ps (0x45 ∷ [])) (sym none) list0, headed c 0x45 bytes [] rest (eqb-true c 0x45 x.0) s.1)
      | inr x ↦ elim (chosen (eqb c 0xc0) _ _ _ x.1) [
        | inl y ↦ wide_found false c bytes rest p parts (eqb-true c 0xc0 y.0) y.1 a
        | inr y ↦ elim (chosen (eqb c 0xd0) _ _ _ y.1) [
          | inl z ↦ wide_found true c bytes rest p parts (eqb-true c 0xd0 z.0) z.1 a
          | inr z ↦ absurd (let n = z.1 in cc)
        ]
      ]
    ]

list_again : (parts : List (List ℕ)) (text rest : List ℕ) → IsList parts text → (p : PartsLeft) × (list_at (text ++ rest) ≡ Some (p, rest)) × Ahead p parts
unfolding list_at
list_again _ _ rest list0 = (record { left = 0; bytes = [] }, refl, record { count = refl; bytes = refl })
list_again parts _ rest (list false size count _ s c) =
    (record { left = length parts; bytes = joined parts }, rw (region_again false size (count ++ joined parts) rest s, count_again false count (length parts) (joined parts) c) refl, record { count = refl; bytes = refl })
list_again parts _ rest (list true size count _ s c) =
    (record { left = length parts; bytes = joined parts }, rw (region_again true size (count ++ joined parts) rest s, count_again true count (length parts) (joined parts) c) refl, record { count = refl; bytes = refl })

no_list : (rest : List ℕ) → list_at (0x40 ∷ rest) ≡ None
unfolding list_at
no_list rest = refl

pub composite_law : {V : Type 0} (B : V → List (List ℕ) → Type 0) (body : PartsLeft → Option (V × PartsLeft)) → IsBody B body → IsFormat (IsComposite B) (composite_at body)
composite_law B body law = record {
  found = λ bytes v rest e.
      let l = bind_some (list_at bytes) (λ l. body l.0 >>= λ v. Some (v.0, l.1)) (v, rest) e in
      let b = bind_some (body l.0.0) (λ v. Some (v.0, l.0.1)) (v, rest) l.2 in
      let s = pair_is b.0.0 v l.0.1 rest b.2 in
      let f = law.found l.0.0 b.0.1 b.0.0 b.1 in
      let g = list_found bytes l.0.1 l.0.0 f.0 l.1 f.2 in
      (g.0, record { parts = f.0; body = subst (λ x. B x f.0) s.0 f.1; list = g.1 }, g.2 ∙ ap (λ (x : List ℕ). g.0 ++ x) s.1);
  again = λ v text rest h.
      let l = list_again h.parts text rest h.list in
      let b = law.again l.0 v h.parts h.body l.2 in
      rw (l.1, b.1) refl;
  no_null = λ rest. rw (no_list rest) refl;
}

-- ---- names

same_bytes : (a b : List ℕ) → bytes_eq a b ≡ true → a ≡ b
same_bytes a b e = (bytes_eq-Decides a b).0 e

-- a name that was found in the table
named : (k n : ℕ) (name text : List ℕ) → IsName k text → bytes_eq name text ≡ true → Some k ≡ Some n → IsName n name
named k n name text is same e = subst (λ m. IsName m name) (some_is k n e) (subst (λ (t : List ℕ). IsName k t) (sym (same_bytes name text same)) is)

name_found : (name : List ℕ) (n : ℕ) → code_of name ≡ Some n → IsName n name
unfolding code_of
name_found name n e =
    elim (chosen (bytes_eq name (codes "amqp:open:list")) _ _ _ e) [
      | inl x0 ↦ named 0x10 n name _ open_name x0.0 x0.1
      | inr x0 ↦ elim (chosen (bytes_eq name (codes "amqp:begin:list")) _ _ _ x0.1) [
        | inl x1 ↦ named 0x11 n name _ begin_name x1.0 x1.1
        | inr x1 ↦ elim (chosen (bytes_eq name (codes "amqp:attach:list")) _ _ _ x1.1) [
          | inl x2 ↦ named 0x12 n name _ attach_name x2.0 x2.1
          | inr x2 ↦ elim (chosen (bytes_eq name (codes "amqp:flow:list")) _ _ _ x2.1) [
            | inl x3 ↦ named 0x13 n name _ flow_name x3.0 x3.1
            | inr x3 ↦ elim (chosen (bytes_eq name (codes "amqp:transfer:list")) _ _ _ x3.1) [
              | inl x4 ↦ named 0x14 n name _ transfer_name x4.0 x4.1
              | inr x4 ↦ elim (chosen (bytes_eq name (codes "amqp:disposition:list")) _ _ _ x4.1) [
                | inl x5 ↦ named 0x15 n name _ disposition_name x5.0 x5.1
                | inr x5 ↦ elim (chosen (bytes_eq name (codes "amqp:detach:list")) _ _ _ x5.1) [
                  | inl x6 ↦ named 0x16 n name _ detach_name x6.0 x6.1
                  | inr x6 ↦ elim (chosen (bytes_eq name (codes "amqp:end:list")) _ _ _ x6.1) [
                    | inl x7 ↦ named 0x17 n name _ end_name x7.0 x7.1
                    | inr x7 ↦ elim (chosen (bytes_eq name (codes "amqp:close:list")) _ _ _ x7.1) [
                      | inl x8 ↦ named 0x18 n name _ close_name x8.0 x8.1
                      | inr x8 ↦ elim (chosen (bytes_eq name (codes "amqp:error:list")) _ _ _ x8.1) [
                        | inl x9 ↦ named 0x1d n name _ error_name x9.0 x9.1
                        | inr x9 ↦ absurd (let f = x9.1 in cc)
                      ]
                    ]
                  ]
                ]
              ]
            ]
          ]
        ]
      ]
    ]

name_again : (n : ℕ) (name : List ℕ) → IsName n name → code_of name ≡ Some n
unfolding code_of
name_again _ _ open_name = refl
name_again _ _ begin_name = refl
name_again _ _ attach_name = refl
name_again _ _ flow_name = refl
name_again _ _ transfer_name = refl
name_again _ _ disposition_name = refl
name_again _ _ detach_name = refl
name_again _ _ end_name = refl
name_again _ _ close_name = refl
name_again _ _ error_name = refl

-- ---- descriptors

-- a name of this width is found
meaning_found : (wide : Bool) (c : ℕ) (bytes rest : List ℕ) (n : ℕ) → c ≡ by_width wide 0xa3 0xb3 → (region_at wide bytes >>= meaning_at) ≡ Some (n, rest)
    → (text : List ℕ) × IsDescriptor n (0 ∷ text) × ◌≡◌ {A = List ℕ} (c ∷ bytes) (text ++ rest)
meaning_found wide c bytes rest n code e =
    let b = bind_some (region_at wide bytes) meaning_at (n, rest) e in
    let m = bind_some (code_of b.0.0) (λ code. Some (code, b.0.1)) (n, rest) b.2 in
    let s = pair_is m.0 n b.0.1 rest m.2 in
    let f = region_found wide bytes b.0.0 b.0.1 b.1 in (
      by_width wide 0xa3 0xb3 ∷ f.0 ++ b.0.0,
      described_by_name n b.0.0 _ (subst (λ k. IsName k b.0.0) s.0 (name_found b.0.0 m.0 m.1)) (var wide f.0 b.0.0 f.1),
      headed c (by_width wide 0xa3 0xb3) bytes (f.0 ++ b.0.0) rest code (f.2 ∙ ap (λ (x : List ℕ). (f.0 ++ b.0.0) ++ x) s.1),
    )

code_found : (bytes rest : List ℕ) (n : ℕ) → code_at bytes ≡ Some (n, rest) → (text : List ℕ) × IsDescriptor n (0 ∷ text) × (bytes ≡ text ++ rest)
code_found [] rest n e = absurd cc
code_found (c ∷ bytes) rest n e =
    elim (chosen (eqb c 0x44) _ _ _ e) [
      | inl x ↦ let s = pair_is 0 n bytes rest x.1 in (0x44 ∷ [], subst (λ m. IsDescriptor m (0 ∷ 0x44 ∷ [])) s.0 described0, headed c 0x44 bytes [] rest (eqb-true c 0x44 x.0) s.1)
      | inr x ↦ elim (chosen (eqb c 0x53) _ _ _ x.1) [
        | inl y ↦ (0x53 ∷ n ∷ [], described_small n, headed c 0x53 bytes (n ∷ []) rest (eqb-true c 0x53 y.0) (byte_found bytes n rest y.1))
        | inr y ↦ elim (chosen (eqb c 0x80) _ _ _ y.1) [
          | inl z ↦ let f = number_found w64 bytes n rest z.1 in (0x80 ∷ f.0, subst (λ m. IsDescriptor m (0 ∷ 0x80 ∷ f.0)) (sym f.2) (described_by_number f.0 f.1), headed c 0x80 bytes f.0 rest (eqb-true c 0x80 z.0) f.3)
          | inr z ↦ elim (chosen (eqb c 0xa3) _ _ _ z.1) [
            | inl u ↦ meaning_found false c bytes rest n (eqb-true c 0xa3 u.0) u.1
            | inr u ↦ elim (chosen (eqb c 0xb3) _ _ _ u.1) [
              | inl v ↦ meaning_found true c bytes rest n (eqb-true c 0xb3 v.0) v.1
              | inr v ↦ absurd (let f = v.1 in cc)
            ]
          ]
        ]
      ]
    ]

pub descriptor_found : (bytes rest : List ℕ) (n : ℕ) → descriptor_at bytes ≡ Some (n, rest) → (text : List ℕ) × IsDescriptor n text × (bytes ≡ text ++ rest)
unfolding descriptor_at
descriptor_found [] rest n e = absurd cc
descriptor_found (c ∷ bytes) rest n e =
    elim (chosen (eqb c 0) _ _ _ e) [
      | inl x ↦ let f = code_found bytes rest n x.1 in (0 ∷ f.0, f.1, headed c 0 bytes f.0 rest (eqb-true c 0 x.0) f.2)
      | inr x ↦ absurd (let f = x.1 in cc)
    ]

by_name_again : (n : ℕ) (name text rest : List ℕ) → IsName n name → IsVar 0xa3 0xb3 name text → descriptor_at (0 ∷ text ++ rest) ≡ Some (n, rest)
unfolding descriptor_at
by_name_again n name _ rest is (var false len _ h) = rw (region_again false len name rest h, name_again n name is) refl
by_name_again n name _ rest is (var true len _ h) = rw (region_again true len name rest h, name_again n name is) refl

pub descriptor_again : (n : ℕ) (text rest : List ℕ) → IsDescriptor n text → descriptor_at (text ++ rest) ≡ Some (n, rest)
unfolding descriptor_at
descriptor_again _ _ rest described0 = refl
descriptor_again _ _ rest (described_small n) = refl
descriptor_again _ _ rest (described_by_number bytes len) = number_again w64 bytes rest len
descriptor_again n _ rest (described_by_name _ name text is h) = by_name_again n name text rest is h

pub no_descriptor : (rest : List ℕ) → descriptor_at (0x40 ∷ rest) ≡ None
unfolding descriptor_at
no_descriptor rest = refl

pub described_law : {V : Type 0} (code : ℕ) (B : V → List (List ℕ) → Type 0) (body : PartsLeft → Option (V × PartsLeft)) → IsBody B body → IsFormat (IsDescribed code B) (described_at code body)
unfolding described_at
described_law code B body law =
    let inner = composite_law B body law in
    record {
      found = λ bytes v rest e.
          let d = bind_some (descriptor_at bytes) (coded_at code (composite_at body)) (v, rest) e in
          elim (chosen (eqb d.0.0 code) _ _ _ d.2) [
            | inl x ↦
                let f = descriptor_found bytes d.0.1 d.0.0 d.1 in
                let g = inner.found d.0.1 v rest x.1 in (
                  f.0 ++ g.0,
                  record { descriptor = f.0; list = g.0; coded = subst (λ n. IsDescriptor n f.0) (eqb-true d.0.0 code x.0) f.1; body = g.1; whole = refl },
                  f.2 ∙ ap (λ (r : List ℕ). f.0 ++ r) g.2 ∙ sym (append_assoc f.0 g.0 rest),
                )
            | inr x ↦ absurd (let n = x.1 in cc)
          ];
      again = λ v text rest h.
          let e : described_at code body (h.descriptor ++ (h.list ++ rest)) ≡ Some (v, rest) = rw (descriptor_again code h.descriptor (h.list ++ rest) h.coded, eq-eqb code code refl) (inner.again v h.list rest h.body) in
          ap (λ (t : List ℕ). described_at code body (t ++ rest)) h.whole ∙ ap (described_at code body) (append_assoc h.descriptor h.list rest) ∙ e;
      no_null = λ rest. rw (no_descriptor rest) refl;
    }
