-- What is read is in the grammar.
use Rattle.std.proofs.Common.{◌≡◌, ℕ, zero, suc, ◌%◌, Bool, true, false, cond, ltb, eqb, List, [], ◌∷◌, ◌++◌, length, Option, Some, None, refl, sym, ap, subst, ◌∙◌, pred, inl, inr, ◌⊎◌, append_assoc}
use Rattle.std.proofs.lemmas.Bool.{eqb-true, ltb-true}
use Rattle.std.proofs.lemmas.List.{append-nil}
use Rattle.amqp_values.specs.Reading.{byte_at, cut_at, region_at, is_empty, IsNumber, joined}
use Rattle.amqp_values.proofs.ReaderLemmas.{bind_some, some_is, chosen}
use Rattle.amqp_values.specs.declared.format_class.FormatClass.{FormatClass}
use Rattle.amqp_values.specs.declared.format_class.FormatClass.TheVariants as class
use Rattle.amqp_values.specs.FormatClass.{class_of, IsPlain, IsCompound}
use Rattle.amqp_values.specs.Walk.{is_ground, repeat, inside, data_of, value_of, elements_of, run_of, constructor_of, may_hold, under, level, described}
use Rattle.amqp_values.specs.Grammar as g
use Rattle.amqp_values.specs.Grammar.{IsValue, Data, Values, Elements, Run, Constructor}
use Rattle.amqp_values.proofs.CompoundLemmas.{empty_is, Framed, compound_found}
use Rattle.amqp_values.proofs.RegionLemmas.{byte_found, cut_found, region_found}

-- what f reads off the front is a P
abbrev pub Finds : (List ℕ → Type 0) → (List ℕ → Option (List ℕ)) → Type 0
Finds P f = (bytes rest : List ℕ) → f bytes ≡ Some rest → (text : List ℕ) × P text × (bytes ≡ text ++ rest)

headed : (c k : ℕ) (bytes text rest : List ℕ) → c ≡ k → bytes ≡ text ++ rest → ◌≡◌ {A = List ℕ} (c ∷ bytes) (k ∷ text ++ rest)
headed c k bytes text rest e f = ap (λ x. x ∷ bytes) e ∙ ap (λ (x : List ℕ). k ∷ x) f

-- n parts, one after the other
values_found : (d : ℕ) (f : List ℕ → Option (List ℕ)) → Finds (IsValue d) f → (n : ℕ) (bytes rest : List ℕ) → repeat n f bytes ≡ Some rest
    → (parts : List (List ℕ)) × Values d parts × (length parts ≡ n) × (bytes ≡ joined parts ++ rest)
unfolding repeat
values_found d f finds zero bytes rest e = ([], g.no_values d, refl, some_is bytes rest e)
values_found d f finds (suc n) bytes rest e =
    let b = bind_some (f bytes) (repeat n f) rest e in
    let v = finds bytes b.0 b.1 in
    let o = values_found d f finds n b.0 rest b.2 in
    (v.0 ∷ o.0, g.more_values d v.0 o.0 v.1 o.1, ap suc o.2, v.2 ∙ ap (λ (x : List ℕ). v.0 ++ x) o.3 ∙ sym (append_assoc v.0 (joined o.0) rest))

run_found : (d : ℕ) (k : FormatClass) (f : List ℕ → Option (List ℕ)) → Finds (Data d k) f → (n : ℕ) (bytes rest : List ℕ) → repeat (suc n) f bytes ≡ Some rest
    → (parts : List (List ℕ)) × Run d k parts × (length parts ≡ suc n) × (bytes ≡ joined parts ++ rest)
unfolding repeat
run_found d k f finds zero bytes rest e =
    let b = bind_some (f bytes) (repeat zero f) rest e in
    let v = finds bytes b.0 b.1 in
    (v.0 ∷ [], g.last d k v.0 v.1, refl, v.2 ∙ ap (λ (x : List ℕ). v.0 ++ x) (some_is b.0 rest b.2) ∙ ap (λ (x : List ℕ). x ++ rest) (sym (append-nil v.0)))
run_found d k f finds (suc n) bytes rest e =
    let b = bind_some (f bytes) (repeat (suc n) f) rest e in
    let v = finds bytes b.0 b.1 in
    let o = run_found d k f finds n b.0 rest b.2 in
    (v.0 ∷ o.0, g.next d k v.0 o.0 v.1 o.1, ap suc o.2, v.2 ∙ ap (λ (x : List ℕ). v.0 ++ x) o.3 ∙ sym (append_assoc v.0 (joined o.0) rest))

pub record Found (d : ℕ) : Type 0 where
  pub value : Finds (IsValue d) (value_of (under d))
  pub elements : (n : ℕ) (bytes rest : List ℕ) → elements_of (under d) (suc n) bytes ≡ Some rest
      → (constructor : List ℕ) × (elements : List (List ℕ)) × Elements d constructor elements × (length elements ≡ suc n) × (bytes ≡ (constructor ++ joined elements) ++ rest)
  pub constructor : (n : ℕ) → Finds (Constructor d) (constructor_of (under d) n)

abbrev Below : ℕ → Type 0
Below zero = Unit {0}
Below (suc d) = Found d

-- ---- the data of each kind

list_found : (d : ℕ) → Found d → (wide : Bool) (bytes rest : List ℕ) → Framed (level d) (class.List wide) wide bytes rest → (text : List ℕ) × Data (suc d) (class.List wide) text × (bytes ≡ text ++ rest)
unfolding inside
list_found d b wide bytes rest f =
    let v = values_found d (value_of (under d)) b.value f.n f.body [] f.inside_is in
    let same : f.body ≡ joined v.0 = v.3 ∙ append-nil (joined v.0) in
    let size_is : IsNumber wide f.size (length (f.count ++ joined v.0)) = subst (λ (x : List ℕ). IsNumber wide f.size (length (f.count ++ x))) same f.size_is in
    let count_is : IsNumber wide f.count (length v.0) = subst (λ m. IsNumber wide f.count m) (sym v.2) f.count_is in
    (f.size ++ (f.count ++ joined v.0), g.list d wide f.size f.count v.0 size_is count_is v.1, f.whole ∙ ap (λ (x : List ℕ). (f.size ++ (f.count ++ x)) ++ rest) same)

map_found : (d : ℕ) → Found d → (wide : Bool) (bytes rest : List ℕ) → Framed (level d) (class.Map wide) wide bytes rest → (text : List ℕ) × Data (suc d) (class.Map wide) text × (bytes ≡ text ++ rest)
unfolding inside
map_found d b wide bytes rest f =
    elim (chosen (eqb (f.n % 2) 0) _ _ _ f.inside_is) [
      | inl t ↦
          let v = values_found d (value_of (under d)) b.value f.n f.body [] t.1 in
          let same : f.body ≡ joined v.0 = v.3 ∙ append-nil (joined v.0) in
          let size_is : IsNumber wide f.size (length (f.count ++ joined v.0)) = subst (λ (x : List ℕ). IsNumber wide f.size (length (f.count ++ x))) same f.size_is in
          let count_is : IsNumber wide f.count (length v.0) = subst (λ m. IsNumber wide f.count m) (sym v.2) f.count_is in
          let even : length v.0 % 2 ≡ 0 = ap (λ m. m % 2) v.2 ∙ eqb-true _ _ t.0 in
          (f.size ++ (f.count ++ joined v.0), g.map d wide f.size f.count v.0 size_is count_is even v.1, f.whole ∙ ap (λ (x : List ℕ). (f.size ++ (f.count ++ x)) ++ rest) same)
      | inr t ↦ absurd (let n = t.1 in cc)
    ]

array_found : (d : ℕ) → Found d → (wide : Bool) (bytes rest : List ℕ) → Framed (level d) (class.Array wide) wide bytes rest → (text : List ℕ) × Data (suc d) (class.Array wide) text × (bytes ≡ text ++ rest)
unfolding inside
array_found d b wide bytes rest f =
    elim (chosen (eqb f.n 0) _ _ _ f.inside_is) [
      | inl t ↦
          let none : IsNumber wide f.count 0 = subst (λ m. IsNumber wide f.count m) (eqb-true _ _ t.0) f.count_is in
          elim (chosen (is_empty f.body) _ _ _ t.1) [
            | inl u ↦
                let same : f.count ++ f.body ≡ f.count = ap (λ (x : List ℕ). f.count ++ x) (empty_is f.body u.0) ∙ append-nil f.count in
                let size_is : IsNumber wide f.size (length f.count) = subst (λ (x : List ℕ). IsNumber wide f.size (length x)) same f.size_is in
                (f.size ++ f.count, g.bare d wide f.size f.count size_is none, f.whole ∙ ap (λ (x : List ℕ). (f.size ++ x) ++ rest) same)
            | inr u ↦
                let v = b.constructor (length f.body) f.body [] u.1 in
                let same : f.body ≡ v.0 = v.2 ∙ append-nil v.0 in
                let size_is : IsNumber wide f.size (length (f.count ++ v.0)) = subst (λ (x : List ℕ). IsNumber wide f.size (length (f.count ++ x))) same f.size_is in
                (f.size ++ (f.count ++ v.0), g.no_elements d wide f.size f.count v.0 size_is none v.1, f.whole ∙ ap (λ (x : List ℕ). (f.size ++ (f.count ++ x)) ++ rest) same)
          ]
      | inr t ↦
          let k : f.n ≡ suc (pred f.n) = some_more f.n t.0 in
          let v = b.elements (pred f.n) f.body [] (ap (λ m. elements_of (under d) m f.body) (sym k) ∙ t.1) in
          let same : f.body ≡ v.0 ++ joined v.1 = v.4 ∙ append-nil (v.0 ++ joined v.1) in
          let size_is : IsNumber wide f.size (length (f.count ++ (v.0 ++ joined v.1))) = subst (λ (x : List ℕ). IsNumber wide f.size (length (f.count ++ x))) same f.size_is in
          let count_is : IsNumber wide f.count (length v.1) = subst (λ m. IsNumber wide f.count m) (k ∙ sym v.3) f.count_is in
          (f.size ++ (f.count ++ (v.0 ++ joined v.1)), g.array d wide f.size f.count v.0 v.1 size_is count_is v.2, f.whole ∙ ap (λ (x : List ℕ). (f.size ++ (f.count ++ x)) ++ rest) same)
    ]
  where
    some_more : (n : ℕ) → eqb n 0 ≡ false → n ≡ suc (pred n)
    some_more zero e = absurd cc
    some_more (suc n) e = refl

data_found : (d : ℕ) → Below d → (k : FormatClass) → Finds (Data d k) (data_of (under d) k)
unfolding data_of under
data_found d b (class.Fixed n) bytes rest e =
    let r = bind_some (cut_at n bytes) (λ x. Some x.1) rest e in
    let f = cut_found n bytes r.0.0 r.0.1 r.1 in
    (r.0.0, subst (λ m. Data d (class.Fixed m) r.0.0) f.0 (g.fixed d r.0.0), f.1 ∙ ap (λ (x : List ℕ). r.0.0 ++ x) (some_is r.0.1 rest r.2))
data_found d b class.Flag bytes rest e =
    let r = bind_some (byte_at bytes) (λ b. cond (ltb b.0 2) (Some b.1) None) rest e in
    elim (chosen (ltb r.0.0 2) _ _ _ r.2) [
      | inl t ↦ (r.0.0 ∷ [], g.flag d r.0.0 (ltb-true _ _ t.0), byte_found bytes r.0.0 r.0.1 r.1 ∙ ap (λ (x : List ℕ). r.0.0 ∷ x) (some_is r.0.1 rest t.1))
      | inr t ↦ absurd (let n = t.1 in cc)
    ]
data_found d b (class.Variable wide) bytes rest e =
    let r = bind_some (region_at wide bytes) (λ x. Some x.1) rest e in
    let f = region_found wide bytes r.0.0 r.0.1 r.1 in
    (f.0 ++ r.0.0, g.variable d wide f.0 r.0.0 f.1, f.2 ∙ ap (λ (x : List ℕ). (f.0 ++ r.0.0) ++ x) (some_is r.0.1 rest r.2))
data_found zero b class.List0 bytes rest e = absurd cc
data_found (suc d) b class.List0 bytes rest e = ([], g.list0 d, some_is bytes rest e)
data_found zero b (class.List wide) bytes rest e = absurd cc
data_found (suc d) b (class.List wide) bytes rest e = list_found d b wide bytes rest (compound_found (level d) (class.List wide) wide bytes rest e)
data_found zero b (class.Map wide) bytes rest e = absurd cc
data_found (suc d) b (class.Map wide) bytes rest e = map_found d b wide bytes rest (compound_found (level d) (class.Map wide) wide bytes rest e)
data_found zero b (class.Array wide) bytes rest e = absurd cc
data_found (suc d) b (class.Array wide) bytes rest e = array_found d b wide bytes rest (compound_found (level d) (class.Array wide) wide bytes rest e)
data_found d b class.Unknown bytes rest e = absurd cc

-- ---- values, elements, constructors

described_found : (d : ℕ) → Below d → (bytes rest : List ℕ) → described (under d) (λ l. l.value) bytes ≡ Some rest → (text : List ℕ) × IsValue d (0x00 ∷ text) × (bytes ≡ text ++ rest)
unfolding under
described_found zero b bytes rest e = absurd cc
described_found (suc d) b bytes rest e =
    let r = bind_some (value_of (under d) bytes) (value_of (under d)) rest e in
    let a = b.value bytes r.0 r.1 in
    let v = b.value r.0 rest r.2 in
    (a.0 ++ v.0, g.described d a.0 v.0 a.1 v.1, a.2 ∙ ap (λ (x : List ℕ). a.0 ++ x) v.2 ∙ sym (append_assoc a.0 v.0 rest))

value_found : (d : ℕ) → Below d → Finds (IsValue d) (value_of (under d))
unfolding value_of
value_found d b [] rest e = absurd cc
value_found d b (c ∷ bytes) rest e =
    elim (chosen (eqb c 0) _ _ _ e) [
      | inl t ↦ let f = described_found d b bytes rest t.1 in (0x00 ∷ f.0, f.1, headed c 0 bytes f.0 rest (eqb-true c 0 t.0) f.2)
      | inr t ↦ let f = data_found d b (class_of c) bytes rest t.1 in (c ∷ f.0, g.plain d c f.0 f.1, headed c c bytes f.0 rest refl f.2)
    ]

abbrev FindsElements : ℕ → ℕ → List ℕ → List ℕ → Type 0
FindsElements d n bytes rest = (constructor : List ℕ) × (elements : List (List ℕ)) × Elements d constructor elements × (length elements ≡ suc n) × (bytes ≡ (constructor ++ joined elements) ++ rest)

described_elements_found : (d : ℕ) → Below d → (n c : ℕ) (bytes rest : List ℕ) → c ≡ 0 → described (under d) (λ l. l.elements (suc n)) bytes ≡ Some rest → FindsElements d n (c ∷ bytes) rest
unfolding under
described_elements_found zero b n c bytes rest z e = absurd cc
described_elements_found (suc d) b n c bytes rest z e =
    let r = bind_some (value_of (under d) bytes) (elements_of (under d) (suc n)) rest e in
    let a = b.value bytes r.0 r.1 in
    let v = b.elements n r.0 rest r.2 in
    let whole : bytes ≡ (a.0 ++ (v.0 ++ joined v.1)) ++ rest = a.2 ∙ ap (λ (x : List ℕ). a.0 ++ x) v.4 ∙ sym (append_assoc a.0 (v.0 ++ joined v.1) rest) in
    let split : bytes ≡ ((a.0 ++ v.0) ++ joined v.1) ++ rest = whole ∙ ap (λ (x : List ℕ). x ++ rest) (sym (append_assoc a.0 v.0 (joined v.1))) in
    (0x00 ∷ a.0 ++ v.0, v.1, g.described_elements d a.0 v.0 v.1 a.1 v.2, v.3, headed c 0 bytes ((a.0 ++ v.0) ++ joined v.1) rest z split)

elements_found : (d : ℕ) → Below d → (n : ℕ) (bytes rest : List ℕ) → elements_of (under d) (suc n) bytes ≡ Some rest → FindsElements d n bytes rest
unfolding elements_of run_of
elements_found d b n [] rest e = absurd cc
elements_found d b n (c ∷ bytes) rest e =
    elim (chosen (eqb c 0) _ _ _ e) [
      | inl t ↦ described_elements_found d b n c bytes rest (eqb-true c 0 t.0) t.1
      | inr t ↦
          let f = run_found d (class_of c) (data_of (under d) (class_of c)) (data_found d b (class_of c)) n bytes rest t.1 in
          (c ∷ [], f.0, g.plain_elements d c f.0 f.1, f.2, headed c c bytes (joined f.0) rest refl f.3)
    ]

holds_found : (d : ℕ) (k : FormatClass) → may_hold (under d) k ≡ true → IsPlain k ⊎ ((is_ground (under d) ≡ false) × IsCompound k)
unfolding under
holds_found d (class.Fixed n) e = inl tt
holds_found d class.Flag e = inl tt
holds_found d (class.Variable wide) e = inl tt
holds_found d class.List0 e = inl tt
holds_found zero (class.List wide) e = absurd cc
holds_found (suc d) (class.List wide) e = inr (refl, tt)
holds_found zero (class.Map wide) e = absurd cc
holds_found (suc d) (class.Map wide) e = inr (refl, tt)
holds_found zero (class.Array wide) e = absurd cc
holds_found (suc d) (class.Array wide) e = inr (refl, tt)
holds_found d class.Unknown e = absurd cc

compound_here : (d code : ℕ) → is_ground (under d) ≡ false → IsCompound (class_of code) → Constructor d (code ∷ [])
unfolding under
compound_here zero code e h = absurd cc
compound_here (suc d) code e h = g.compound_constructor d code h

described_here : (d : ℕ) (descriptor constructor : List ℕ) → is_ground (under d) ≡ false → IsValue d descriptor → Constructor d constructor → Constructor d (0x00 ∷ descriptor ++ constructor)
unfolding under
described_here zero descriptor constructor e v h = absurd cc
described_here (suc d) descriptor constructor e v h = g.described_constructor d descriptor constructor v h

constructor_found : (d : ℕ) → Below d → (n : ℕ) → Finds (Constructor d) (constructor_of (under d) n)
unfolding constructor_of
constructor_found d b zero bytes rest e = absurd cc
constructor_found d b (suc n) [] rest e = absurd cc
constructor_found d b (suc n) (c ∷ bytes) rest e =
    elim (chosen (eqb c 0) _ _ _ e) [
      | inl t ↦ elim (chosen (is_ground (under d)) _ _ _ t.1) [
        | inl u ↦ absurd (let f = u.1 in cc)
        | inr u ↦
            let r = bind_some (value_of (under d) bytes) (constructor_of (under d) n) rest u.1 in
            let a = value_found d b bytes r.0 r.1 in
            let v = constructor_found d b n r.0 rest r.2 in
            let whole : bytes ≡ (a.0 ++ v.0) ++ rest = a.2 ∙ ap (λ (x : List ℕ). a.0 ++ x) v.2 ∙ sym (append_assoc a.0 v.0 rest) in
            (0x00 ∷ a.0 ++ v.0, described_here d a.0 v.0 u.0 a.1 v.1, headed c 0 bytes (a.0 ++ v.0) rest (eqb-true c 0 t.0) whole)
      ]
      | inr t ↦ elim (chosen (may_hold (under d) (class_of c)) _ _ _ t.1) [
        | inl u ↦
            let same : c ∷ bytes ≡ c ∷ rest = ap (λ (x : List ℕ). c ∷ x) (some_is bytes rest u.1) in
            elim (holds_found d (class_of c) u.0) [
              | inl p ↦ (c ∷ [], g.plain_constructor d c p, same)
              | inr p ↦ (c ∷ [], compound_here d c p.0 p.1, same)
            ]
        | inr u ↦ absurd (let f = u.1 in cc)
      ]
    ]

make : (d : ℕ) → Below d → Found d
make d b = record { value = value_found d b; elements = elements_found d b; constructor = constructor_found d b }

pub found : (d : ℕ) → Found d
found zero = make zero tt
found (suc d) = make (suc d) (found d)
