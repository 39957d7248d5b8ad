-- Bodies are read exactly by their grammar.
use Rattle.std.proofs.Common.{◌≡◌, ◌≢◌, ℕ, Bool, true, false, eqb, List, [], ◌∷◌, ◌++◌, Option, Some, refl, sym, ap, subst, ◌∙◌, inl, inr, append_assoc}
use Rattle.std.specs.Prelude.{codes, bytes_eq}
use Rattle.std.specs.Int.{w64}
use Rattle.std.proofs.lemmas.Bool.{eqb-true}
use Rattle.std.proofs.lemmas.Slice.Eq.{bytes_eq-Decides}
use Rattle.amqp_values.specs.Reading.{region_at, IsReader}
use Rattle.amqp_values.specs.Number.{IsUbyte, IsUlong, ulong0, small_ulong, ulong, ulong_at, ubyte_at}
use Rattle.amqp_values.specs.Text.{by_width, is_ascii, IsVar, var, binary_at, string_at, symbol_at}
use Rattle.amqp_values.specs.Symbols.{symbols_at}
use Rattle.amqp_values.specs.Slots.{PartsLeft, optional_at, required_at, end_at, then_at, named_at}
use Rattle.amqp_values.specs.Composite.{IsComposite}
use Rattle.amqp_values.proofs.ReaderLemmas.{IsFormat, bind_some, chosen, pair_is, some_is}
use Rattle.amqp_values.proofs.NumberLemmas.{headed, ubyte_format, ulong_format}
use Rattle.amqp_values.proofs.TextLemmas.{binary_format, string_format, symbol_format}
use Rattle.amqp_values.proofs.SymbolLemmas.{symbols_format}
use Rattle.amqp_values.proofs.RegionLemmas.{region_found, region_again, number_again}
use Rattle.amqp_values.proofs.SlotLemmas.{IsBody, Ahead, optional_law, required_law, then_law, end_law}
use Rattle.amqp_values.proofs.CompositeLemmas.{composite_law}
use Rattle.amqp_sasl.specs.declared.body.SaslCode.{SaslCode}
use Rattle.amqp_sasl.specs.declared.body.SaslCode.TheVariants as code
use Rattle.amqp_sasl.specs.SaslFrame.{Said, mechanisms_are, init_is, challenge_is, response_is, outcome_is, IsName, mechanisms_name, init_name, challenge_name, response_name, outcome_name, IsDescriptor, by_number, by_name, descriptor_of, code_number, IsNames, IsCode, AreFields}
use Rattle.amqp_sasl.specs.SaslFrame as frame
use Rattle.amqp_sasl.specs.Inner.Reading.{some_names, names_at, code_numbered, as_code, sasl_code_at, mechanisms_of, init_of, challenge_of, response_of, outcome_of, mechanisms_at, init_at, challenge_at, response_at, outcome_at, said_at, number_of, meaning_at, name_at, coded_at, descriptor_at, described_as, body_at}
use Rattle.amqp_sasl.proofs.NameLemmas.{names_are}

-- ---- types of fields

names_some : (bytes rest : List ℕ) (v : List (List ℕ)) → names_at bytes ≡ Some (v, rest) → v ≢ []
unfolding names_at
names_some bytes rest v e = let b = bind_some (symbols_at bytes) some_names (v, rest) e in not_empty b.0 v rest b.2
  where
    not_empty : (x : List (List ℕ) × List ℕ) (v : List (List ℕ)) (rest : List ℕ) → some_names x ≡ Some (v, rest) → v ≢ []
    not_empty ([], r) v rest e = absurd cc
    not_empty (n ∷ ns, r) v rest e = let s = pair_is (n ∷ ns) v r rest e in λ none. let t = s.0 in absurd cc

names_again : (v : List (List ℕ)) (text rest : List ℕ) → IsNames v text → names_at (text ++ rest) ≡ Some (v, rest)
unfolding names_at
names_again [] text rest h = absurd (h.1 refl)
names_again (n ∷ ns) text rest h = rw (symbols_format.again (n ∷ ns) text rest h.0) refl

pub names_format : IsFormat IsNames names_at
unfolding names_at
names_format = record {
  found = λ bytes v rest e. let f = symbols_format.found bytes v rest (names_are bytes rest v e) in (f.0, (f.1, names_some bytes rest v e), f.2);
  again = names_again;
  no_null = λ rest. rw (symbols_format.no_null rest) refl;
}

numbered_is : (n : ℕ) (c : SaslCode) → code_numbered n ≡ Some c → code_number c ≡ n
numbered_is n c e =
    elim (chosen (eqb n 0) _ _ _ e) [
      | inl a ↦ number n 0 code.Ok c refl a.0 a.1
      | inr a ↦ elim (chosen (eqb n 1) _ _ _ a.1) [
        | inl b ↦ number n 1 code.Auth c refl b.0 b.1
        | inr b ↦ elim (chosen (eqb n 2) _ _ _ b.1) [
          | inl d ↦ number n 2 code.Sys c refl d.0 d.1
          | inr d ↦ elim (chosen (eqb n 3) _ _ _ d.1) [
            | inl f ↦ number n 3 code.SysPerm c refl f.0 f.1
            | inr f ↦ elim (chosen (eqb n 4) _ _ _ f.1) [
              | inl g ↦ number n 4 code.SysTemp c refl g.0 g.1
              | inr g ↦ absurd (let none = g.1 in cc)
            ]
          ]
        ]
      ]
    ]
  where
    number : (n k : ℕ) (d c : SaslCode) → code_number d ≡ k → eqb n k ≡ true → Some d ≡ Some c → code_number c ≡ n
    number n k d c is t e = sym (ap code_number (some_is d c e)) ∙ is ∙ sym (eqb-true n k t)

numbered_again : (c : SaslCode) → code_numbered (code_number c) ≡ Some c
numbered_again code.Ok = refl
numbered_again code.Auth = refl
numbered_again code.Sys = refl
numbered_again code.SysPerm = refl
numbered_again code.SysTemp = refl

pub code_format : IsFormat IsCode sasl_code_at
unfolding sasl_code_at
code_format = record {
  found = λ bytes v rest e.
      let b = bind_some (ubyte_at bytes) as_code (v, rest) e in
      let d = bind_some (code_numbered b.0.0) (λ c. Some (c, b.0.1)) (v, rest) b.2 in
      let s = pair_is d.0 v b.0.1 rest d.2 in
      let f = ubyte_format.found bytes b.0.0 b.0.1 b.1 in
      (f.0, subst (λ n. IsUbyte n f.0) (sym (numbered_is b.0.0 v (d.1 ∙ ap (λ x. Some x) s.0))) f.1, f.2 ∙ ap (λ (x : List ℕ). f.0 ++ x) s.1);
  again = λ v text rest h. rw (ubyte_format.again (code_number v) text rest h, numbered_again v) refl;
  no_null = λ rest. rw (ubyte_format.no_null rest) refl;
}

-- ---- the fields of each body

abbrev pub mechanisms_law : IsBody (λ x. AreFields (mechanisms_are x.0)) (then_at (required_at names_at) end_at)
mechanisms_law = then_law _ _ _ _ (required_law _ _ names_format) end_law

abbrev pub init_law : IsBody (λ x. AreFields (init_is x.0 x.1.0 x.1.1.0)) (then_at (required_at symbol_at) (then_at (optional_at binary_at) (then_at (optional_at string_at) end_at)))
init_law = then_law _ _ _ _ (required_law _ _ symbol_format) (then_law _ _ _ _ (optional_law _ _ binary_format) (then_law _ _ _ _ (optional_law _ _ string_format) end_law))

abbrev pub challenge_law : IsBody (λ x. AreFields (challenge_is x.0)) (then_at (required_at binary_at) end_at)
challenge_law = then_law _ _ _ _ (required_law _ _ binary_format) end_law

abbrev pub outcome_law : IsBody (λ x. AreFields (outcome_is x.0 x.1.0)) (then_at (required_at sasl_code_at) (then_at (optional_at binary_at) end_at))
outcome_law = then_law _ _ _ _ (required_law _ _ code_format) (then_law _ _ _ _ (optional_law _ _ binary_format) end_law)

-- what a body with this descriptor says, by these fields
abbrev pub SaysBy : ℕ → Said → List (List ℕ) → Type 0
SaysBy n said parts = (descriptor_of said ≡ n) × AreFields said parts

kind_found : {V : Type 0} (B : V → List (List ℕ) → Type 0) (slots : PartsLeft → Option (V × PartsLeft)) (say : V → Said) (n : ℕ) → IsBody B slots
    → ((v : V) (parts : List (List ℕ)) → B v parts → SaysBy n (say v) parts)
    → (p q : PartsLeft) (s : Said) → named_at say slots p ≡ Some (s, q) → (parts : List (List ℕ)) × SaysBy n s parts × Ahead p parts
kind_found B slots say n law says p q s e =
    let b = bind_some (slots p) (λ x. Some (say x.0, x.1)) (s, q) e in
    let same = pair_is (say b.0.0) s b.0.1 q b.2 in
    let f = law.found p b.0.1 b.0.0 b.1 in
    (f.0, subst (λ t. SaysBy n t f.0) same.0 (says b.0.0 f.0 f.1), f.2)

said_found : (n : ℕ) (p q : PartsLeft) (s : Said) → said_at n p ≡ Some (s, q) → (parts : List (List ℕ)) × SaysBy n s parts × Ahead p parts
unfolding said_at mechanisms_at init_at challenge_at response_at outcome_at
said_found n p q s e =
    elim (chosen (eqb n 0x40) _ _ _ e) [
      | inl a ↦ kind_found _ _ mechanisms_of n mechanisms_law (λ v parts h. (sym (eqb-true n 0x40 a.0), h)) p q s a.1
      | inr a ↦ elim (chosen (eqb n 0x41) _ _ _ a.1) [
        | inl b ↦ kind_found _ _ init_of n init_law (λ v parts h. (sym (eqb-true n 0x41 b.0), h)) p q s b.1
        | inr b ↦ elim (chosen (eqb n 0x42) _ _ _ b.1) [
          | inl c ↦ kind_found _ _ challenge_of n challenge_law (λ v parts h. (sym (eqb-true n 0x42 c.0), h)) p q s c.1
          | inr c ↦ elim (chosen (eqb n 0x43) _ _ _ c.1) [
            | inl d ↦ kind_found _ _ response_of n challenge_law (λ v parts h. (sym (eqb-true n 0x43 d.0), h)) p q s d.1
            | inr d ↦ elim (chosen (eqb n 0x44) _ _ _ d.1) [
              | inl f ↦ kind_found _ _ outcome_of n outcome_law (λ v parts h. (sym (eqb-true n 0x44 f.0), h)) p q s f.1
              | inr f ↦ absurd (let none = f.1 in cc)
            ]
          ]
        ]
      ]
    ]

said_again : (p : PartsLeft) (s : Said) (parts : List (List ℕ)) → AreFields s parts → Ahead p parts → (q : PartsLeft) × (said_at (descriptor_of s) p ≡ Some (s, q))
unfolding said_at mechanisms_at init_at challenge_at response_at outcome_at
said_again p (mechanisms_are names) parts h a = let r = mechanisms_law.again p (names, tt) parts h a in (r.0, rw r.1 refl)
said_again p (init_is mechanism response hostname) parts h a = let r = init_law.again p (mechanism, (response, (hostname, tt))) parts h a in (r.0, rw r.1 refl)
said_again p (challenge_is challenge) parts h a = let r = challenge_law.again p (challenge, tt) parts h a in (r.0, rw r.1 refl)
said_again p (response_is response) parts h a = let r = challenge_law.again p (response, tt) parts h a in (r.0, rw r.1 refl)
said_again p (outcome_is code additional) parts h a = let r = outcome_law.again p (code, (additional, tt)) parts h a in (r.0, rw r.1 refl)

said_law : (n : ℕ) → IsBody (SaysBy n) (said_at n)
said_law n = record {
  found = λ p q s e. said_found n p q s e;
  again = λ p s parts h a. let r = said_again p s parts h.1 a in (r.0, ap (λ m. said_at m p) (sym h.0) ∙ r.1);
}

-- ---- descriptors

same_bytes : (a b : List ℕ) → bytes_eq a b ≡ true → a ≡ b
same_bytes a b e = (bytes_eq-Decides a b).0 e

named : (k n : ℕ) (name text : List ℕ) → IsName k text → bytes_eq name text ≡ true → Some k ≡ Some n → IsName n name
named k n name text is same e = subst (λ m. IsName m name) (some_is k n e) (subst (λ (t : List ℕ). IsName k t) (sym (same_bytes name text same)) is)

name_found : (name : List ℕ) (n : ℕ) → number_of name ≡ Some n → IsName n name
unfolding number_of
name_found name n e =
    elim (chosen (bytes_eq name (codes "amqp:sasl-mechanisms:list")) _ _ _ e) [
      | inl a ↦ named 0x40 n name _ mechanisms_name a.0 a.1
      | inr a ↦ elim (chosen (bytes_eq name (codes "amqp:sasl-init:list")) _ _ _ a.1) [
        | inl b ↦ named 0x41 n name _ init_name b.0 b.1
        | inr b ↦ elim (chosen (bytes_eq name (codes "amqp:sasl-challenge:list")) _ _ _ b.1) [
          | inl c ↦ named 0x42 n name _ challenge_name c.0 c.1
          | inr c ↦ elim (chosen (bytes_eq name (codes "amqp:sasl-response:list")) _ _ _ c.1) [
            | inl d ↦ named 0x43 n name _ response_name d.0 d.1
            | inr d ↦ elim (chosen (bytes_eq name (codes "amqp:sasl-outcome:list")) _ _ _ d.1) [
              | inl f ↦ named 0x44 n name _ outcome_name f.0 f.1
              | inr f ↦ absurd (let none = f.1 in cc)
            ]
          ]
        ]
      ]
    ]

name_again : (n : ℕ) (name : List ℕ) → IsName n name → number_of name ≡ Some n
unfolding number_of
name_again _ _ mechanisms_name = refl
name_again _ _ init_name = refl
name_again _ _ challenge_name = refl
name_again _ _ response_name = refl
name_again _ _ outcome_name = refl

-- a name is ASCII
name_ascii : (n : ℕ) (name : List ℕ) → IsName n name → is_ascii name ≡ true
name_ascii _ _ mechanisms_name = refl
name_ascii _ _ init_name = refl
name_ascii _ _ challenge_name = refl
name_ascii _ _ response_name = refl
name_ascii _ _ outcome_name = refl

-- a name of this width is found
meaning_found : (wide : Bool) (c : ℕ) (bytes rest : List ℕ) (n : ℕ) → c ≡ by_width wide 0xa3 0xb3 → name_at wide bytes ≡ Some (n, rest)
    → (text : List ℕ) × IsDescriptor n (0 ∷ text) × ◌≡◌ {A = List ℕ} (c ∷ bytes) (text ++ rest)
meaning_found wide c bytes rest n code e =
    let b = bind_some (region_at wide bytes) meaning_at (n, rest) e in
    let m = bind_some (number_of b.0.0) (λ code. Some (code, b.0.1)) (n, rest) b.2 in
    let s = pair_is m.0 n b.0.1 rest m.2 in
    let f = region_found wide bytes b.0.0 b.0.1 b.1 in
    let is : IsName n b.0.0 = subst (λ k. IsName k b.0.0) s.0 (name_found b.0.0 m.0 m.1) in (
      by_width wide 0xa3 0xb3 ∷ f.0 ++ b.0.0,
      by_name n b.0.0 _ is (var wide f.0 b.0.0 f.1, name_ascii n b.0.0 is),
      headed c (by_width wide 0xa3 0xb3) bytes (f.0 ++ b.0.0) rest code (f.2 ∙ ap (λ (x : List ℕ). (f.0 ++ b.0.0) ++ x) s.1),
    )

coded_found : (bytes rest : List ℕ) (n : ℕ) → coded_at bytes ≡ Some (n, rest) → (text : List ℕ) × IsDescriptor n (0 ∷ text) × (bytes ≡ text ++ rest)
unfolding coded_at
coded_found [] rest n e = absurd cc
coded_found (c ∷ bytes) rest n e =
    elim (chosen (eqb c 0xa3) _ _ _ e) [
      | inl a ↦ meaning_found false c bytes rest n (eqb-true c 0xa3 a.0) a.1
      | inr a ↦ elim (chosen (eqb c 0xb3) _ _ _ a.1) [
        | inl b ↦ meaning_found true c bytes rest n (eqb-true c 0xb3 b.0) b.1
        | inr b ↦ let f = ulong_format.found (c ∷ bytes) n rest b.1 in (f.0, by_number n f.0 f.1, f.2)
      ]
    ]

descriptor_found : (bytes rest : List ℕ) (n : ℕ) → descriptor_at bytes ≡ Some (n, rest) → (text : List ℕ) × IsDescriptor n text × (bytes ≡ text ++ rest)
unfolding descriptor_at
descriptor_found [] rest n e = absurd cc
descriptor_found (c ∷ bytes) rest n e =
    elim (chosen (eqb c 0) _ _ _ e) [
      | inl x ↦ let f = coded_found bytes rest n x.1 in (0 ∷ f.0, f.1, headed c 0 bytes f.0 rest (eqb-true c 0 x.0) f.2)
      | inr x ↦ absurd (let f = x.1 in cc)
    ]

number_coded : (n : ℕ) (text rest : List ℕ) → IsUlong n text → coded_at (text ++ rest) ≡ Some (n, rest)
unfolding coded_at ulong_at
number_coded _ _ rest ulong0 = refl
number_coded _ _ rest (small_ulong n) = refl
number_coded _ _ rest (ulong bytes len) = number_again w64 bytes rest len

name_coded : (n : ℕ) (name text rest : List ℕ) → IsName n name → IsVar 0xa3 0xb3 name text → coded_at (text ++ rest) ≡ Some (n, rest)
unfolding coded_at
name_coded n name _ rest is (var false len _ h) = rw (region_again false len name rest h, name_again n name is) refl
name_coded n name _ rest is (var true len _ h) = rw (region_again true len name rest h, name_again n name is) refl

descriptor_again : (n : ℕ) (text rest : List ℕ) → IsDescriptor n text → descriptor_at (text ++ rest) ≡ Some (n, rest)
unfolding descriptor_at
descriptor_again _ _ rest (by_number n text h) = number_coded n text rest h
descriptor_again _ _ rest (by_name n name text is h) = name_coded n name text rest is h.0

-- ---- bodies

pub body_reader : IsReader frame.IsBody body_at
unfolding body_at
body_reader = record {
  found = λ bytes s rest e.
      let d = bind_some (descriptor_at bytes) described_as (s, rest) e in
      let f = descriptor_found bytes d.0.1 d.0.0 d.1 in
      let g = (composite_law (SaysBy d.0.0) (said_at d.0.0) (said_law d.0.0)).found d.0.1 s rest d.2 in (
        f.0 ++ g.0,
        record { descriptor = f.0; list = g.0; coded = subst (λ n. IsDescriptor n f.0) (sym g.1.body.0) f.1; fields = record { parts = g.1.parts; body = g.1.body.1; list = g.1.list }; whole = refl },
        f.2 ∙ ap (λ (r : List ℕ). f.0 ++ r) g.2 ∙ sym (append_assoc f.0 g.0 rest),
      );
  again = λ s text rest h.
      let n = descriptor_of s in
      let inner : IsComposite (SaysBy n) s h.list = record { parts = h.fields.parts; body = (refl, h.fields.body); list = h.fields.list } in
      let c = (composite_law (SaysBy n) (said_at n) (said_law n)).again s h.list rest inner in
      let e : body_at (h.descriptor ++ (h.list ++ rest)) ≡ Some (s, rest) = rw (descriptor_again n h.descriptor (h.list ++ rest) h.coded) c in
      ap (λ (t : List ℕ). body_at (t ++ rest)) h.whole ∙ ap body_at (append_assoc h.descriptor h.list rest) ∙ e;
}
