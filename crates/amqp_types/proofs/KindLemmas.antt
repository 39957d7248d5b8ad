-- A kind is read exactly off its descriptors.
use Rattle.std.proofs.Common.{◌≡◌, ℕ, true, eqb, List, ◌∷◌, ◌++◌, Some, None, refl, ap, subst, ◌∙◌, inl, inr}
use Rattle.std.proofs.lemmas.Bool.{eqb-true}
use Rattle.amqp_values.specs.Composite.{IsDescriptor, descriptor_at}
use Rattle.amqp_values.proofs.ReaderLemmas.{bind_some, pair_is, some_is, chosen}
use Rattle.amqp_values.proofs.CompositeLemmas.{descriptor_found, descriptor_again, no_descriptor}
use Rattle.amqp_types.specs.declared.performatives.kind.Kind.{Kind}
use Rattle.amqp_types.specs.declared.performatives.kind.Kind.TheVariants.{Open, Begin, Attach, Flow, Transfer, Disposition, Detach, End, Close}
use Rattle.amqp_types.specs.Kinds.{code_of, IsKind, kind_of, kind_after, kind_at}

coded : (n m : ℕ) (j k : Kind) → eqb n m ≡ true → m ≡ code_of j → Some j ≡ Some k → n ≡ code_of k
coded n m j k t c e = eqb-true n m t ∙ c ∙ ap code_of (some_is j k e)

kind_coded : (n : ℕ) (k : Kind) → kind_of n ≡ Some k → n ≡ code_of k
unfolding kind_of
kind_coded n k e =
    elim (chosen (eqb n 0x10) _ _ _ e) [
      | inl x0 ↦ coded n 0x10 Open k x0.0 refl x0.1
      | inr x0 ↦ elim (chosen (eqb n 0x11) _ _ _ x0.1) [
        | inl x1 ↦ coded n 0x11 Begin k x1.0 refl x1.1
        | inr x1 ↦ elim (chosen (eqb n 0x12) _ _ _ x1.1) [
          | inl x2 ↦ coded n 0x12 Attach k x2.0 refl x2.1
          | inr x2 ↦ elim (chosen (eqb n 0x13) _ _ _ x2.1) [
            | inl x3 ↦ coded n 0x13 Flow k x3.0 refl x3.1
            | inr x3 ↦ elim (chosen (eqb n 0x14) _ _ _ x3.1) [
              | inl x4 ↦ coded n 0x14 Transfer k x4.0 refl x4.1
              | inr x4 ↦ elim (chosen (eqb n 0x15) _ _ _ x4.1) [
                | inl x5 ↦ coded n 0x15 Disposition k x5.0 refl x5.1
                | inr x5 ↦ elim (chosen (eqb n 0x16) _ _ _ x5.1) [
                  | inl x6 ↦ coded n 0x16 Detach k x6.0 refl x6.1
                  | inr x6 ↦ elim (chosen (eqb n 0x17) _ _ _ x6.1) [
                    | inl x7 ↦ coded n 0x17 End k x7.0 refl x7.1
                    | inr x7 ↦ elim (chosen (eqb n 0x18) _ _ _ x7.1) [
                      | inl x8 ↦ coded n 0x18 Close k x8.0 refl x8.1
                      | inr x8 ↦ absurd (let f = x8.1 in cc)
                    ]
                  ]
                ]
              ]
            ]
          ]
        ]
      ]
    ]

kind_known : (k : Kind) → kind_of (code_of k) ≡ Some k
unfolding kind_of
kind_known Open = refl
kind_known Begin = refl
kind_known Attach = refl
kind_known Flow = refl
kind_known Transfer = refl
kind_known Disposition = refl
kind_known Detach = refl
kind_known End = refl
kind_known Close = refl

pub kind_found : (bytes : List ℕ) (k : Kind) (rest : List ℕ) → kind_at bytes ≡ Some (k, rest) → (text : List ℕ) × IsKind k text × (bytes ≡ text ++ rest)
unfolding kind_at
kind_found bytes k rest e =
    let d = bind_some (descriptor_at bytes) kind_after (k, rest) e in
    let b = bind_some (kind_of d.0.0) (λ j. Some (j, d.0.1)) (k, rest) d.2 in
    let s = pair_is b.0 k d.0.1 rest b.2 in
    let f = descriptor_found bytes d.0.1 d.0.0 d.1 in
    let named : d.0.0 ≡ code_of k = kind_coded d.0.0 b.0 b.1 ∙ ap code_of s.0 in
    (f.0, subst (λ (n : ℕ). IsDescriptor n f.0) named f.1, f.2 ∙ ap (λ (x : List ℕ). f.0 ++ x) s.1)

pub kind_again : (k : Kind) (text rest : List ℕ) → IsKind k text → kind_at (text ++ rest) ≡ Some (k, rest)
unfolding kind_at
kind_again k text rest h = rw (descriptor_again (code_of k) text rest h, kind_known k) refl

pub kind_no_null : (rest : List ℕ) → kind_at (0x40 ∷ rest) ≡ None
unfolding kind_at
kind_no_null rest = rw (no_descriptor rest) refl
