-- The smallest readers: a byte, a number, so many bytes, and a length with its bytes. Each reads exactly what spells it.
use Rattle.std.proofs.Common.{◌≡◌, ℕ, ◌≤◌, Bool, true, false, ltb, List, [], ◌∷◌, ◌++◌, length, take, drop, Option, Some}
use Rattle.std.proofs.Common.{refl, sym, ap, subst, ◌∙◌, arith, inl, inr, append_assoc}
use Rattle.std.specs.Int.{Width, w32, byte_len, from_be_bytes}
use Rattle.std.proofs.lemmas.Bool.{ltb-false, le-ltb}
use Rattle.std.proofs.lemmas.List.{take_at, drop_at, take-append-drop, length-append, length-take}
use Rattle.amqp_values.specs.Reading.{◌>>=◌, byte_at, number_at, cut_at, count_at, region_at, IsNumber, one, four}
use Rattle.amqp_values.proofs.ReaderLemmas.{bind_some, chosen, pair_is}

pub byte_found : (bytes : List ℕ) (n : ℕ) (rest : List ℕ) → byte_at bytes ≡ Some (n, rest) → bytes ≡ n ∷ rest
byte_found [] n rest e = absurd cc
byte_found (b ∷ bytes) n rest e = let s = pair_is b n bytes rest e in cc

-- a number of a width in bytes
pub number_found : (w : Width) (bytes : List ℕ) (n : ℕ) (rest : List ℕ) → number_at w bytes ≡ Some (n, rest)
    → (text : List ℕ) × (length text ≡ byte_len w) × (n ≡ from_be_bytes w text) × (bytes ≡ text ++ rest)
number_found w bytes n rest e =
    elim (chosen (ltb (length bytes) (byte_len w)) _ _ _ e) [
      | inl t ↦ absurd (let f = t.1 in cc)
      | inr t ↦
          let s = pair_is (from_be_bytes w (take (byte_len w) bytes)) n (drop (byte_len w) bytes) rest t.1 in
          let long : byte_len w ≤ length bytes = ltb-false _ _ t.0 in
          (take (byte_len w) bytes, omega (arith, length-take (byte_len w) bytes), sym s.0, sym (take-append-drop (byte_len w) bytes) ∙ ap (λ (x : List ℕ). take (byte_len w) bytes ++ x) s.1)
    ]

pub number_again : (w : Width) (text rest : List ℕ) → length text ≡ byte_len w → number_at w (text ++ rest) ≡ Some (from_be_bytes w text, rest)
number_again w text rest len =
    let long : ltb (length (text ++ rest)) (byte_len w) ≡ false = le-ltb _ _ (omega (arith, length-append text rest)) in
    rw (long, take_at text rest (byte_len w) len, drop_at text rest (byte_len w) len) refl

-- ---- lengths, counts and regions

pub cut_found : (n : ℕ) (bytes front rest : List ℕ) → cut_at n bytes ≡ Some (front, rest) → (length front ≡ n) × (bytes ≡ front ++ rest)
unfolding cut_at
cut_found n bytes front rest e =
    elim (chosen (ltb (length bytes) n) _ _ _ e) [
      | inl t ↦ absurd (let f = t.1 in cc)
      | inr t ↦
          let s = pair_is (take n bytes) front (drop n bytes) rest t.1 in
          let long : n ≤ length bytes = ltb-false _ _ t.0 in
          let len : length (take n bytes) ≡ n = omega (arith, length-take n bytes) in
          (ap length (sym s.0) ∙ len, sym (take-append-drop n bytes) ∙ ap (λ (x : List ℕ). x ++ drop n bytes) s.0 ∙ ap (λ (x : List ℕ). front ++ x) s.1)
    ]

pub cut_again : (n : ℕ) (front rest : List ℕ) → length front ≡ n → cut_at n (front ++ rest) ≡ Some (front, rest)
unfolding cut_at
cut_again n front rest len =
    let long : ltb (length (front ++ rest)) n ≡ false = le-ltb _ _ (omega (arith, length-append front rest)) in
    rw (long, take_at front rest n len, drop_at front rest n len) refl

pub count_found : (wide : Bool) (bytes : List ℕ) (n : ℕ) (rest : List ℕ) → count_at wide bytes ≡ Some (n, rest) → (text : List ℕ) × IsNumber wide text n × (bytes ≡ text ++ rest)
count_found false bytes n rest e = (n ∷ [], one n, byte_found bytes n rest e)
count_found true bytes n rest e = let f = number_found w32 bytes n rest e in (f.0, subst (λ m. IsNumber true f.0 m) (sym f.2) (four f.0 f.1), f.3)

pub count_again : (wide : Bool) (text : List ℕ) (n : ℕ) (rest : List ℕ) → IsNumber wide text n → count_at wide (text ++ rest) ≡ Some (n, rest)
count_again _ _ _ rest (one n) = refl
count_again _ _ _ rest (four bytes len) = number_again w32 bytes rest len

pub region_found : (wide : Bool) (bytes inner rest : List ℕ) → region_at wide bytes ≡ Some (inner, rest)
    → (size : List ℕ) × IsNumber wide size (length inner) × (bytes ≡ (size ++ inner) ++ rest)
unfolding region_at
region_found wide bytes inner rest e =
    let b = bind_some (count_at wide bytes) (λ n. cut_at n.0 n.1) _ e in
    let f = cut_found b.0.0 b.0.1 inner rest b.2 in
    let n = count_found wide bytes b.0.0 b.0.1 b.1 in
    (n.0, subst (λ m. IsNumber wide n.0 m) (sym f.0) n.1, n.2 ∙ ap (λ (x : List ℕ). n.0 ++ x) f.1 ∙ sym (append_assoc n.0 inner rest))

pub region_again : (wide : Bool) (size inner rest : List ℕ) → IsNumber wide size (length inner) → region_at wide ((size ++ inner) ++ rest) ≡ Some (inner, rest)
unfolding region_at
region_again wide size inner rest h =
    ap (λ (x : List ℕ). count_at wide x >>= λ n. cut_at n.0 n.1) (append_assoc size inner rest)
    ∙ ap (λ (x : Option (ℕ × List ℕ)). x >>= λ n. cut_at n.0 n.1) (count_again wide size (length inner) (inner ++ rest) h)
    ∙ cut_again (length inner) inner rest refl
