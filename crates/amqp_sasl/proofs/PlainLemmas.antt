-- Bytes 0 among others, and a response of PLAIN cut at them.
use Rattle.std.proofs.Common.{◌≡◌, ◌≢◌, ◌≤◌, ◌<◌, ◌+◌, ◌-◌, ℕ, List, [], ◌∷◌, ◌++◌, length, take, drop, get_or, refl, sym, ap, subst, ◌∙◌, arith, inl, inr}
use Rattle.std.specs.Prelude.{slice_range, nat_lt, false}
use Rattle.std.proofs.lemmas.Bool.Decides.{nat_tests}
use Rattle.std.proofs.lemmas.List.{take-append-drop, drop_more, drop-drop, take_all, length-drop}
use Rattle.amqp_values.proofs.WalkLemmas.{slice_is}
use Rattle.amqp_sasl.specs.Plain.{NoNul, IsPlain}
use Rattle.amqp_sasl.specs.Inner.Nul.{IsFirstNul}

pub no_nul_more : (bytes : List ℕ) (b : ℕ) → NoNul bytes → b ≢ 0 → NoNul (bytes ++ b ∷ [])
no_nul_more [] b h other = (other, tt)
no_nul_more (x ∷ xs) b h other = (h.0, no_nul_more xs b h.1 other)

-- a 0 inside
pub nul_inside : (a b : List ℕ) → NoNul (a ++ 0 ∷ b) → ⊥
nul_inside [] b h = h.0 refl
nul_inside (x ∷ xs) b h = nul_inside xs b h.1

-- what stands before the first 0, and after it
first_cut : (a b c d : List ℕ) → NoNul a → NoNul c → a ++ 0 ∷ b ≡ c ++ 0 ∷ d → (a ≡ c) × (b ≡ d)
first_cut [] b [] d h k e = (refl, let t = e in cc)
first_cut [] b (y ∷ ys) d h k e = absurd (k.0 (let t = e in cc))
first_cut (x ∷ xs) b [] d h k e = absurd (h.0 (let t = e in cc))
first_cut (x ∷ xs) b (y ∷ ys) d h k e =
    let rest : xs ++ 0 ∷ b ≡ ys ++ 0 ∷ d = let t = e in cc in
    let head : x ≡ y = let t = e in cc in
    let f = first_cut xs b ys d h.1 k.1 rest in
    (ap (λ (n : ℕ). n ∷ xs) head ∙ ap (λ (l : List ℕ). y ∷ l) f.0, f.1)

-- bytes cut at a 0
pub cut_at_nul : (bytes : List ℕ) (n : ℕ) → n < length bytes → get_or bytes n 0 ≡ 0 → bytes ≡ take n bytes ++ 0 ∷ drop (n + 1) bytes
cut_at_nul bytes n l e =
    sym (take-append-drop n bytes) ∙ ap (λ (x : List ℕ). take n bytes ++ x) (drop_more bytes n 0 l) ∙ ap (λ (b : ℕ). take n bytes ++ b ∷ drop (n + 1) bytes) e

-- the first 0 is not at the end
pub nul_there : (bytes : List ℕ) (n : ℕ) → IsFirstNul bytes n → n ≢ length bytes → (n < length bytes) × (bytes ≡ take n bytes ++ 0 ∷ drop (n + 1) bytes)
nul_there bytes n h other = elim h.1 [ inl e ↦ absurd (other e) | inr w ↦ (w.0, cut_at_nul bytes n w.0 w.1) ]

-- there is none
pub nul_nowhere : (bytes : List ℕ) (n : ℕ) → IsFirstNul bytes n → n ≡ length bytes → NoNul bytes
nul_nowhere bytes n h e = subst NoNul (ap (λ m. take m bytes) e ∙ take_all (length bytes) bytes (omega arith)) h.0

pub none_first : (bytes : List ℕ) → NoNul bytes → (a u p : List ℕ) → IsPlain a u p bytes → ⊥
none_first bytes h a u p k = nul_inside a (u ++ 0 ∷ p) (subst NoNul k.whole h)

pub none_second : (bytes front after : List ℕ) → bytes ≡ front ++ 0 ∷ after → NoNul front → NoNul after → (a u p : List ℕ) → IsPlain a u p bytes → ⊥
none_second bytes front after e h k a u p w =
    let f = first_cut front after a (u ++ 0 ∷ p) h w.in_authorization (sym e ∙ w.whole) in
    nul_inside u p (subst NoNul f.1 k)

pub none_third : (bytes front after middle end : List ℕ) → bytes ≡ front ++ 0 ∷ after → after ≡ middle ++ 0 ∷ end → NoNul front → NoNul middle → (NoNul end → ⊥) → (a u p : List ℕ) → IsPlain a u p bytes → ⊥
none_third bytes front after middle end e f h k other a u p w =
    let x = first_cut front after a (u ++ 0 ∷ p) h w.in_authorization (sym e ∙ w.whole) in
    let y = first_cut middle end u p k w.in_user (sym f ∙ x.1) in
    other (subst NoNul (sym y.1) w.in_password)

-- the parts, by their places
pub parts_are : (bytes : List ℕ) (n m : ℕ) → n < length bytes → m < length (drop (n + 1) bytes) → bytes ≡ take n bytes ++ 0 ∷ drop (n + 1) bytes
    → drop (n + 1) bytes ≡ take m (drop (n + 1) bytes) ++ 0 ∷ drop (m + 1) (drop (n + 1) bytes)
    → NoNul (take n bytes) → NoNul (take m (drop (n + 1) bytes)) → NoNul (drop (m + 1) (drop (n + 1) bytes))
    → IsPlain (slice_range bytes 0 n) (slice_range bytes (n + 1) (n + 1 + m)) (slice_range bytes (n + 1 + m + 1) (length bytes)) bytes
parts_are bytes n m ln lm e f a u p =
    let after = drop (n + 1) bytes in
    let front : slice_range bytes 0 n ≡ take n bytes = ap (λ k. take k bytes) (omega arith) in
    let user : slice_range bytes (n + 1) (n + 1 + m) ≡ take m after = slice_is (n + 1) m bytes in
    let at : n + 1 + m + 1 ≡ n + 1 + (m + 1) = omega arith in
    let rest : drop (n + 1 + m + 1) bytes ≡ drop (m + 1) after = ap (λ k. drop k bytes) at ∙ sym (drop-drop (m + 1) (n + 1) bytes) in
    let password : slice_range bytes (n + 1 + m + 1) (length bytes) ≡ drop (m + 1) after =
    take_all (length bytes - (n + 1 + m + 1)) (drop (n + 1 + m + 1) bytes) (omega (arith, length-drop (n + 1 + m + 1) bytes)) ∙ rest in
    record {
      whole = e ∙ ap (λ (x : List ℕ). take n bytes ++ 0 ∷ x) f ∙ ap (λ (x : List ℕ). take n bytes ++ 0 ∷ (x ++ 0 ∷ drop (m + 1) after)) (sym user)
          ∙ ap (λ (x : List ℕ). take n bytes ++ 0 ∷ (slice_range bytes (n + 1) (n + 1 + m) ++ 0 ∷ x)) (sym password)
          ∙ ap (λ (x : List ℕ). x ++ 0 ∷ (slice_range bytes (n + 1) (n + 1 + m) ++ 0 ∷ slice_range bytes (n + 1 + m + 1) (length bytes))) (sym front);
      in_authorization = subst NoNul (sym front) a;
      in_user = subst NoNul (sym user) u;
      in_password = subst NoNul (sym password) p;
    }

pub nul_tells : (bytes : List ℕ) (n : ℕ) → IsFirstNul bytes n → (nat_lt n (length bytes) ≡ false → NoNul bytes) × (NoNul bytes → nat_lt n (length bytes) ≡ false)
nul_tells bytes n h = elim h.1 [
  | inl e ↦ (λ t. nul_nowhere bytes n h e, λ k. grind (arith, nat_tests))
  | inr w ↦ (
    λ t. absurd (grind (arith, nat_tests)),
    λ k. absurd (nul_inside (take n bytes) (drop (n + 1) bytes) (subst NoNul (cut_at_nul bytes n w.0 w.1) k)),
  )
]

-- the bytes around the first 0, where those after it have a name
pub nul_parts : (bytes after : List ℕ) (n : ℕ) → IsFirstNul bytes n → n ≢ length bytes → after ≡ drop (n + 1) bytes → bytes ≡ take n bytes ++ 0 ∷ after
nul_parts bytes after n h other e = (nul_there bytes n h other).1 ∙ ap (λ (x : List ℕ). take n bytes ++ 0 ∷ x) (sym e)

-- the parts, where what follows each 0 has a name
pub named_parts : (bytes after password : List ℕ) (n m : ℕ) → IsFirstNul bytes n → n ≢ length bytes → after ≡ drop (n + 1) bytes → IsFirstNul after m → m ≢ length after → password ≡ drop (m + 1) after → NoNul password
    → IsPlain (slice_range bytes 0 n) (slice_range bytes (n + 1) (n + 1 + m)) (slice_range bytes (n + 1 + m + 1) (length bytes)) bytes
    × ((0 ≤ n) × (n ≤ length bytes)) × ((n + 1 ≤ n + 1 + m) × (n + 1 + m ≤ length bytes)) × ((n + 1 + m + 1 ≤ length bytes) × (length bytes ≤ length bytes))
named_parts bytes after password n m h other e k another f last =
    let first = nul_there bytes n h other in
    let k2 : IsFirstNul (drop (n + 1) bytes) m = subst (λ (x : List ℕ). IsFirstNul x m) e k in
    let another2 : m ≢ length (drop (n + 1) bytes) = λ d. another (d ∙ ap length (sym e)) in
    let second = nul_there (drop (n + 1) bytes) m k2 another2 in
    let last2 : NoNul (drop (m + 1) (drop (n + 1) bytes)) = subst NoNul (f ∙ ap (drop (m + 1)) e) last in
    let long = length-drop (n + 1) bytes in
    (parts_are bytes n m first.0 second.0 first.1 second.1 h.0 k2.0 last2, (omega arith, omega arith), (omega arith, omega arith), (omega arith, omega arith))
