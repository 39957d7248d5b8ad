-- Bytes of a buffer with shared parts between them: more at the end, and fewer at the front.
use Rattle.std.proofs.Common.{◌≡◌, ◌==◌, ℕ, suc, ◌+◌, ◌-◌, ◌≤◌, ◌<◌, Bool, true, false, List, [], ◌∷◌, ◌++◌, length, take, drop, min, refl, sym, ap, subst, ◌∙◌, arith, append_assoc, length-append}
use Rattle.std.proofs.lemmas.List.{take_all, drop_all, take-append-le, drop-append-le, length-drop, length-take-le, append-nil, drop-drop, drop-take}
use Rattle.std.proofs.lemmas.Bool.Decides.{nat_tests}
use Rattle.amqp_frames.specs.declared.woven.SharedPart.{SharedPart}
use Rattle.amqp_frames.specs.Inner.Woven.{placed, woven, EachSome, IsWoven, TakesBefore}

-- ---- more at the end

pub woven_put : (ss : List SharedPart) (bytes more : List ℕ) → placed ss ≤ length bytes → woven ss (bytes ++ more) ≡ woven ss bytes ++ more
woven_put [] bytes more h = refl
woven_put (s ∷ ss) bytes more h =
    let first : s.before ≤ length bytes = omega (arith, h) in
    let rest : placed ss ≤ length (drop s.before bytes) = omega (arith, h, length-drop s.before bytes) in
    ap (λ (xs : List ℕ). xs ++ (s.part ++ woven ss (drop s.before (bytes ++ more)))) (take-append-le s.before bytes more first)
    ∙ ap (λ (xs : List ℕ). take s.before bytes ++ (s.part ++ woven ss xs)) (drop-append-le s.before bytes more first)
    ∙ ap (λ (xs : List ℕ). take s.before bytes ++ (s.part ++ xs)) (woven_put ss (drop s.before bytes) more rest)
    ∙ ap (λ (xs : List ℕ). take s.before bytes ++ xs) (sym (append_assoc s.part (woven ss (drop s.before bytes)) more))
    ∙ sym (append_assoc (take s.before bytes) (s.part ++ woven ss (drop s.before bytes)) more)

pub woven_share : (ss : List SharedPart) (bytes : List ℕ) (s : SharedPart) → s.before + placed ss ≡ length bytes → woven (ss ++ s ∷ []) bytes ≡ woven ss bytes ++ s.part
woven_share [] bytes s e =
    ap (λ (xs : List ℕ). xs ++ (s.part ++ drop s.before bytes)) (take_all s.before bytes (omega (arith, e)))
    ∙ ap (λ (xs : List ℕ). bytes ++ (s.part ++ xs)) (drop_all s.before bytes (omega (arith, e)))
    ∙ ap (λ (xs : List ℕ). bytes ++ xs) (append-nil s.part)
woven_share (t ∷ ss) bytes s e =
    let rest : s.before + placed ss ≡ length (drop t.before bytes) = omega (arith, e, length-drop t.before bytes) in
    ap (λ (xs : List ℕ). take t.before bytes ++ (t.part ++ xs)) (woven_share ss (drop t.before bytes) s rest)
    ∙ ap (λ (xs : List ℕ). take t.before bytes ++ xs) (sym (append_assoc t.part (woven ss (drop t.before bytes)) s.part))
    ∙ sym (append_assoc (take t.before bytes) (t.part ++ woven ss (drop t.before bytes)) s.part)

-- the buffer with more bytes at its end
pub put : (ss : List SharedPart) (bytes more new : List ℕ) (count : ℕ) → IsWoven ss count (length bytes) → new ≡ bytes ++ more → woven ss new ≡ woven ss bytes ++ more
put ss bytes more new count w e = ap (woven ss) e ∙ woven_put ss bytes more (omega (arith, w.counted, w.within))

placed_more : (ss : List SharedPart) (s : SharedPart) → placed (ss ++ s ∷ []) ≡ placed ss + s.before
placed_more [] s = omega arith
placed_more (t ∷ ss) s = omega (arith, placed_more ss s)

some_more : (ss : List SharedPart) (s : SharedPart) → EachSome ss → 1 ≤ length s.part → EachSome (ss ++ s ∷ [])
some_more [] s e h = (h, tt)
some_more (t ∷ ss) s e h = (e.0, some_more ss s e.1 h)

pub more_parts : (ss new : List SharedPart) (count len n : ℕ) (s : SharedPart) → IsWoven ss count len → n ≡ len → s.before ≡ n - count → 1 ≤ length s.part → new ≡ ss ++ s ∷ [] → IsWoven new n len
more_parts ss new count len n s w all b h e = record {
  counted = omega (arith, w.counted, w.within, all, b, placed_more ss s, ap placed e);
  within = omega (arith, all);
  some = subst EachSome (sym e) (some_more ss s w.some h);
}

pub shared : (ss new : List SharedPart) (bytes : List ℕ) (count n : ℕ) (s : SharedPart) → IsWoven ss count (length bytes) → n ≡ length bytes → s.before ≡ n - count → new ≡ ss ++ s ∷ [] → woven new bytes ≡ woven ss bytes ++ s.part
shared ss new bytes count n s w all b e = ap (λ (xs : List SharedPart). woven xs bytes) e ∙ woven_share ss bytes s (omega (arith, w.counted, w.within, all, b))

-- ---- whether there are any

no_zero : (n : ℕ) → 0 < n → (n == 0) ≡ false
no_zero n h = grind (arith, nat_tests, h)

not_empty : (s : SharedPart) (ss : List SharedPart) (bytes : List ℕ) → EachSome (s ∷ ss) → (length (woven (s ∷ ss) bytes) == 0) ≡ false
not_empty s ss bytes e =
    no_zero (length (woven (s ∷ ss) bytes)) (omega (arith, e.0, length-append (take s.before bytes) (s.part ++ woven ss (drop s.before bytes)), length-append s.part (woven ss (drop s.before bytes))))

some_bytes : (n : ℕ) → true ≡ (suc n == 0) → ⊥
some_bytes n e = grind (arith, nat_tests, e)

-- where the buffer is empty, there are none where there are no shared parts
pub empty_then : (ss : List SharedPart) (bytes : List ℕ) (n : ℕ) (r b : Bool) → EachSome ss → n ≡ length ss → b ≡ (length bytes == 0) → b ≡ true → r ≡ (n == 0) → r ≡ (length (woven ss bytes) == 0)
empty_then [] [] n r b e n_is is holds r_is = r_is ∙ ap (λ (k : ℕ). k == 0) n_is
empty_then [] (x ∷ bytes) n r b e n_is is holds r_is = absurd (some_bytes (length bytes) (sym holds ∙ is))
empty_then (s ∷ ss) bytes n r b e n_is is holds r_is = r_is ∙ no_zero n (omega (arith, n_is)) ∙ sym (not_empty s ss bytes e)

-- where it is not, there are some
pub empty_else : (ss : List SharedPart) (bytes : List ℕ) (b : Bool) → EachSome ss → b ≡ (length bytes == 0) → b ≡ false → b ≡ (length (woven ss bytes) == 0)
empty_else [] bytes b e is fails = is
empty_else (s ∷ ss) bytes b e is fails = fails ∙ sym (not_empty s ss bytes e)

-- ---- fewer at the front

pub before_taken : (most n m count : ℕ) (ss new : List SharedPart) (bytes rest : List ℕ) → TakesBefore most ss n new → IsWoven ss count (length bytes) → m ≡ min n (length bytes) → rest ≡ drop m bytes
    → woven new rest ≡ drop m (woven ss bytes)
before_taken most n m count [] new bytes rest t w m_is e = absurd t
before_taken most n m count (s ∷ ss) new bytes rest t w m_is e =
    let less : m ≤ s.before = omega (arith, t.0, m_is) in
    let all : s.before ≤ length bytes = omega (arith, w.counted, w.within) in
    let same : n ≡ m = omega (arith, t.0, m_is, all) in
    let both : m + (s.before - m) ≡ s.before = omega (arith, less) in
    let after : List ℕ = s.part ++ woven ss (drop s.before bytes) in
    ap (λ (xs : List SharedPart). woven xs rest) t.1
    ∙ ap (λ (k : ℕ). take (s.before - k) rest ++ (s.part ++ woven ss (drop (s.before - k) rest))) same
    ∙ ap (λ (xs : List ℕ). take (s.before - m) xs ++ (s.part ++ woven ss (drop (s.before - m) xs))) e
    ∙ ap (λ (xs : List ℕ). take (s.before - m) (drop m bytes) ++ (s.part ++ woven ss xs)) (drop-drop (s.before - m) m bytes ∙ ap (λ (k : ℕ). drop k bytes) both)
    ∙ ap (λ (xs : List ℕ). xs ++ after) (sym (drop-take m (s.before - m) bytes) ∙ ap (λ (k : ℕ). drop m (take k bytes)) both)
    ∙ sym (drop-append-le m (take s.before bytes) after (omega (arith, less, length-take-le s.before bytes all)))
