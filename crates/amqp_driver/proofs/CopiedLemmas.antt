-- Parts of a copy are parts of the input.
use Rattle.std.proofs.Common.{◌≡◌, ◌≤◌, ◌+◌, ◌-◌, ℕ, List, length, take, drop, ap, sym, ◌∙◌, arith}
use Rattle.std.proofs.lemmas.List.{drop-drop, length-drop, length-take-le, take-take}
use Rattle.std.specs.List.{slice_range}
use Rattle.bytes.proofs.Ranges.{drop-take_less}

-- the bytes between two places of a part
pub part_of_part : (xs : List ℕ) (a b i j : ℕ) → a ≤ i → i ≤ j → j ≤ b → slice_range (slice_range xs a b) (i - a) (j - a) ≡ slice_range xs i j
part_of_part xs a b i j h k l =
    let n : i - a ≤ b - a = omega arith in
    let e : a + (i - a) ≡ i = omega arith in
    let m : b - a - (i - a) ≡ b - i = omega arith in
    let o : j - a - (i - a) ≡ j - i = omega arith in
    let p : j - i ≤ b - i = omega arith in
    ap (λ (ys : List ℕ). take (j - a - (i - a)) ys) (drop-take_less (drop a xs) (i - a) (b - a) n)
    ∙ ap (λ (ys : List ℕ). take (j - a - (i - a)) (take (b - a - (i - a)) ys)) (drop-drop (i - a) a xs)
    ∙ ap (λ q. take (j - a - (i - a)) (take (b - a - (i - a)) (drop q xs))) (let c : (a + (i - a)) ≡ i = e in c)
    ∙ ap (λ q. take (j - a - (i - a)) (take q (drop i xs))) m
    ∙ ap (λ q. take q (take (b - i) (drop i xs))) o
    ∙ take-take (j - i) (b - i) (drop i xs) p

pub length_part : (xs : List ℕ) (a b : ℕ) → a ≤ b → b ≤ length xs → length (slice_range xs a b) ≡ b - a
length_part xs a b h k =
    let d : length (drop a xs) ≡ length xs - a = length-drop a xs in
    length-take-le (b - a) (drop a xs) (omega arith)

-- a frame without its size
pub frame_is : (xs : List ℕ) (at size : ℕ) → 4 ≤ size → slice_range xs (at + 4) (at + size) ≡ drop 4 (take size (drop at xs))
frame_is xs at size h = sym (drop-take_less (drop at xs) 4 size h
    ∙ ap (λ (ys : List ℕ). take (size - 4) ys) (drop-drop 4 at xs)
    ∙ ap (λ n. take n (drop (at + 4) xs)) (let e : size - 4 ≡ at + size - (at + 4) = omega arith in e))
