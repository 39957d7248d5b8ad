-- Bytes that were read over the end of a list.
use Rattle.std.proofs.Common.{◌≡◌, ◌+◌, ◌-◌, ℕ, List, [], ◌++◌, length, take, drop, ap, sym, ◌∙◌, arith, Result, Ok, Err, Bool, true, false, if◌then◌else◌}
use Rattle.std.specs.Result.{is_ok, IsOk}
use Rattle.std.proofs.Math.Seq.{take-append_seam}
use Rattle.std.proofs.Math.ListN.{drop_of_length-le}
use Rattle.std.proofs.lemmas.List.{append-nil, length-append, length-drop, length-take-le, take_all}
use borrow.Rule.Slice.PartMut.{post_of}

-- as many bytes are read over the end of a list as stand there
pub read_length : (read all : List ℕ) (at count : ℕ) → length all ≡ at + count → length read ≡ length (take (length all - at) (drop at all)) → length read ≡ count
read_length read all at count n e =
    let left = length-drop at all in
    e ∙ length-take-le (length all - at) (drop at all) (omega (arith, left)) ∙ omega (arith, n)

-- what stood before the end stands there still
pub read_over : (front grown pad all read rest : List ℕ) (at count len : ℕ) → grown ≡ front → all ≡ take (at + count) grown ++ pad → at ≡ length front → len ≡ at + count → length read ≡ count → take len (take at all ++ (read ++ post_of at (length all - at) all) ++ rest) ≡ front ++ read
read_over front grown pad all read rest at count len s g n l r =
    let split : all ≡ front ++ pad = g ∙ ap (λ (x : List ℕ). take (at + count) x ++ pad) s ∙ ap (λ (x : List ℕ). x ++ pad) (take_all (at + count) front (omega (arith, n))) in
    let before : take at all ≡ front = ap (λ (x : List ℕ). take at x) split ∙ ap (λ (k : ℕ). take k (front ++ pad)) n ∙ take-append_seam front pad in
    let left = length-drop at all in
    let after : post_of at (length all - at) all ≡ [] = drop_of_length-le (drop at all) (omega (arith, left)) in
    let both : len ≡ length (front ++ read) = omega (arith, l, n, r, length-append front read) in
    rw (before, after, append-nil read, both) (take-append_seam (front ++ read) rest)

-- what holds where a call is Ok
pub when_ok : {X E Y : Type 0} (r : Result X E) (a b y : Y) → IsOk r → y ≡ (if is_ok r then a else b) → y ≡ a
when_ok (Ok x) a b y ok e = e
when_ok (Err x) a b y ok e = absurd (let no : false ≡ true = ok in cc)
