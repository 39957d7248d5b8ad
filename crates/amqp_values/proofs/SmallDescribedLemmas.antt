-- A described value of a small code and the list without data.
use Rattle.std.proofs.Common.{◌≡◌, ℕ, zero, suc, ◌-◌, ◌<◌, ◌≤◌, List, [], ◌∷◌, length, take, drop, false, Some, refl, sym, ap, arith, ltb, slice_index_or}
use Rattle.std.proofs.lemmas.Bool.{le-ltb}
use Rattle.amqp_values.specs.Reading.{cut_at}
use Rattle.amqp_values.specs.Walk.{under, data_of, value_of, value_at}

bare : (depth c : ℕ) (rest : List ℕ) → 1 < depth → value_at depth (0 ∷ 0x53 ∷ c ∷ 0x45 ∷ rest) ≡ Some rest
unfolding value_at value_of under data_of cut_at
bare zero c rest lt = absurd (omega arith)
bare (suc zero) c rest lt = absurd (omega arith)
bare (suc (suc d)) c rest lt = let f : ltb (length (c ∷ 0x45 ∷ rest)) 1 ≡ false = le-ltb _ _ (omega arith) in rw f refl

all_of : (rest : List ℕ) → take (length rest) rest ≡ rest
all_of [] = refl
all_of (x ∷ xs) = ap (λ ys. x ∷ ys) (all_of xs)

-- what is left after it
pub bare_is_read : (depth : ℕ) (bytes : List ℕ) → 4 ≤ length bytes → slice_index_or bytes 0 0 ≡ 0 → slice_index_or bytes 1 0 ≡ 0x53
    → slice_index_or bytes 3 0 ≡ 0x45 → 1 < depth → Some (take (length bytes - 4) (drop 4 bytes)) ≡ value_at depth bytes
bare_is_read depth [] long a b d lt = absurd (omega arith)
bare_is_read depth (w ∷ []) long a b d lt = absurd (omega arith)
bare_is_read depth (w ∷ x ∷ []) long a b d lt = absurd (omega arith)
bare_is_read depth (w ∷ x ∷ y ∷ []) long a b d lt = absurd (omega arith)
bare_is_read depth (w ∷ x ∷ y ∷ z ∷ rest) long a b d lt =
    let n : length (w ∷ x ∷ y ∷ z ∷ rest) - 4 ≡ length rest = omega arith in
    rw (a, b, d, n, all_of rest) (sym (bare depth y rest lt))
