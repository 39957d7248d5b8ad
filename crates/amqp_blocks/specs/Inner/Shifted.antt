-- Part: inner.
-- Running lengths of which those from a block on are shifted.
use Rattle.std.specs.Prelude.{ℕ, zero, suc, ◌+◌, ◌%◌, ◌^◌, List, [], ◌∷◌, map}

-- a number modulo 2^64
abbrev pub plain : ℕ → ℕ
plain e = e % 2 ^ 64

-- a number that is so much more, modulo 2^64
abbrev pub more : ℕ → ℕ → ℕ
more shift e = (e + shift) % 2 ^ 64

-- the numbers from a place on are so much more
abbrev pub shifted : ℕ → ℕ → List ℕ → List ℕ
shifted zero shift xs = map (more shift) xs
shifted (suc from) shift [] = []
shifted (suc from) shift (x ∷ xs) = plain x ∷ shifted from shift xs

-- a function of so many numbers from a place on
abbrev pub over : ℕ → ℕ → (ℕ → ℕ) → List ℕ → List ℕ
over zero zero f xs = xs
over zero (suc n) f [] = []
over zero (suc n) f (x ∷ xs) = f x ∷ over zero n f xs
over (suc a) n f [] = []
over (suc a) n f (x ∷ xs) = x ∷ over a n f xs
