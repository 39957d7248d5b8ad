-- The front of bytes, byte by byte.
use Rattle.std.proofs.Common.{◌≡◌, ◌≤◌, ℕ, List, [], ◌∷◌, length, take, get_or, refl, arith}

pub front_is : (xs : List ℕ) → 8 ≤ length xs → get_or xs 0 0 ∷ get_or xs 1 0 ∷ get_or xs 2 0 ∷ get_or xs 3 0 ∷ get_or xs 4 0 ∷ get_or xs 5 0 ∷ get_or xs 6 0 ∷ get_or xs 7 0 ∷ [] ≡ take 8 xs
front_is (a ∷ b ∷ c ∷ d ∷ e ∷ f ∷ g ∷ h ∷ xs) l = refl
front_is [] l = absurd (omega arith)
front_is (a ∷ []) l = absurd (omega arith)
front_is (a ∷ b ∷ []) l = absurd (omega arith)
front_is (a ∷ b ∷ c ∷ []) l = absurd (omega arith)
front_is (a ∷ b ∷ c ∷ d ∷ []) l = absurd (omega arith)
front_is (a ∷ b ∷ c ∷ d ∷ e ∷ []) l = absurd (omega arith)
front_is (a ∷ b ∷ c ∷ d ∷ e ∷ f ∷ []) l = absurd (omega arith)
front_is (a ∷ b ∷ c ∷ d ∷ e ∷ f ∷ g ∷ []) l = absurd (omega arith)
