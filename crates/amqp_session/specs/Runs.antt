-- Part: every call exactly; inner.
-- How runs of numbers grow at their end.
use Rattle.std.specs.Prelude.{ℕ, ◌+◌, ◌%◌, ◌^◌, Bool, false, List, [], ◌∷◌, ◌++◌, if◌then◌else◌, nat_eq}

-- A run of numbers, from its first to its last, modulo 2^32.
pub record DeliveryRange : Type 0 where
  pub first : ℕ
  pub last : ℕ

-- whether a number is the one after the last run
abbrev pub goes_on : ℕ → List DeliveryRange → Bool
goes_on n [] = false
goes_on n (r ∷ []) = nat_eq ((r.last + 1) % 2 ^ 32) n
goes_on n (r ∷ s ∷ rs) = goes_on n (s ∷ rs)

-- the last run goes on to a number
abbrev pub longer : ℕ → List DeliveryRange → List DeliveryRange
longer n [] = []
longer n (r ∷ []) = record r { last = n } ∷ []
longer n (r ∷ s ∷ rs) = r ∷ longer n (s ∷ rs)

-- A number after the last run goes on with it where it is the next one, and else begins a run of its own.
abbrev pub extended : ℕ → List DeliveryRange → List DeliveryRange
extended n runs = if goes_on n runs then longer n runs else runs ++ record { first = n; last = n } ∷ []
