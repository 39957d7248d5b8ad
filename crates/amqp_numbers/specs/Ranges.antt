-- Part: every call exactly; inner.
-- A set of numbers in ranges.
use Rattle.std.specs.Prelude.{ℕ, zero, suc, ◌+◌, ◌-◌, ◌^◌, ◌<◌, ◌≤◌, ◌≡◌, Bool, true, false, None, ◌&&◌, ◌||◌, nat_lt, nat_le, List, [], ◌∷◌, take, drop, length}
use Rattle.std.specs.Ordering.{nat_cmp}
use Rattle.std.specs.FinMap as map
use Rattle.amqp_numbers.specs.declared.ranges.Range.{Range}

-- the numbers of a set, each with true
abbrev pub Numbers : Type 0
Numbers = map.FinMap nat_cmp Bool

-- so many numbers more, from the first on
abbrev pub with_run : ℕ → ℕ → Numbers → Numbers
with_run first zero m = m
with_run first (suc count) m = map.insert (with_run first count m) (first + count) true

-- neither the number nor one right beside it is in the set
abbrev pub IsAlone : Numbers → ℕ → Type 0
IsAlone m n = (q : ℕ) → n ≤ q + 1 → q ≤ n + 1 → map.get m q ≡ None

-- the numbers of all ranges
abbrev pub numbers_of : List Range → Numbers
numbers_of [] = map.empty
numbers_of (r ∷ rs) = with_run r.first (suc r.last - r.first) (numbers_of rs)

-- one of the ranges holds the number
abbrev pub is_held : ℕ → List Range → Bool
is_held n [] = false
is_held n (r ∷ rs) = (nat_le r.first n && nat_le n r.last) || is_held n rs

-- no range is empty, each begins after the one before, and at least one number is missing between them: the first begins at the low number
-- or after it
abbrev pub IsSpaced : ℕ → List Range → Type 0
IsSpaced low [] = Unit {0}
IsSpaced low (r ∷ rs) = (low ≤ r.first) × (r.first ≤ r.last) × (r.last < 2 ^ 32) × IsSpaced (r.last + 2) rs

-- where a range after these may begin, with a number missing between
abbrev pub next_low : ℕ → List Range → ℕ
next_low low [] = low
next_low low (r ∷ rs) = next_low (r.last + 2) rs

-- the first of these begins at the low number or after it, if there is one
abbrev pub BeginFrom : ℕ → List Range → Type 0
BeginFrom low [] = Unit {0}
BeginFrom low (r ∷ rs) = low ≤ r.first

-- the range of a rank begins at the number or before it
abbrev pub begins_by : List Range → ℕ → ℕ → Bool
begins_by [] rank n = false
begins_by (r ∷ rs) zero n = nat_le r.first n
begins_by (r ∷ rs) (suc rank) n = begins_by rs rank n

-- so many ranges begin at the number or before it, and the next one after it
abbrev pub IsRank : List Range → ℕ → ℕ → Type 0
IsRank [] n rank = rank ≡ 0
IsRank (r ∷ rs) n zero = n < r.first
IsRank (r ∷ rs) n (suc rank) = (r.first ≤ n) × IsRank rs n rank

-- so many ranges end before the number, and the next one begins after it
abbrev pub IsApart : List Range → ℕ → ℕ → Type 0
IsApart [] n rank = rank ≡ 0
IsApart (r ∷ rs) n zero = n < r.first
IsApart (r ∷ rs) n (suc rank) = (r.last < n) × IsApart rs n rank

-- The ranges below a rank hold what those below an earlier one hold, and the numbers from `first` on and below n. A range that begins at
-- `first` is spaced from the earlier ones.
pub record IsLower (rs : List Range) (n rank from first : ℕ) : Type 0 where
  pub order : from ≤ rank
  pub first_is : first ≤ n
  pub spaced : next_low 0 (take from rs) ≤ first
  pub alone : from ≡ rank → first ≡ n
  pub numbers : (q : ℕ) → is_held q (take rank rs) ≡ (is_held q (take from rs) || (nat_le first q && nat_lt q n))

-- The ranges from a rank on hold what those from a later one on hold, and the numbers above n up to `last`. A range that ends at `last` is
-- spaced from the later ones.
pub record IsUpper (rs : List Range) (n rank to last : ℕ) : Type 0 where
  pub order : rank ≤ to
  pub within : to ≤ length rs
  pub last_is : n ≤ last
  pub fits : last < 2 ^ 32
  pub spaced : BeginFrom (last + 2) (drop to rs)
  pub alone : to ≡ rank → last ≡ n
  pub numbers : (q : ℕ) → is_held q (drop rank rs) ≡ ((nat_lt n q && nat_le q last) || is_held q (drop to rs))
