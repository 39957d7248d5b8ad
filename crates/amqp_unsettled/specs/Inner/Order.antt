-- Part: inner.
-- Items in order, by how far their numbers lie after a base.
use Rattle.std.specs.Prelude.{ℕ, ◌^◌, ◌<◌, ◌≤◌, ◌≡◌, nat_lt, if◌then◌else◌, Bool, false}
use Rattle.std.specs.Prelude.{List, [], ◌∷◌, length, slice_index}
use Rattle.amqp_unsettled.specs.Serial.{distance}

-- this holds of each item
abbrev pub Each : {X : Type 0} → (X → Type 0) → List X → Type 0
Each P [] = Unit {0}
Each P (x ∷ xs) = P x × Each P xs

-- no item passes
abbrev pub NonePasses : {X : Type 0} → (X → Bool) → List X → Type 0
NonePasses p xs = Each (λ x. p x ≡ false) xs

-- each of these is more than n
abbrev pub Above : ℕ → List ℕ → Type 0
Above n [] = Unit {0}
Above n (k ∷ ks) = (n < k) × Above n ks

-- each of these is less than n
abbrev pub Below : ℕ → List ℕ → Type 0
Below n [] = Unit {0}
Below n (k ∷ ks) = (k < n) × Below n ks

-- each is less than those after it
abbrev pub IsRising : List ℕ → Type 0
IsRising [] = Unit {0}
IsRising (k ∷ ks) = Above k ks × IsRising ks

-- the place where those of at least so much begin
pub record Begins (ks : List ℕ) (target place : ℕ) : Type 0 where
  pub within : place ≤ length ks
  pub below : (i : ℕ) → i < place → slice_index ks i < target
  pub above : (i : ℕ) → place ≤ i → i < length ks → target ≤ slice_index ks i

-- that place is between these two
pub record HoldsPlace (ks : List ℕ) (target low high : ℕ) : Type 0 where
  pub order : low ≤ high
  pub within : high ≤ length ks
  pub below : (i : ℕ) → i < low → slice_index ks i < target
  pub above : (i : ℕ) → high ≤ i → i < length ks → target ≤ slice_index ks i

-- how far from the base on a range is sought: not at all, where it begins before the base
abbrev pub start_of : ℕ → ℕ → ℕ
start_of base first = if nat_lt (distance base first) (2 ^ 31) then distance base first else 0
