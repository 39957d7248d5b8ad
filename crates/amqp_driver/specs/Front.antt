-- Part: other calls; inner.
-- What stands at the front of bytes (AMQP 1.0 part 2, section 2.3): a whole frame, the beginning of one, or a size that no frame may have.
use Rattle.std.specs.Prelude.{◌≡◌, ◌≤◌, ◌<◌, ◌⊎◌, ℕ, List, Option, Some, None, length, take, nat_lt, if◌then◌else◌}
use Rattle.std.specs.Int.{w32, from_be_bytes}
use Rattle.amqp_driver.specs.declared.front.Front.{Front}
use Rattle.amqp_driver.specs.declared.front.Front.TheVariants as front

-- the size that stands in the first four bytes, which it counts too
abbrev pub size_at : List ℕ → ℕ
size_at bytes = from_be_bytes w32 (take 4 bytes)

-- a size that a frame may have, where it has at most so many bytes
abbrev pub IsAllowed : ℕ → ℕ → Type 0
IsAllowed limit size = (8 ≤ size) × (size ≤ limit)

-- a whole frame stands at the front
abbrev pub IsWhole : ℕ → List ℕ → Type 0
IsWhole limit rest = (4 ≤ length rest) × IsAllowed limit (size_at rest) × (size_at rest ≤ length rest)

-- nothing, or the beginning of a frame: its size is not whole, or is allowed and the frame is not whole
abbrev pub IsPart : ℕ → List ℕ → Type 0
IsPart limit rest = (length rest < 4) ⊎ ((4 ≤ length rest) × IsAllowed limit (size_at rest) × (length rest < size_at rest))

-- how many bytes that frame has in all, as far as that is known: at least those of its size
abbrev pub wanted_at : List ℕ → ℕ
wanted_at rest = if nat_lt (length rest) 4 then 4 else size_at rest

-- a size that no frame may have
abbrev pub IsBad : ℕ → List ℕ → Type 0
IsBad limit rest = (4 ≤ length rest) × ((size_at rest < 8) ⊎ (limit < size_at rest))

abbrev pub Stands : ℕ → List ℕ → Front → Type 0
Stands limit rest (front.Part wanted) = IsPart limit rest × (wanted ≡ wanted_at rest)
Stands limit rest front.Bad = IsBad limit rest
Stands limit rest (front.Whole size) = IsWhole limit rest × (size ≡ size_at rest)

-- ---- parts

abbrev pub HasSize : List ℕ → Option ℕ → Type 0
HasSize rest None = length rest < 4
HasSize rest (Some size) = (4 ≤ length rest) × (size ≡ size_at rest)
