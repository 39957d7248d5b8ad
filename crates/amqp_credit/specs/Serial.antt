-- Part: other calls.
-- Counts of deliveries are serial numbers of four bytes, which wrap at 2^32 (AMQP 1.0 part 2, section 2.8.10; RFC
-- 1982).
use Rattle.std.specs.Prelude.{ℕ, ◌+◌, ◌-◌, ◌%◌, ◌^◌, nat_le, Bool}

-- the number so many after another one
abbrev pub advanced : ℕ → ℕ → ℕ
advanced number by = (number + by) % 2 ^ 32

-- how far a number lies past another one, going forward
abbrev pub past : ℕ → ℕ → ℕ
past number base = (number + (2 ^ 32 - base)) % 2 ^ 32

-- a number lies behind another one: half of the circle past it, or more, is before it
abbrev pub is_behind : ℕ → ℕ → Bool
is_behind number base = nat_le (2 ^ 31) (past number base)
