-- Part: other calls.
-- Delivery numbers are serial numbers of four bytes, which wrap at 2^32 (AMQP 1.0 part 2, section 2.8.10; RFC 1982).
use Rattle.std.specs.Prelude.{ℕ, ◌+◌, ◌-◌, ◌%◌, ◌^◌, nat_lt, nat_le, ◌&&◌, Bool}

-- how far a number lies after another one, going forward
abbrev pub distance : ℕ → ℕ → ℕ
distance from n = (n + (2 ^ 32 - from)) % 2 ^ 32

-- a number lies after another one: farther forward, by less than half of the circle
abbrev pub is_after : ℕ → ℕ → Bool
is_after from n = nat_lt 0 (distance from n) && nat_lt (distance from n) (2 ^ 31)

-- a range goes forward, over less than half of the circle
abbrev pub is_forward : ℕ → ℕ → Bool
is_forward first last = nat_lt (distance first last) (2 ^ 31)

-- A range that goes forward means the numbers from its first to its last; any other means none.
abbrev pub is_within : ℕ → ℕ → ℕ → Bool
is_within first last n = is_forward first last && nat_le (distance first n) (distance first last)
