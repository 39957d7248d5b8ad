-- Part: the promise; every call exactly.
-- The numbers of transfers wrap at 2^32; a window is a range of them (AMQP 1.0 part 2, sections 2.5.6 and 2.8.9).
use Rattle.std.specs.Prelude.{ℕ, ◌+◌, ◌-◌, ◌%◌, ◌^◌, ◌<◌}

-- how far t is past base
abbrev pub past : ℕ → ℕ → ℕ
past t base = (t + (2 ^ 32 - base)) % 2 ^ 32

-- t is inside the window of this base and width
abbrev pub In : ℕ → ℕ × ℕ → Type 0
In t w = past t w.0 < w.1

-- what is left of a window for a sender at t: 0 where t is past its end
abbrev pub remaining : ℕ → ℕ × ℕ → ℕ
remaining t w = w.1 - past t w.0
