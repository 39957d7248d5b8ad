-- Part: other calls; inner.
-- Answers: bytes at the front of the output, or the length that they need.
use Rattle.std.specs.Prelude.{◌≡◌, ◌<◌, ◌+◌, ◌++◌, ℕ, List, length, take, drop}
use Rattle.amqp1.specs.declared.status.Status.{Status}
use Rattle.amqp1.specs.declared.status.Status.TheVariants as status

-- the output with these bytes at a place
abbrev pub fills : ℕ → List ℕ → List ℕ → List ℕ
fills at bytes old = take at old ++ (bytes ++ drop (at + length bytes) old)

-- The bytes stand at the front of the output, and after them it is as it was; or they do not fit, and all of it is. Their length is told.
abbrev pub Writes : List ℕ → List ℕ → Status → ℕ → List ℕ → Type 0
Writes bytes old status.Done n new = (n ≡ length bytes) × (new ≡ bytes ++ drop n old)
Writes bytes old status.TooSmall n new = (n ≡ length bytes) × (length old < n) × (new ≡ old)
Writes bytes old s n new = ⊥
