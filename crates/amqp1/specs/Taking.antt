-- Part: other calls; inner.
-- Bytes that wait to be sent, and are taken.
use Rattle.std.specs.Prelude.{◌≡◌, ◌++◌, ◌+◌, ◌<◌, ◌≤◌, ℕ, List, length, take, drop, min}

-- A front of what waits is taken off, and stands at the front of the output: as much as fits. After it the output is as it was.
pub record TakesOff (waits old : List ℕ) (n : ℕ) (left new : List ℕ) : Type 0 where
  pub count : n ≡ min (length old) (length waits)
  pub rest : left ≡ drop n waits
  pub output : new ≡ take n waits ++ drop n old

-- ---- parts

-- Some bytes of the front of what waits are taken off, and stand at this place of the output; its other bytes are as they were.
pub record TakesFront (at : ℕ) (waits old : List ℕ) (n : ℕ) (left new : List ℕ) : Type 0 where
  pub some : 0 < n
  pub within : at + n ≤ length old
  pub there : n ≤ length waits
  pub rest : left ≡ drop n waits
  pub output : new ≡ take at old ++ (take n waits ++ drop (at + n) old)
