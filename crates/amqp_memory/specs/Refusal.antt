-- Part: the promise; other calls.
-- Evidence that a request for memory was refused.
use Rattle.std.specs.Prelude.{ℕ, ◌≤◌, ◌^◌}

-- A request for so many places was refused. A place is one of an item, of an entry or of a byte; a copy of a text that is there is one place
-- too, and so are another owner of bytes that are there, and the places for what is made of items that are there. Its body is closed to every
-- proof but those of the functions of this crate, each of which makes the request: nothing else opens it, and no other crate names it.
unfoldable pub WasRefused : ℕ → Type 0
WasRefused places = Unit {0}

-- a request for so many places at most was refused
pub record RefusedWithin (most : ℕ) : Type 0 where
  pub places : ℕ
  pub at_most : places ≤ most
  pub was : WasRefused places

-- a request that is not absurd was refused
pub record SomeRefused : Type 0 where
  pub places : ℕ
  pub few : places ≤ 2 ^ 34
  pub was : WasRefused places
