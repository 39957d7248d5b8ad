-- Part: other calls.
-- What an endpoint keeps of each link beside its end, by this side's handles.
use Rattle.std.specs.Prelude.{ℕ, ◌≡◌, ◌≢◌, ◌<◌, List, Bool, false, if◌then◌else◌, length, replicate, slice_index_or}
use Rattle.amqp_endpoints.specs.declared.place.LinkPlace.{LinkPlace}

-- nothing was begun, has come, or is owed
abbrev pub no_place : LinkPlace
no_place = record { begun = 0; owes = false; closes = false; is_listed = false; tag_size = 0; tag = replicate 32 0; sent = 0 }

abbrev pub place_at : List LinkPlace → ℕ → LinkPlace
place_at places h = slice_index_or places h no_place

-- a transfer was sent: of the delivery of this number, which begins by it or not
abbrev pub having_sent : LinkPlace → ℕ → Bool → ℕ → LinkPlace
having_sent p n is_first sent = record p { begun = if is_first then n else p.begun; sent = sent }

-- This handle has that place then, where it has one; and each other handle has what it had.
pub record PutsPlace (places : List LinkPlace) (h : ℕ) (p : LinkPlace) (new : List LinkPlace) : Type 0 where
  pub size : length new ≡ length places
  pub there : h < length places → place_at new h ≡ p
  pub others : (k : ℕ) → k ≢ h → place_at new k ≡ place_at places k
