-- Part: other calls.
-- The ends of a session's links, by this side's handles (AMQP 1.0 part 2, section 2.6.2).
use Rattle.std.specs.Prelude.{ℕ, ◌≡◌, ◌≢◌, List, Option, None, slice_index_or}
use Rattle.amqp_links.specs.declared.end.End.{End}

-- the end of the link that has this handle, if one has it
abbrev pub end_at : List (Option End) → ℕ → Option End
end_at ends h = slice_index_or ends h None

-- This handle has that end then, or none, and each other handle has what it had.
pub record Puts (ends : List (Option End)) (h : ℕ) (e : Option End) (new : List (Option End)) : Type 0 where
  pub there : end_at new h ≡ e
  pub others : (k : ℕ) → k ≢ h → end_at new k ≡ end_at ends k
