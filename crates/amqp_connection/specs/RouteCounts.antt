-- Part: every call exactly; inner.
-- How many channels of the peer's lead to each session.
use Rattle.std.specs.Prelude.{◌≡◌, ℕ, zero, suc, ◌+◌, ◌≤◌, List, Bool, true, false, Option, Some, None, nat_eq, unwrap_or}
use Rattle.std.specs.FinMap as map
use Rattle.std.specs.Map.{lookup}
use Rattle.amqp_connection.specs.Channels.{ChannelTable, mark}

-- 1 where this is session n, and else 0
abbrev pub leads : Option ℕ → ℕ → ℕ
leads None n = 0
leads (Some number) n = mark (nat_eq number n)

-- how many of the channels below `end` lead to session n
unfoldable pub leading : ChannelTable → ℕ → ℕ → ℕ
leading routes n zero = 0
leading routes n (suc c) = leads (map.get routes c) n + leading routes n c

-- the count of session n: 0 where there is none
abbrev pub count_at : List (ℕ × ℕ) → ℕ → ℕ
count_at counts n = unwrap_or (lookup (nat_eq n) counts) 0

abbrev pub NoZero : List (ℕ × ℕ) → Type 0
NoZero counts = (n : ℕ) → ¬ (lookup (nat_eq n) counts ≡ Some 0)

-- each session's count is how many of the 65536 channels lead to it, and a session to which none leads has none
pub record Counted (routes : ChannelTable) (counts : List (ℕ × ℕ)) : Type 0 where
  pub each : (n : ℕ) → count_at counts n ≡ leading routes n 65536
  pub no_zero : NoZero counts
  pub within : (c : ℕ) → 65536 ≤ c → map.get routes c ≡ None

-- one more channel leads to the session
pub record Raised (number : ℕ) (old new : List (ℕ × ℕ)) : Type 0 where
  pub each : (n : ℕ) → count_at new n ≡ count_at old n + leads (Some number) n
  pub no_zero : NoZero old → NoZero new

-- one fewer leads to the session, where one is named
pub record Lowered (number : Option ℕ) (old new : List (ℕ × ℕ)) : Type 0 where
  pub each : (n : ℕ) → count_at new n + leads number n ≡ count_at old n
  pub no_zero : NoZero old → NoZero new

-- whether some channel leads to the session
abbrev pub IsLedTo : ChannelTable → ℕ → Bool → Type 0
IsLedTo routes number true = (c : ℕ) × (map.get routes c ≡ Some number)
IsLedTo routes number false = (c : ℕ) → ¬ (map.get routes c ≡ Some number)
