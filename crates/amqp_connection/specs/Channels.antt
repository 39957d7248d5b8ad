-- Part: every call exactly; inner.
-- Which channels are held, and which one is allotted (AMQP 1.0 part 2, section 2.5.1).
use Rattle.std.specs.Prelude.{◌≡◌, ℕ, ◌+◌, ◌<◌, ◌≤◌, List, Bool, cond, nat_eq, nat_lt, is_some, sum_by, None, IsSome, Result, Ok, Err}
use Rattle.std.specs.Ordering.{nat_cmp}
use Rattle.std.specs.FinMap as map
use Rattle.std.specs.Coded.{Coded, coded_ℕ}
use Rattle.std.specs.Map.{lookup}
use Rattle.std.specs.BinaryHeap.{IsHeap}
use Rattle.amqp_memory.specs.Refusal.{SomeRefused}
use Rattle.amqp_session.specs.declared.keys.KeyHash.{KeyHash}
use Rattle.amqp_session.specs.declared.numbers.OutgoingChannel.{OutgoingChannel}
use Rattle.amqp_connection.specs.declared.connection.channel_table.AllotError.{AllotError}
use Rattle.amqp_connection.specs.declared.connection.channel_table.AllotError.TheVariants.{Full, OutOfMemory}

abbrev pub ChannelTable : Type 0
ChannelTable = map.FinMap nat_cmp ℕ

abbrev pub channel_table_code : Coded ChannelTable
channel_table_code = map.code coded_ℕ coded_ℕ

-- where the channels of the peer's lead, and the hash by which they are found
pub record RoutesView : Type 0 where
  pub hash : KeyHash
  pub routes : ChannelTable

abbrev pub no_routes : KeyHash → RoutesView
no_routes hash = record { hash = hash; routes = map.empty }

pub record IsLowestFree (m : ChannelTable) (channel : ℕ) : Type 0 where
  pub free : map.get m channel ≡ None
  pub lowest : (d : ℕ) → d < channel → IsSome (map.get m d)

abbrev pub AllotStep : ChannelTable → ℕ → ℕ → Result OutgoingChannel AllotError → ChannelTable → Type 0
AllotStep m max number (Ok channel) new = IsLowestFree m channel.0 × (channel.0 ≤ max) × (new ≡ map.insert m channel.0 number)
AllotStep m max number (Err Full) new = ((d : ℕ) → d ≤ max → IsSome (map.get m d)) × (new ≡ m)
AllotStep m max number (Err OutOfMemory) new = ((d : ℕ) × IsLowestFree m d × (d ≤ max)) × (new ≡ m) × SomeRefused

abbrev pub mark : Bool → ℕ
mark b = cond b 1 0

-- how often a channel stands among those given back
abbrev pub occurs : ℕ → List ℕ → ℕ
occurs c items = sum_by (λ y. mark (nat_eq (y + c) 65535)) items

abbrev pub held_at : List (ℕ × ℕ) → ℕ → ℕ
held_at es c = mark (is_some (lookup (nat_eq c) es))

-- each channel that was ever held is either held or given back, and stands there once
pub record Channelled (held : List (ℕ × ℕ)) (held_len : ℕ) (free : List ℕ) (free_len capacity next : ℕ) : Type 0 where
  pub ordered : IsHeap nat_cmp free
  pub each : (c : ℕ) → occurs c free + held_at held c ≡ mark (nat_lt c next)
  pub count : free_len + held_len ≡ next
  pub room : next ≤ capacity
  pub within : next ≤ 65536
