-- Part: other calls.
-- The credit of a link, as its sending end counts it, and what each call makes of it (AMQP 1.0 part 2, section 2.6.7).
use Rattle.std.specs.Prelude.{ℕ, ◌-◌, ◌<◌, ◌≡◌, ◌&&◌, nat_lt, Bool, false, if◌then◌else◌}
use Rattle.std.specs.Prelude.{Option, Some, None, Result, Ok, Err}
use Rattle.amqp_credit.specs.declared.sender.NoCredit.{NoCredit}
use Rattle.amqp_credit.specs.Serial.{advanced, past}

-- What a sender knows: the count that its Attach began with, the count now, how many deliveries it may begin, and
-- whether the receiver asked it to drain.
pub record SenderView : Type 0 where
  pub initial : ℕ
  pub count : ℕ
  pub credit : ℕ
  pub drain : Bool

abbrev pub new_sender : ℕ → SenderView
new_sender initial = record { initial = initial; count = initial; credit = 0; drain = false }

-- the count that a receiver has seen: where its flow says none, it has seen no Attach, and it is the initial one
abbrev pub seen_or : ℕ → Option ℕ → ℕ
seen_or initial None = initial
seen_or initial (Some seen) = seen

-- What is left of a credit that was granted at a count that the receiver had seen, for a sender that is at a count:
-- what went out since is taken off.
abbrev pub left_of : ℕ → ℕ → ℕ → ℕ
left_of granted seen count = granted - past count seen

-- a flow came; one without a link-credit changes nothing
abbrev pub flowed : Option ℕ → Option ℕ → Bool → SenderView → SenderView
flowed seen None drain v = v
flowed seen (Some granted) drain v =
    record v { credit = left_of granted (seen_or v.initial seen) v.count; drain = drain }

abbrev pub FlowStep : SenderView → Option ℕ → Option ℕ → Bool → SenderView → Type 0
FlowStep v seen granted drain w = w ≡ flowed seen granted drain v

-- so many of the credit are gone, and the count has gone on by as many
abbrev pub taken_from : ℕ → SenderView → SenderView
taken_from n v = record v { count = advanced v.count n; credit = v.credit - n }

-- a delivery is begun where there is credit, and refused where there is none
abbrev pub SendStep : SenderView → Result (Unit {0}) NoCredit → SenderView → Type 0
SendStep v (Ok done) w = (0 < v.credit) × (w ≡ taken_from 1 v)
SendStep v (Err refused) w = (v.credit ≡ 0) × (w ≡ v)

-- what a drain uses up: all that is left, where the receiver asked for it
abbrev pub drainable : SenderView → ℕ
drainable v = if v.drain then v.credit else 0

abbrev pub UseUpStep : SenderView → ℕ → SenderView → Type 0
UseUpStep v used w = (used ≡ drainable v) × (w ≡ taken_from used v)

abbrev pub is_drain_wanted : SenderView → Bool
is_drain_wanted v = v.drain && nat_lt 0 v.credit
