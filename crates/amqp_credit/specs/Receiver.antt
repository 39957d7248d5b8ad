-- Part: other calls.
-- The credit of a link, as its receiving end counts it, and what each call makes of it (AMQP 1.0 part 2, section
-- 2.6.7).
use Rattle.std.specs.Prelude.{ℕ, ◌-◌, ◌<◌, ◌≡◌, min, nat_le, nat_lt, Bool, true, false}
use Rattle.std.specs.Prelude.{Option, Some, None, Result, Ok, Err, if◌then◌else◌}
use Rattle.amqp_credit.specs.declared.receiver.Renewal.{Renewal}
use Rattle.amqp_credit.specs.declared.receiver.Grant.{Grant}
use Rattle.amqp_credit.specs.declared.receiver.OverCredit.{OverCredit}
use Rattle.amqp_credit.specs.declared.receiver.CountPastLimit.{CountPastLimit}
use Rattle.amqp_credit.specs.Serial.{advanced, past, is_behind}

-- What a receiver knows: the sender's count, as far as it has seen it; how many deliveries may still come; whether it
-- asked the sender to drain; and when its credit is renewed.
pub record ReceiverView : Type 0 where
  pub count : ℕ
  pub credit : ℕ
  pub draining : Bool
  pub renewal : Option Renewal

abbrev pub new_receiver : ℕ → Option Renewal → ReceiverView
new_receiver initial renewal = record { count = initial; credit = 0; draining = false; renewal = renewal }

-- what a flow says
abbrev pub told_by : ReceiverView → Grant
told_by v = record { delivery_count = v.count; link_credit = v.credit; drain = v.draining }

-- so much is granted, and a drain ends
abbrev pub granted : ℕ → ReceiverView → ReceiverView
granted credit v = record v { credit = credit; draining = false }

abbrev pub GrantStep : ReceiverView → ℕ → Grant → ReceiverView → Type 0
GrantStep v credit told w = (told ≡ told_by w) × (w ≡ granted credit v)

abbrev pub DrainStep : ReceiverView → Grant → ReceiverView → Type 0
DrainStep v told w = (told ≡ told_by w) × (w ≡ record v { draining = true })

-- so many of the credit are gone, and the count has gone on by as many
abbrev pub taken_off : ℕ → ReceiverView → ReceiverView
taken_off n v = record v { count = advanced v.count n; credit = v.credit - n }

-- a delivery is taken where there is credit, and refused where there is none
abbrev pub DeliveryStep : ReceiverView → Result (Unit {0}) OverCredit → ReceiverView → Type 0
DeliveryStep v (Ok done) w = (0 < v.credit) × (w ≡ taken_off 1 v)
DeliveryStep v (Err refused) w = (v.credit ≡ 0) × (w ≡ v)

-- How many of the credit a sender used up that says it is at this count: those between, where the credit allows so
-- many, and none where it says no count, or one that lies behind. A count past all that was granted is refused.
abbrev pub used_up : ReceiverView → Option ℕ → Option ℕ
used_up v None = Some 0
used_up v (Some count) =
    if nat_le (past count v.count) v.credit then Some (past count v.count)
    else (if is_behind count v.count then Some 0 else None)

abbrev pub or_zero : Option ℕ → ℕ
or_zero None = 0
or_zero (Some n) = n

abbrev pub accepted : Result ℕ CountPastLimit → Option ℕ
accepted (Ok used) = Some used
accepted (Err refused) = None

abbrev pub HeardStep : ReceiverView → Option ℕ → Result ℕ CountPastLimit → ReceiverView → Type 0
HeardStep v count answer w = (accepted answer ≡ used_up v count) × (w ≡ taken_off (or_zero (used_up v count)) v)

-- the credit that is to be announced: by the rule, where it has fallen below the low mark
abbrev pub by_rule : Option Renewal → ℕ → Option ℕ
by_rule None credit = None
by_rule (Some rule) credit = if nat_lt credit (min rule.low rule.high) then Some rule.high else None

-- and none where the sender is asked to drain
abbrev pub wanted : ReceiverView → Option ℕ
wanted v = if v.draining then None else by_rule v.renewal v.credit

-- what is wanted is granted
abbrev pub renewed : Option ℕ → ReceiverView → Option Grant → ReceiverView → Type 0
renewed None v told w = (told ≡ None) × (w ≡ v)
renewed (Some credit) v told w = (told ≡ Some (told_by w)) × (w ≡ granted credit v)

abbrev pub RenewStep : ReceiverView → Option Grant → ReceiverView → Type 0
RenewStep v told w = renewed (wanted v) v told w
