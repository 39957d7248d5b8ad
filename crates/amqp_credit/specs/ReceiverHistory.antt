-- Part: other calls.
-- The history of one receiver's credit: its calls with their answers, the oldest first, and what they say.
use Rattle.std.specs.Prelude.{ℕ, ◌+◌, ◌^◌, ◌<◌, ◌≡◌, ◌||◌, Bool, true, false, is_some}
use Rattle.std.specs.Prelude.{List, [], ◌∷◌, Option, Some, None, Result, Ok}
use Rattle.amqp_credit.specs.declared.receiver.Renewal.{Renewal}
use Rattle.amqp_credit.specs.declared.receiver.Grant.{Grant}
use Rattle.amqp_credit.specs.declared.receiver.OverCredit.{OverCredit}
use Rattle.amqp_credit.specs.declared.receiver.CountPastLimit.{CountPastLimit}
use Rattle.amqp_credit.specs.Serial.{advanced}
use Rattle.amqp_credit.specs.Chain.{Chain}
use Rattle.amqp_credit.specs.Receiver.{ReceiverView, new_receiver, GrantStep, DrainStep, HeardStep, DeliveryStep}
use Rattle.amqp_credit.specs.Receiver.{RenewStep, wanted, told_by}

-- One call, and its answer. The last five are questions.
pub data ReceiverCall : Type 0 where
  Grants : ℕ → Grant → ReceiverCall
  Drains : Grant → ReceiverCall
  Hears : Option ℕ → Result ℕ CountPastLimit → ReceiverCall
  Takes : Result (Unit {0}) OverCredit → ReceiverCall
  Renews : Option Grant → ReceiverCall
  AsksWanted : Option ℕ → ReceiverCall
  AsksFlowState : Grant → ReceiverCall
  AsksCredit : ℕ → ReceiverCall
  AsksCount : ℕ → ReceiverCall
  AsksDraining : Bool → ReceiverCall

-- the credit goes from one view to the other by this call
abbrev pub ReceiverStep : ReceiverView → ReceiverCall → ReceiverView → Type 0
ReceiverStep v (Grants credit told) w = GrantStep v credit told w
ReceiverStep v (Drains told) w = DrainStep v told w
ReceiverStep v (Hears count answer) w = HeardStep v count answer w
ReceiverStep v (Takes answer) w = DeliveryStep v answer w
ReceiverStep v (Renews told) w = RenewStep v told w
ReceiverStep v (AsksWanted answer) w = (answer ≡ wanted v) × (w ≡ v)
ReceiverStep v (AsksFlowState told) w = (told ≡ told_by v) × (w ≡ v)
ReceiverStep v (AsksCredit n) w = (n ≡ v.credit) × (w ≡ v)
ReceiverStep v (AsksCount n) w = (n ≡ v.count) × (w ≡ v)
ReceiverStep v (AsksDraining answer) w = (answer ≡ v.draining) × (w ≡ v)

-- a legal history of the credit of a receiver that begins with this count and renews by this rule, and the view that
-- it leads to
abbrev pub ReceiverLeadsTo : ℕ → Option Renewal → List ReceiverCall → ReceiverView → Type 0
ReceiverLeadsTo initial renewal H w = (initial < 2 ^ 32) × Chain ReceiverStep (new_receiver initial renewal) H w

-- what holds of every history of every receiver
abbrev pub OfReceivers : (ℕ → Option Renewal → List ReceiverCall → Type 0) → Type 0
OfReceivers P = (initial : ℕ) (renewal : Option Renewal) (H : List ReceiverCall) (v : ReceiverView) →
    ReceiverLeadsTo initial renewal H v → P initial renewal H

-- how many of the credit a call takes: one for a delivery that is taken, and those that the sender used up
abbrev pub takes : ReceiverCall → ℕ
takes (Takes (Ok done)) = 1
takes (Hears count (Ok used)) = used
takes c = 0

abbrev pub taken_in : List ReceiverCall → ℕ
taken_in [] = 0
taken_in (c ∷ cs) = takes c + taken_in cs

-- the credit that a call grants
abbrev pub grant_of : ReceiverCall → Option ℕ
grant_of (Grants credit told) = Some credit
grant_of (Renews (Some told)) = Some told.link_credit
grant_of c = None

abbrev pub has_granted : List ReceiverCall → Bool
has_granted [] = false
has_granted (c ∷ cs) = is_some (grant_of c) || has_granted cs

-- the count after these calls: one more for each of the credit that was taken
abbrev pub count_after : ℕ → List ReceiverCall → ℕ
count_after initial cs = advanced initial (taken_in cs)

-- whether the sender is asked to drain after a call, and after these calls: a grant ends it
abbrev pub drains_after : Bool → ReceiverCall → Bool
drains_after draining (Drains told) = true
drains_after draining (Grants credit told) = false
drains_after draining (Renews (Some told)) = false
drains_after draining c = draining

abbrev pub is_draining_by : Bool → List ReceiverCall → Bool
is_draining_by draining [] = draining
is_draining_by draining (c ∷ cs) = is_draining_by (drains_after draining c) cs
