-- Part: other calls.
-- The history of one sender's credit: its calls with their answers, the oldest first, and what they say.
use Rattle.std.specs.Prelude.{ℕ, ◌+◌, ◌^◌, ◌<◌, ◌≡◌, ◌||◌, Bool, true, false}
use Rattle.std.specs.Prelude.{List, [], ◌∷◌, Option, Some, Result, Ok}
use Rattle.amqp_credit.specs.declared.sender.NoCredit.{NoCredit}
use Rattle.amqp_credit.specs.Serial.{advanced}
use Rattle.amqp_credit.specs.Chain.{Chain}
use Rattle.amqp_credit.specs.Sender.{SenderView, new_sender, FlowStep, SendStep, UseUpStep, is_drain_wanted}

-- One call, and its answer. The last three are questions.
pub data SenderCall : Type 0 where
  Flows : Option ℕ → Option ℕ → Bool → SenderCall
  Sends : Result (Unit {0}) NoCredit → SenderCall
  UsesUp : ℕ → SenderCall
  AsksCredit : ℕ → SenderCall
  AsksCount : ℕ → SenderCall
  AsksDrain : Bool → SenderCall

-- the credit goes from one view to the other by this call
abbrev pub SenderStep : SenderView → SenderCall → SenderView → Type 0
SenderStep v (Flows seen granted drain) w = FlowStep v seen granted drain w
SenderStep v (Sends answer) w = SendStep v answer w
SenderStep v (UsesUp used) w = UseUpStep v used w
SenderStep v (AsksCredit n) w = (n ≡ v.credit) × (w ≡ v)
SenderStep v (AsksCount n) w = (n ≡ v.count) × (w ≡ v)
SenderStep v (AsksDrain answer) w = (answer ≡ is_drain_wanted v) × (w ≡ v)

-- a legal history of the credit of a sender whose Attach begins with this count, and the view that it leads to
abbrev pub SenderLeadsTo : ℕ → List SenderCall → SenderView → Type 0
SenderLeadsTo initial H w = (initial < 2 ^ 32) × Chain SenderStep (new_sender initial) H w

-- what holds of every history of every sender
abbrev pub OfSenders : (ℕ → List SenderCall → Type 0) → Type 0
OfSenders P = (initial : ℕ) (H : List SenderCall) (v : SenderView) → SenderLeadsTo initial H v → P initial H

-- how many of the credit a call takes: one for a delivery that is begun, and those that a drain uses up
abbrev pub takes : SenderCall → ℕ
takes (Sends (Ok done)) = 1
takes (UsesUp used) = used
takes c = 0

abbrev pub taken_in : List SenderCall → ℕ
taken_in [] = 0
taken_in (c ∷ cs) = takes c + taken_in cs

-- a flow of the receiver that says a credit
abbrev pub gives : SenderCall → Bool
gives (Flows seen (Some granted) drain) = true
gives c = false

abbrev pub has_given : List SenderCall → Bool
has_given [] = false
has_given (c ∷ cs) = gives c || has_given cs

-- the count after these calls: one more for each of the credit that was taken
abbrev pub count_after : ℕ → List SenderCall → ℕ
count_after initial cs = advanced initial (taken_in cs)
