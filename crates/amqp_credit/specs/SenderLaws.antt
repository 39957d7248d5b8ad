-- Part: other calls.
-- What holds of every history of a sender's credit (AMQP 1.0 part 2, section 2.6.7).
use Rattle.std.specs.Prelude.{ℕ, ◌-◌, ◌^◌, ◌<◌, ◌≤◌, ◌≡◌, ◌&&◌, ⊤, nat_lt, Bool, false, if◌then◌else◌}
use Rattle.std.specs.Prelude.{List, ◌∷◌, ◌++◌, Option, Some, Ok, Err}
use Rattle.amqp_credit.specs.Serial.{advanced, past}
use Rattle.amqp_credit.specs.Sender.{seen_or, left_of}
use Rattle.amqp_credit.specs.SenderHistory.{SenderCall, taken_in, has_given, count_after}
use Rattle.amqp_credit.specs.SenderHistory.{Flows, Sends, UsesUp, AsksCredit, AsksCount, AsksDrain}

-- Of each call of a history that stands after a flow with a credit, and no further one between them: the credit that
-- the flow left, which is what it granted without what had gone out past the count that it says; whether it asked to
-- drain; the calls since; and the call.
abbrev pub SinceFlow : ℕ → List SenderCall → (ℕ → Bool → List SenderCall → SenderCall → Type 0) → Type 0
SinceFlow initial H P =
    (before since after : List SenderCall) (seen : Option ℕ) (granted : ℕ) (drain : Bool) (c : SenderCall) →
    H ≡ before ++ Flows seen (Some granted) drain ∷ (since ++ c ∷ after) → has_given since ≡ false →
    P (left_of granted (seen_or initial seen) (count_after initial before)) drain since c

-- of each call of a history with no such flow before it
abbrev pub BeforeFlows : List SenderCall → (SenderCall → Type 0) → Type 0
BeforeFlows H P = (before after : List SenderCall) (c : SenderCall) →
    H ≡ before ++ c ∷ after → has_given before ≡ false → P c

-- this call is a delivery that is begun
abbrev pub IsBegun : SenderCall → Type 0
IsBegun (Sends (Ok done)) = ⊤
IsBegun c = ⊥

-- A delivery is begun only where fewer were begun and used up since the last flow than the credit that it left; and
-- none is begun before the first one.
abbrev pub BegunWithinCredit : ℕ → List SenderCall → Type 0
BegunWithinCredit initial H =
    SinceFlow initial H (λ left drain since c. IsBegun c → taken_in since < left)
    × BeforeFlows H (λ c. IsBegun c → ⊥)

-- No more are ever taken than a flow left.
abbrev pub TakenWithinCredit : ℕ → List SenderCall → Type 0
TakenWithinCredit initial H = SinceFlow initial H (λ left drain since c. taken_in since ≤ left)

-- what a call answers where so much credit is left, and the receiver asked to drain or did not
abbrev pub AnswersBy : ℕ → Bool → SenderCall → Type 0
AnswersBy left drain (Sends (Ok done)) = 0 < left
AnswersBy left drain (Sends (Err refused)) = left ≡ 0
AnswersBy left drain (UsesUp used) = used ≡ (if drain then left else 0)
AnswersBy left drain (AsksCredit n) = n ≡ left
AnswersBy left drain (AsksDrain answer) = answer ≡ (drain && nat_lt 0 left)
AnswersBy left drain c = ⊤

-- Each answer is by the credit that is left: what the last flow left, without what was taken since. Before the first
-- one it is 0.
abbrev pub AnswersByHistory : ℕ → List SenderCall → Type 0
AnswersByHistory initial H =
    SinceFlow initial H (λ left drain since c. AnswersBy (left - taken_in since) drain c)
    × BeforeFlows H (λ c. AnswersBy 0 false c)

-- What is used up is used up once: until a flow gives credit again, nothing more is.
abbrev pub UsedUpOnce : List SenderCall → Type 0
UsedUpOnce H = (before since after : List SenderCall) (used again : ℕ) →
    H ≡ before ++ UsesUp used ∷ (since ++ UsesUp again ∷ after) → has_given since ≡ false → again ≡ 0

-- The count that is told is the initial one, and one for each delivery that was begun and each credit that was used
-- up.
abbrev pub CountIsExact : ℕ → List SenderCall → Type 0
CountIsExact initial H = (before after : List SenderCall) (n : ℕ) →
    H ≡ before ++ AsksCount n ∷ after → n ≡ count_after initial before

-- The standard's formula: count and credit of the sender come to the limit, which is the count and the credit that the
-- last flow said, in numbers that wrap. It holds where what had gone out past that count was no more than that credit.
abbrev pub LimitIsKept : ℕ → List SenderCall → Type 0
LimitIsKept initial H =
    (before since after : List SenderCall) (seen : Option ℕ) (granted : ℕ) (drain : Bool) (c : SenderCall) →
    H ≡ before ++ Flows seen (Some granted) drain ∷ (since ++ c ∷ after) → has_given since ≡ false →
    seen_or initial seen < 2 ^ 32 → past (count_after initial before) (seen_or initial seen) ≤ granted →
    advanced (count_after initial (before ++ Flows seen (Some granted) drain ∷ since))
    (left_of granted (seen_or initial seen) (count_after initial before) - taken_in since)
    ≡ advanced (seen_or initial seen) granted
