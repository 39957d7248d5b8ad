-- Part: other calls.
-- What holds of every history of a receiver's credit (AMQP 1.0 part 2, section 2.6.7).
use Rattle.std.specs.Prelude.{ℕ, ◌-◌, ◌<◌, ◌≤◌, ◌≡◌, ◌⊎◌, ⊤, Bool, true, false, if◌then◌else◌}
use Rattle.std.specs.Prelude.{List, ◌∷◌, ◌++◌, Option, Some, None, Ok, Err}
use Rattle.amqp_credit.specs.declared.receiver.Renewal.{Renewal}
use Rattle.amqp_credit.specs.declared.receiver.Grant.{Grant}
use Rattle.amqp_credit.specs.Serial.{past, is_behind}
use Rattle.amqp_credit.specs.Chain.{Each}
use Rattle.amqp_credit.specs.Receiver.{by_rule}
use Rattle.amqp_credit.specs.ReceiverHistory.{ReceiverCall, taken_in, grant_of, has_granted, count_after}
use Rattle.amqp_credit.specs.ReceiverHistory.{is_draining_by, Grants, Drains, Hears, Takes, Renews}
use Rattle.amqp_credit.specs.ReceiverHistory.{AsksWanted, AsksFlowState, AsksCredit, AsksCount, AsksDraining}

-- Of each call of a history that stands after a grant, and no further one between them: all calls before it, what was
-- granted, the calls since, and the call.
abbrev pub SinceGrant :
    List ReceiverCall → (List ReceiverCall → ℕ → List ReceiverCall → ReceiverCall → Type 0) → Type 0
SinceGrant H P = (before since after : List ReceiverCall) (grant c : ReceiverCall) (credit : ℕ) →
    H ≡ before ++ grant ∷ (since ++ c ∷ after) → grant_of grant ≡ Some credit → has_granted since ≡ false →
    P (before ++ grant ∷ since) credit since c

-- of each call of a history with no grant before it
abbrev pub BeforeGrants : List ReceiverCall → (List ReceiverCall → ReceiverCall → Type 0) → Type 0
BeforeGrants H P = (before after : List ReceiverCall) (c : ReceiverCall) →
    H ≡ before ++ c ∷ after → has_granted before ≡ false → P before c

-- this call is a delivery that is taken
abbrev pub IsTaken : ReceiverCall → Type 0
IsTaken (Takes (Ok done)) = ⊤
IsTaken c = ⊥

-- A delivery is taken only where fewer were taken and used up since the last grant than it granted; and none is before
-- the first one.
abbrev pub TakenWithinGrant : List ReceiverCall → Type 0
TakenWithinGrant H =
    SinceGrant H (λ all credit since c. (taken_in since ≤ credit) × (IsTaken c → taken_in since < credit))
    × BeforeGrants H (λ all c. (taken_in all ≡ 0) × (IsTaken c → ⊥))

-- what a flow of the sender says, at this count and where so much credit is left: so many were used up
abbrev pub UsedBy : ℕ → ℕ → Option ℕ → ℕ → Type 0
UsedBy count left None used = used ≡ 0
UsedBy count left (Some said) used =
    ((past said count ≤ left) × (used ≡ past said count))
    ⊎ ((left < past said count) × (is_behind said count ≡ true) × (used ≡ 0))

-- it says a count past all that was granted
abbrev pub IsPastLimit : ℕ → ℕ → Option ℕ → Type 0
IsPastLimit count left None = ⊥
IsPastLimit count left (Some said) = (left < past said count) × (is_behind said count ≡ false)

-- what a call answers where so much credit is left, at this count
abbrev pub AnswersBy : ℕ → ℕ → ReceiverCall → Type 0
AnswersBy count left (Takes (Ok done)) = 0 < left
AnswersBy count left (Takes (Err refused)) = left ≡ 0
AnswersBy count left (Hears said (Ok used)) = UsedBy count left said used
AnswersBy count left (Hears said (Err refused)) = IsPastLimit count left said
AnswersBy count left (Drains told) = told ≡ record { delivery_count = count; link_credit = left; drain = true }
AnswersBy count left (AsksFlowState told) = told.link_credit ≡ left
AnswersBy count left (AsksCredit n) = n ≡ left
AnswersBy count left c = ⊤

-- Each answer is by the credit that is left: what was granted last, without what was taken since. Before the first
-- grant it is 0.
abbrev pub AnswersByHistory : ℕ → List ReceiverCall → Type 0
AnswersByHistory initial H =
    SinceGrant H (λ all credit since c. AnswersBy (count_after initial all) (credit - taken_in since) c)
    × BeforeGrants H (λ all c. AnswersBy (count_after initial all) 0 c)

-- what a grant tells, and what is told of the count and of a drain
abbrev pub TellsBy : ℕ → Bool → ReceiverCall → Type 0
TellsBy count draining (Grants credit told) =
    told ≡ record { delivery_count = count; link_credit = credit; drain = false }
TellsBy count draining (Renews (Some told)) = (told.delivery_count ≡ count) × (told.drain ≡ false)
TellsBy count draining (AsksFlowState told) = (told.delivery_count ≡ count) × (told.drain ≡ draining)
TellsBy count draining (AsksCount n) = n ≡ count
TellsBy count draining (AsksDraining answer) = answer ≡ draining
TellsBy count draining c = ⊤

-- The count is the initial one, and one for each delivery that was taken and each credit that was used up; the sender
-- is asked to drain since the last drain, if nothing was granted since.
abbrev pub CountIsExact : ℕ → List ReceiverCall → Type 0
CountIsExact initial H = Each H (λ before c. TellsBy (count_after initial before) (is_draining_by false before) c)

-- what is wanted by a rule where so much is left: nothing where the sender is asked to drain
abbrev pub wanted_by : Option Renewal → Bool → ℕ → Option ℕ
wanted_by renewal draining left = if draining then None else by_rule renewal left

-- what a renewal is, and what is said to be wanted
abbrev pub RenewsBy : Option ℕ → ReceiverCall → Type 0
RenewsBy wanted (Renews None) = wanted ≡ None
RenewsBy wanted (Renews (Some told)) = wanted ≡ Some told.link_credit
RenewsBy wanted (AsksWanted answer) = answer ≡ wanted
RenewsBy wanted c = ⊤

-- Each renewal is by the rule and the credit that is left.
abbrev pub RenewsByRule : Option Renewal → List ReceiverCall → Type 0
RenewsByRule renewal H =
    SinceGrant H (λ all credit since c.
    RenewsBy (wanted_by renewal (is_draining_by false all) (credit - taken_in since)) c)
    × BeforeGrants H (λ all c. RenewsBy (wanted_by renewal (is_draining_by false all) 0) c)

-- the rule allows that so much is announced where so much is left
abbrev pub Allows : Option Renewal → ℕ → ℕ → Type 0
Allows None left credit = ⊥
Allows (Some rule) left credit = (left < rule.low) × (left < rule.high) × (credit ≡ rule.high)

-- this holds of what a renewal announces
abbrev pub RenewsOnly : (ℕ → Type 0) → ReceiverCall → Type 0
RenewsOnly P (Renews (Some told)) = P told.link_credit
RenewsOnly P c = ⊤

-- A renewal is told only where the credit that is left is below the low mark, and what it announces is the high one.
abbrev pub RenewedBelowLow : Option Renewal → List ReceiverCall → Type 0
RenewedBelowLow renewal H =
    SinceGrant H (λ all credit since c. RenewsOnly (Allows renewal (credit - taken_in since)) c)
    × BeforeGrants H (λ all c. RenewsOnly (Allows renewal 0) c)

-- Right after a renewal none is wanted.
abbrev pub RenewedOnce : List ReceiverCall → Type 0
RenewedOnce H = (before after : List ReceiverCall) (told : Grant) (answer : Option ℕ) →
    H ≡ before ++ Renews (Some told) ∷ AsksWanted answer ∷ after → answer ≡ None
