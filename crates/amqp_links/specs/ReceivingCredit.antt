-- Part: other calls.
-- What a receiving end's history says of its credit: no more deliveries are told than were granted (AMQP 1.0 part 2, section 2.6.7).
use Rattle.std.specs.Prelude.{ℕ, ◌+◌, ◌≤◌, ◌≡◌, ◌||◌, Bool, false, List, [], ◌∷◌, ◌++◌, Option, Some, None, Ok, if◌then◌else◌, is_some}
use Rattle.amqp_links.specs.ReceivingHistory.{ReceivingCall, Grants, Renews, Takes}

-- how much a call grants, where it says a flow
abbrev pub granted_by : ReceivingCall → Option ℕ
granted_by (Grants n (Some told)) = Some n
granted_by (Renews (Some told)) = Some told.link_credit
granted_by c = None

abbrev pub has_granted : List ReceivingCall → Bool
has_granted [] = false
has_granted (c ∷ cs) = is_some (granted_by c) || has_granted cs

-- how many deliveries these calls tell: each by its first part
abbrev pub told_by : ReceivingCall → ℕ
told_by (Takes head (Ok p)) = if p.is_first then 1 else 0
told_by c = 0

abbrev pub told_in : List ReceivingCall → ℕ
told_in [] = 0
told_in (c ∷ cs) = told_by c + told_in cs

-- No more deliveries are told since a grant than it granted, until the next one.
abbrev pub ToldWithinGrant : List ReceivingCall → Type 0
ToldWithinGrant H = (before since after : List ReceivingCall) (c : ReceivingCall) (n : ℕ) → H ≡ before ++ c ∷ (since ++ after) → granted_by c ≡ Some n
    → has_granted since ≡ false → told_in since ≤ n

-- None is told before the first one.
abbrev pub NoneToldBefore : List ReceivingCall → Type 0
NoneToldBefore H = (before after : List ReceivingCall) → H ≡ before ++ after → has_granted before ≡ false → told_in before ≡ 0
