-- Part: other calls.
-- What a sending end's history says of its credit, and of its flows: no delivery is begun past the limit of the receiver's last flow (AMQP 1.0 part 2,
-- section 2.6.7).
use Rattle.std.specs.Prelude.{ℕ, ◌<◌, ◌≡◌, ◌||◌, ◌&&◌, nat_eq, not, Bool, true, false, List, [], ◌∷◌, ◌++◌, Some, Ok, if◌then◌else◌}
use Rattle.amqp_credit.specs.Sender.{SenderView, flowed, is_drain_wanted, new_sender, seen_or, taken_from}
use Rattle.amqp_credit.specs.Serial.{past}
use Rattle.amqp_credit.specs.declared.part.PartEnd.{PartEnd}
use Rattle.amqp_links.specs.declared.life.Life.{Life}
use Rattle.amqp_links.specs.declared.life.Life.TheVariants.{Attaching, Attached}
use Rattle.amqp_links.specs.declared.sending.CreditFlow.{CreditFlow}
use Rattle.amqp_links.specs.declared.sending.SenderFlow.{SenderFlow}
use Rattle.amqp_links.specs.Sending.{SendingView, drained}
use Rattle.amqp_links.specs.SendingHistory.{SendingCall, Counted, busy_after, busy_by, counted_by, life_after, life_by}
use Rattle.amqp_links.specs.SendingHistory.{Answers, Flowed, Flows, Sends}

-- a flow of the receiver counts where the link is attached
abbrev pub flowed_if : Life → CreditFlow → SenderView → SenderView
flowed_if Attached f c = flowed f.delivery_count f.link_credit f.drain c
flowed_if life f c = c

-- The credit of a link after a call, where it stands there, with a delivery under way or not: what a flow gives; one less for a delivery that is begun; and
-- none where this side answers a drain with nothing to send. What is answered plays no part but that something is.
abbrev pub credit_after : SendingCall → Life → Bool → SenderView → SenderView
credit_after (Flows f) life busy c = flowed_if life f c
credit_after (Sends size end (Ok done)) life busy c = if busy then c else taken_from 1 c
credit_after (Answers available (Some told)) life busy c = drained ((nat_eq available 0 && not busy) && is_drain_wanted c) c
credit_after call life busy c = c

abbrev pub credit_by : Life → Bool → SenderView → List SendingCall → SenderView
credit_by life busy c [] = c
credit_by life busy c (call ∷ calls) = credit_by (life_after call life) (busy_after call busy) (credit_after call life busy c) calls

-- the count and the credit of a link whose Attach begins with this count
abbrev pub credit_of : ℕ → List SendingCall → SenderView
credit_of initial H = credit_by Attaching false (new_sender initial) H

-- Count and credit are those.
abbrev pub CreditIs : ℕ → List SendingCall → SendingView → Type 0
CreditIs initial H v = v.credit ≡ credit_of initial H

-- So is what this side's flows say.
abbrev pub FlowsSay : ℕ → List SendingCall → Type 0
FlowsSay initial H = (before after : List SendingCall) (available : ℕ) (told : SenderFlow) → H ≡ before ++ Answers available (Some told) ∷ after
    → (told.delivery_count ≡ (credit_of initial (before ++ Answers available (Some told) ∷ [])).count)
    × (told.link_credit ≡ (credit_of initial (before ++ Answers available (Some told) ∷ [])).credit)

-- a flow that says a credit is among these
abbrev pub gives : Counted → Bool
gives (Flowed seen (Some granted) drain) = true
gives c = false

abbrev pub has_given : List Counted → Bool
has_given [] = false
has_given (c ∷ cs) = gives c || has_given cs

-- A delivery is begun only where the count is past that which the receiver's last flow had seen by less than the credit of that flow: before the limit,
-- which is its delivery-count and its link-credit, in serial arithmetic.
abbrev pub BegunBeforeLimit : ℕ → List SendingCall → Type 0
BegunBeforeLimit initial H =
    (before since after : List SendingCall) (f : CreditFlow) (granted size : ℕ) (end : PartEnd)
    → H ≡ before ++ Flows f ∷ (since ++ Sends size end (Ok tt) ∷ after) → life_by Attaching before ≡ Attached → f.link_credit ≡ Some granted
    → has_given (counted_by Attached (busy_by false before) since) ≡ false → busy_by (busy_by false before) since ≡ false
    → past (credit_of initial (before ++ Flows f ∷ since)).count (seen_or initial f.delivery_count) < granted

-- None is begun before the first flow that says a credit.
abbrev pub NoneBegunBefore : List SendingCall → Type 0
NoneBegunBefore H =
    (before after : List SendingCall) (size : ℕ) (end : PartEnd) → H ≡ before ++ Sends size end (Ok tt) ∷ after
    → has_given (counted_by Attaching false before) ≡ false → busy_by false before ≡ false → ⊥
