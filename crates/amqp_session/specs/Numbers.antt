-- Part: other calls.
-- The number of a delivery is known as its first transfer is accepted, also while it is held back (AMQP 1.0 part 2, section 2.6.12).
use Rattle.std.specs.Prelude.{◌≡◌, ◌%◌, ◌^◌, ℕ, true, List, ◌∷◌, ◌++◌, length, Option, Some, Ok}
use Rattle.amqp_session.specs.declared.frame.SessionFrame.{SessionFrame}
use Rattle.amqp_session.specs.declared.frame.SessionOutgoingItem.{SessionOutgoingItem}
use Rattle.amqp_session.specs.Headline.{accepted, carried, handed}
use Rattle.amqp_session.specs.History.{Made, SessionCall, SendsTransfer}
use Rattle.amqp_session.specs.Transfers.{RequestedTransfer, firsts, frame_of}

-- the number of the delivery that a first transfer begins, where these calls came before it: how many began before, modulo 2^32
abbrev pub number_after : {R : Type 0} → List (SessionCall R) → ℕ
number_after before = firsts (accepted before) % 2 ^ 32

-- Of each transfer that was accepted: the frame that stands at its place among all that were ever handed out, by whatever call and
-- however much later, is its own; and where it is the first of its delivery, that frame carries the number which was known as it was
-- accepted.
abbrev pub NumbersAreKnown : {R : Type 0} → Made → List (SessionCall R) → Type 0
NumbersAreKnown m H =
    (before after : List (SessionCall _)) (h : RequestedTransfer) (item : Option SessionOutgoingItem) (fs more : List SessionFrame) (f : SessionFrame)
    → H ≡ before ++ SendsTransfer h (Ok item) ∷ after → handed H ≡ fs ++ f ∷ more → length fs ≡ length (accepted before)
    → (f ≡ frame_of m.channel (firsts (accepted before)) h) × (h.is_first ≡ true → carried f.body ≡ Some (number_after before))
