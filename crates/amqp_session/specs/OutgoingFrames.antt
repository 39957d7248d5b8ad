-- Part: the promise; other calls.
-- The frames, of every kind, that a session's calls hand out.
use Rattle.std.specs.Prelude.{◌≡◌, ℕ, List, [], ◌∷◌, ◌++◌, Option, Result, Ok, Err}
use Rattle.amqp_session.specs.declared.frame.SessionFrame.{SessionFrame}
use Rattle.amqp_session.specs.declared.frame.SessionOutgoingItem.{SessionOutgoingItem}
use Rattle.amqp_session.specs.declared.error.SessionStateError.{SessionStateError}
use Rattle.amqp_session.specs.declared.error.SessionInnerError.{SessionInnerError}
use Rattle.amqp_session.specs.Items.{item_frames, first_frame}
use Rattle.amqp_session.specs.History.{SessionCall, SendsBegin, SendsEnd, TakesFlow, SendsAttach, SendsFlow, SendsTransfer, SendsDisposition}
use Rattle.amqp_session.specs.History.{SendsDetach, SendsSessionFlow}

abbrev pub state_frames : Result SessionFrame SessionStateError → List SessionFrame
state_frames (Ok f) = f ∷ []
state_frames (Err e) = []

abbrev pub inner_frames : Result (Option SessionOutgoingItem) SessionInnerError → List SessionFrame
inner_frames (Ok item) = item_frames item
inner_frames (Err e) = []

abbrev pub detach_frames : Result (Option SessionFrame) SessionInnerError → List SessionFrame
detach_frames (Ok f) = first_frame f
detach_frames (Err e) = []

-- of one call
abbrev pub call_frames : {R : Type 0} → SessionCall R → List SessionFrame
call_frames (SendsBegin result) = state_frames result
call_frames (SendsEnd error result) = state_frames result
call_frames (TakesFlow f asked result) = inner_frames result
call_frames (SendsAttach a f) = f ∷ []
call_frames (SendsFlow l f) = f ∷ []
call_frames (SendsTransfer h result) = inner_frames result
call_frames (SendsDisposition d terminal f) = f ∷ []
call_frames (SendsDetach d expects_echo result) = detach_frames result
call_frames (SendsSessionFlow item) = item_frames item
call_frames c = []

-- of all, in order
abbrev pub calls_frames : {R : Type 0} → List (SessionCall R) → List SessionFrame
calls_frames [] = []
calls_frames (c ∷ cs) = call_frames c ++ calls_frames cs

-- all are on this channel
abbrev pub OnChannel : ℕ → List SessionFrame → Type 0
OnChannel channel [] = Unit {0}
OnChannel channel (f ∷ fs) = (f.channel ≡ channel) × OnChannel channel fs
