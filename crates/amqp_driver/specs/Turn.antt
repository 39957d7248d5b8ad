-- Part: other calls.
-- The turn of a Begin: one that answers none is made the answer to another one (AMQP 1.0 part 2, section 2.5.1).
use Rattle.std.specs.Prelude.{◌≡◌, ◌≤◌, ◌⊎◌, ℕ, List, length, Some, None, IsSome, Result, Ok, Err}
use Rattle.amqp_memory.specs.Refusal.{SomeRefused}
use Rattle.amqp_types.specs.Begin.{BeginModel}
use Rattle.amqp_frames.specs.declared.frame.Frame.{Frame}
use Rattle.amqp_frames.specs.declared.frame.FrameBody.{FrameBody}
use Rattle.amqp_frames.specs.declared.frame.FrameBody.TheVariants.{Begin}
use Rattle.amqp_frames.specs.declared.error.Error.{Error}
use Rattle.amqp_frames.specs.declared.error.Error.TheVariants as no
use Rattle.amqp_frames.specs.Frame.{IsFrame, Decodes}
use Rattle.amqp_frames.specs.Cut.{Fits}
use Rattle.amqp_frames.specs.ReadBack.{DecodesTo}
use Rattle.amqp_driver.specs.declared.turning.TurnError.{TurnError}
use Rattle.amqp_driver.specs.declared.turning.TurnError.TheVariants as turn

-- the frame of a Begin
abbrev pub begin_frame : ℕ → BeginModel → Frame
begin_frame channel b = record { channel = channel; body = Begin b }

-- the same Begin, as the answer to the one on the channel `remote`: nothing else changes
abbrev pub answering : ℕ → BeginModel → BeginModel
answering remote b = record b { remote_channel = Some remote }

abbrev pub IsBegin : FrameBody → Type 0
IsBegin (Begin b) = Unit {0}
IsBegin body = ⊥

-- The bytes are the frame of a Begin that answers none, on this channel; or why they are not.
abbrev pub ReadsBegin : List ℕ → Result (ℕ × BeginModel) TurnError → Type 0
ReadsBegin bytes (Ok x) = (rest : List ℕ) × IsFrame (begin_frame x.0 x.1) bytes rest × (x.1.remote_channel ≡ None)
ReadsBegin bytes (Err turn.NoBegin) = (f : Frame) × (rest : List ℕ) × IsFrame f bytes rest × ¬ IsBegin f.body
ReadsBegin bytes (Err turn.HasRemoteChannel) =
    (channel : ℕ) × (b : BeginModel) × (rest : List ℕ) × IsFrame (begin_frame channel b) bytes rest × IsSome b.remote_channel
ReadsBegin bytes (Err (turn.Frame e)) = Decodes bytes (Err e)

-- the bytes of a frame that is whole, in one piece
abbrev pub EncodesWhole : Frame → ℕ → Result (List ℕ) Error → Type 0
EncodesWhole f limit (Ok out) = DecodesTo f out × (length out ≤ limit)
EncodesWhole f limit (Err no.TooLarge) = ¬ Fits f limit
EncodesWhole f limit (Err no.OutOfMemory) = Fits f limit × SomeRefused
EncodesWhole f limit (Err e) = ⊥

-- The bytes are decoded as the Begin that answers the one on the channel `remote`, and have no more than the limit; or why there are none.
abbrev pub WritesAnswer : ℕ → BeginModel → ℕ → ℕ → Result (List ℕ) TurnError → Type 0
WritesAnswer channel b remote limit (Ok out) = EncodesWhole (begin_frame channel (answering remote b)) limit (Ok out)
WritesAnswer channel b remote limit (Err (turn.Frame e)) = EncodesWhole (begin_frame channel (answering remote b)) limit (Err e)
WritesAnswer channel b remote limit (Err e) = ⊥

-- A Begin that was turned: read, and written as the answer.
abbrev pub TurnsBegin : List ℕ → ℕ → ℕ → Result (List ℕ) TurnError → Type 0
TurnsBegin bytes remote limit (Ok out) =
    (channel : ℕ) × (b : BeginModel) × ReadsBegin bytes (Ok (channel, b)) × WritesAnswer channel b remote limit (Ok out)
TurnsBegin bytes remote limit (Err e) =
    ReadsBegin bytes (Err e) ⊎ ((channel : ℕ) × (b : BeginModel) × ReadsBegin bytes (Ok (channel, b)) × WritesAnswer channel b remote limit (Err e))
