-- Part: inner.
-- A frame that was read is taken.
use Rattle.std.specs.Prelude.{◌≡◌, ℕ, List, Bool, true, false, Option, Some, None, Result, Ok, Err}
use Rattle.amqp_memory.specs.Refusal.{SomeRefused}
use Rattle.amqp_session.specs.Relay.{Relays}
use Rattle.amqp_connection.specs.Connection.{refusal_of}
use Rattle.amqp_session.specs.History as session
use Rattle.amqp_frames.specs.declared.error.Error.{Error}
use Rattle.amqp_frames.specs.declared.error.Error.TheVariants as unread
use Rattle.amqp_frames.specs.declared.frame.Frame.{Frame}
use Rattle.amqp_frames.specs.declared.frame.FrameBody.{FrameBody}
use Rattle.amqp_engine.specs.declared.engine.step_error.StepError.{StepError}
use Rattle.amqp_engine.specs.declared.engine.step_error.StepError.TheVariants as no
use Rattle.amqp_engine.specs.EngineView.{EngineView}
use Rattle.amqp_engine.specs.Engine.{ReceivedFrame, kept}
use Rattle.amqp_engine.specs.RunFrame.{IsTried}

-- this body is received on this channel
abbrev pub BodyStep : {R : Type 0} → Relays R → EngineView R → ℕ → FrameBody → Option StepError → EngineView R → Type 0
BodyStep g v c b refusal w =
    (reached : Option ℕ) × (calls : List (session.SessionCall _)) × ReceivedFrame g v c b reached calls refusal w

-- so it is, and the outcome is kept
abbrev pub BodyKept : {R : Type 0} → Relays R → EngineView R → ℕ → FrameBody → Option StepError → EngineView R → Type 0
BodyKept g v c b refusal w =
    (reached : Option ℕ) × (calls : List (session.SessionCall _)) × (m : EngineView _)
    × ReceivedFrame g v c b reached calls refusal m × (w ≡ kept (Some (record { channel = c; body = b })) reached refusal m)

-- a body is received so; or memory was refused for it, and nothing is done
abbrev pub Tries : {R : Type 0} → Relays R → EngineView R → ℕ → FrameBody → Bool → Option StepError → EngineView R → Type 0
Tries g v c b true refusal w = BodyStep g v c b refusal w
Tries g v c b false refusal w = SomeRefused × (w ≡ v)

-- nothing was done, since memory was refused for it
abbrev pub NothingDone : {R : Type 0} → EngineView R → FrameBody → EngineView R → Type 0
NothingDone v b w = IsTried b × SomeRefused × (w ≡ v)

-- the refusal of this answer; where there is none, this one
abbrev pub refusal_or : StepError → Option (Result (Unit {0}) StepError) → Option StepError
refusal_or e None = Some e
refusal_or e (Some answer) = refusal_of answer

-- A body is received, and the answer is this. Or memory was refused for it, and nothing is done.
abbrev pub TakesBody : {R : Type 0} → Relays R → EngineView R → ℕ → FrameBody → Option (Result (Unit {0}) StepError) → EngineView R → Type 0
TakesBody g v c b (Some answer) w = BodyKept g v c b (refusal_of answer) w
TakesBody g v c b None w = NothingDone v b w

abbrev pub TakesFrame : {R : Type 0} → Relays R → EngineView R → Frame → Option (Result (Unit {0}) StepError) → EngineView R → Type 0
TakesFrame g v f answer w = TakesBody g v f.channel f.body answer w

-- What was read is taken: a frame so, and an error is the answer. Or memory was refused as the frame was read.
abbrev pub TakesRead : {R : Type 0} → Relays R → EngineView R → Result Frame Error → Option (Result (Unit {0}) StepError) → EngineView R → Type 0
TakesRead g v (Ok f) answer w = TakesFrame g v f answer w
TakesRead g v (Err e) None w = (e ≡ unread.OutOfMemory) × (w ≡ v)
TakesRead g v (Err e) (Some answer) w = (answer ≡ Err (no.Frame e)) × (¬ (e ≡ unread.OutOfMemory)) × (w ≡ v)
