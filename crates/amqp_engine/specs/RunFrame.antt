-- Part: other calls.
-- One received frame that was read before: it runs as the bytes do that it was read from.
use Rattle.std.specs.Prelude.{◌≡◌, ◌⊎◌, ℕ, List, [], false, Option, Some, None, IsSome, Result, Ok, Err}
use Rattle.amqp_memory.specs.Refusal.{SomeRefused}
use Rattle.amqp_session.specs.Relay.{Relays}
use Rattle.amqp_session.specs.Room.{AttachLacks, FlowLacks, RelayLacks}
use Rattle.amqp_session.specs.declared.error.SessionInnerError.{SessionInnerError}
use Rattle.amqp_session.specs.declared.error.SessionInnerError.TheVariants as Refused
use Rattle.amqp_types.specs.Disposition.{DispositionModel}
use Rattle.amqp_frames.specs.declared.error.Error.{Error}
use Rattle.amqp_frames.specs.declared.error.Error.TheVariants as unread
use Rattle.amqp_frames.specs.declared.frame.Frame.{Frame}
use Rattle.amqp_frames.specs.declared.frame.FrameBody.{FrameBody}
use Rattle.amqp_frames.specs.declared.frame.FrameBody.TheVariants as body
use Rattle.amqp_frames.specs.Frame.{Decodes}
use Rattle.amqp_connection.specs.Connection.{refusal_of}
use Rattle.amqp_connection.specs.declared.error.ConnectionInnerError.TheVariants as routes
use Rattle.amqp_engine.specs.declared.engine.input.Input.TheVariants.{Received}
use Rattle.amqp_engine.specs.declared.engine.refusal.Refusal.{Refusal}
use Rattle.amqp_engine.specs.declared.engine.step_error.StepError.{StepError}
use Rattle.amqp_engine.specs.declared.engine.step_error.StepError.TheVariants as no
use Rattle.amqp_engine.specs.EngineView.{EngineView}
use Rattle.amqp_engine.specs.Engine.{named_error}
use Rattle.amqp_engine.specs.RunInto.{RanInto}
use Rattle.amqp_engine.specs.RunOne.{RanOne}

-- what decoding answers for these bytes, where the rest that a frame leaves is let go
abbrev pub ReadFrom : List ℕ → Result Frame Error → Type 0
ReadFrom bytes (Ok f) = (rest : List ℕ) × Decodes bytes (Ok (f, rest))
ReadFrom bytes (Err e) = Decodes bytes (Err e)

-- the frame, where one was read
abbrev pub frame_read : Result Frame Error → Option Frame
frame_read (Ok f) = Some f
frame_read (Err e) = None

-- It is a run of this one input: of its bytes. What was read of them is what the run received.
pub record RanFrame {R : Type 0} (g : Relays R) (v : EngineView R) (bytes : List ℕ) (read : Result Frame Error) (refused : Option StepError)
    (out : List ℕ) (returned : List Refusal) (v' : EngineView R) (out' : List ℕ) (returned' : List Refusal) : Type 0 where
  pub one : RanOne g v (Received bytes) refused out returned v' out' returned'
  pub received_is : one.entry.received ≡ frame_read read

-- A frame that was taken is such a run, whatever bytes it was read from. One that was not is a run of no input: only what waited is sent.
abbrev pub RunsFrame : {R : Type 0} → Relays R → EngineView R → Result Frame Error → Option (Result (Unit {0}) StepError) → List ℕ → List Refusal
    → EngineView R → List ℕ → List Refusal → Type 0
RunsFrame g v read None out returned v' out' returned' = RanInto g v [] out returned v' [] out' returned'
RunsFrame g v read (Some answer) out returned v' out' returned' =
    (bytes : List ℕ) → ReadFrom bytes read → RanFrame g v bytes read (refusal_of answer) out returned v' out' returned'

-- for these frames memory is asked before anything is done: for the record of a transfer's delivery, the frames that a Flow lets out, the place
-- of an attach, the echoes of an unsettled disposition, the route of a Begin, and the copy of the error that a Close or an End names
abbrev pub IsTried : FrameBody → Type 0
IsTried (body.Transfer t payload) = Unit {0}
IsTried (body.Flow f) = Unit {0}
IsTried (body.Attach a) = Unit {0}
IsTried (body.Disposition d) = d.settled ≡ false
IsTried (body.Begin b) = Unit {0}
IsTried b = IsSome (named_error b)

-- memory was refused as the frame was read, or now
abbrev pub LacksMemory : Result Frame Error → Type 0
LacksMemory (Ok f) = IsTried f.body × SomeRefused
LacksMemory (Err e) = e ≡ unread.OutOfMemory

-- where a session lacks memory for a disposition, a relay asked for an echo, whose state is not said again
abbrev pub StateLacks : DispositionModel → SessionInnerError → Type 0
StateLacks d Refused.OutOfMemory = (d.settled ≡ false) × IsSome d.state × SomeRefused
StateLacks d e = Unit {0}

-- Where memory lacks in the answer to a frame that was taken, the session did not say so by itself: the relay of the link did, or the state of
-- an echo is not said again.
abbrev pub OfRelay : {R : Type 0} → Relays R → FrameBody → Option StepError → Type 0
OfRelay g (body.Transfer t payload) (Some (no.Session e)) = RelayLacks g.transfer_gives t payload (Err e)
OfRelay g (body.Flow f) (Some (no.Session e)) = FlowLacks g.flow_gives f f.handle (Err e)
OfRelay g (body.Attach a) (Some (no.Session e)) = AttachLacks g.attach_gives a (Err e)
OfRelay g (body.Disposition d) (Some (no.Session e)) = StateLacks d e
OfRelay g (body.Begin b) (Some (no.Connection e)) = ¬ (e ≡ routes.OutOfMemory)
OfRelay g b refusal = Unit {0}

-- the same of what was read
abbrev pub OfRead : {R : Type 0} → Relays R → Result Frame Error → Option StepError → Type 0
OfRead g (Ok f) refusal = OfRelay g f.body refusal
OfRead g (Err e) refusal = Unit {0}

-- When a frame is not taken: what waited is not all sent, or memory was refused for the frame itself. Where it was read, any other answer
-- may come, which the run says; where it was not, the answer says why, and memory is no reason.
abbrev pub AnswersRead : {R : Type 0} → EngineView R → Result Frame Error → Option (Result (Unit {0}) StepError) → Type 0
AnswersRead v' read None = (¬ (v'.waiting ≡ [])) ⊎ LacksMemory read
AnswersRead v' (Ok f) (Some answer) = Unit {0}
AnswersRead v' (Err e) (Some answer) = (answer ≡ Err (no.Frame e)) × ¬ (e ≡ unread.OutOfMemory)
