-- Part: inner.
-- Fields of the headline by names of their own.
use Rattle.std.specs.Prelude.{ℕ, ◌≡◌, ◌++◌, List, Some}
use Rattle.amqp_types.specs.Open.{OpenModel}
use Rattle.amqp_frames.specs.declared.frame.Frame.{Frame}
use Rattle.amqp_engine.specs.declared.engine.step_error.StepError.TheVariants as no
use Rattle.amqp_session.specs.OutgoingFrames.{calls_frames}
use Rattle.amqp_engine.specs.Waits.{sent}
use Rattle.amqp_engine.specs.Entry.{Entry}
use Rattle.amqp_engine.specs.Event.{event}
use Rattle.amqp_engine.specs.ByHistory.{held}
use Rattle.amqp_engine.specs.Headline.{Each, Receives, Asked, own_frames}

abbrev pub AllReceived : {R : Type 0} → List (Entry R) → Type 0
AllReceived H = Each H (λ before e. Receives e.input e)

abbrev pub AllKnown : {R : Type 0} → List (Entry R) → Type 0
AllKnown H = Each H (λ before e. (f : Frame) → e.received ≡ Some f → ¬ (e.refusal ≡ Some no.NoSession))

abbrev pub HeldOnce : {R : Type 0} → List (Entry R) → Type 0
HeldOnce H = (c d n : ℕ) → held c H ≡ Some n → held d H ≡ Some n → c ≡ d

abbrev pub AllAsked : {R : Type 0} → List (Entry R) → Type 0
AllAsked H = Each H (λ before e. Asked before e.reached e)

abbrev pub FramesAre : {R : Type 0} → OpenModel → List (Entry R) → Type 0
FramesAre o H = Each H (λ before e. e.frames ≡ own_frames o (event e) ++ sent (calls_frames e.calls))
