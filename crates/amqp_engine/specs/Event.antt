-- Part: the promise.
-- What an entry of a history does to the connection: an Open or a Close that is sent or received, a session that is begun or
-- gives its channel back, a route that is made or taken away, a session that is forgotten.
use Rattle.std.specs.Prelude.{ℕ, List, [], ◌∷◌, Option, Some, None, Bool, false, nat_eq}
use Rattle.amqp_types.specs.Error.{ErrorModel}
use Rattle.amqp_types.specs.Open.{OpenModel}
use Rattle.amqp_types.specs.Close.{CloseModel}
use Rattle.amqp_session.specs.Settings.{SettingsModel}
use Rattle.amqp_frames.specs.declared.frame.Frame.{Frame}
use Rattle.amqp_frames.specs.declared.frame.FrameBody.{FrameBody}
use Rattle.amqp_frames.specs.declared.frame.FrameBody.TheVariants as body
use Rattle.amqp_engine.specs.declared.engine.input.Input.{Input}
use Rattle.amqp_engine.specs.declared.engine.input.Input.TheVariants as input
use Rattle.amqp_engine.specs.declared.engine.step_error.StepError.{StepError}
use Rattle.amqp_engine.specs.declared.engine.step_error.StepError.TheVariants as no
use Rattle.amqp_engine.specs.Entry.{Entry}

pub data Event : Type 0 where
  -- nothing
  Quiet : Event
  -- this side's Open or Close was sent
  SentOpen : Event
  SentClose : Option ErrorModel → Event
  -- the peer's Open was accepted; the peer's Close came, whatever it is answered
  AcceptedOpen : OpenModel → Event
  CameClose : CloseModel → Event
  -- a session of this number was begun with these settings on this channel; it gave its channel back
  Began : ℕ → SettingsModel → ℕ → Event
  Released : ℕ → Event
  -- a session of this number was let go
  Forgot : ℕ → Event
  -- a channel of the peer's leads to a session; it leads nowhere
  Routed : ℕ → ℕ → Event
  Unrouted : ℕ → Event

-- the channel of the first frame
abbrev pub channel_of : List Frame → ℕ
channel_of [] = 0
channel_of (f ∷ fs) = f.channel

-- A received frame: an Open where it is accepted, and a Close whatever it is answered; a Begin that reaches a session makes a
-- route, and an End that reaches one takes its route away. Where memory was refused before, nothing happened.
abbrev pub received_event : ℕ → FrameBody → Option ℕ → Option StepError → Event
received_event c b reached (Some no.OutOfMemory) = Quiet
received_event c (body.Open o) reached None = AcceptedOpen o
received_event c (body.Close p) reached refusal = CameClose p
received_event c (body.Begin b) (Some n) refusal = Routed c n
received_event c (body.End e) (Some n) refusal = Unrouted c
received_event c b reached refusal = Quiet

abbrev pub event_by : {R : Type 0} → Input R → Option Frame → Option ℕ → Option StepError → List Frame → Event
event_by (input.Received bytes) (Some f) reached refusal frames = received_event f.channel f.body reached refusal
event_by input.Open received reached None frames = SentOpen
event_by (input.Close error) received reached None frames = SentClose error
event_by (input.Begin n settings) received reached None frames = Began n.0 settings (channel_of frames)
event_by (input.Release n) received reached None frames = Released n.0
event_by (input.Forget n) received reached None frames = Forgot n.0
event_by i received reached refusal frames = Quiet

abbrev pub event : {R : Type 0} → Entry R → Event
event e = event_by e.input e.received e.reached e.refusal e.frames

-- it is this number
abbrev pub is_number : ℕ → Option ℕ → Bool
is_number n None = false
is_number n (Some k) = nat_eq n k
