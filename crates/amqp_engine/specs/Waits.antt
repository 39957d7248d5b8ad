-- Part: the promise; other calls; inner.
-- Frames that wait: what a connection sends itself, and what its sessions hand out.
use Rattle.std.specs.Prelude.{◌≡◌, ℕ, List, [], ◌∷◌, map, Option, Some, None, Bool, true, false}
use Rattle.amqp_frames.specs.declared.frame.Frame.{Frame}
use Rattle.amqp_frames.specs.declared.frame.FrameBody.{FrameBody}
use Rattle.amqp_frames.specs.declared.frame.FrameBody.TheVariants as body
use Rattle.amqp_session.specs.declared.frame.SessionFrame.{SessionFrame}
use Rattle.amqp_session.specs.declared.frame.SessionFrameBody.{SessionFrameBody}
use Rattle.amqp_session.specs.declared.frame.SessionFrameBody.TheVariants as said
use Rattle.amqp_types.specs.Disposition.{DispositionModel}
use Rattle.amqp_engine.specs.declared.engine.output_queue.Backlog.{Backlog}
use Rattle.amqp_engine.specs.declared.engine.output_queue.Backlog.TheVariants as after

-- a session's frame, as the connection sends it: the same channel, and the same performative and payload
abbrev pub body_of : SessionFrameBody → FrameBody
body_of (said.Attach p) = body.Attach p
body_of (said.Flow p) = body.Flow p
body_of (said.Transfer p payload) = body.Transfer p payload
body_of (said.Disposition p) = body.Disposition p
body_of (said.Detach p) = body.Detach p
body_of (said.Begin p) = body.Begin p
body_of (said.End p) = body.End p

abbrev pub frame_of : SessionFrame → Frame
frame_of f = record { channel = f.channel; body = body_of f.body }

abbrev pub sent : List SessionFrame → List Frame
sent fs = map frame_of fs

-- what stands after the first frame: frames of a session, or dispositions, each of which becomes a frame on the channel
abbrev pub disposition_frame : ℕ → DispositionModel → SessionFrame
disposition_frame channel d = record { channel = channel; body = said.Disposition d }

abbrev pub after_frames : Backlog → List SessionFrame
after_frames after.Nothing = []
after_frames (after.Frames fs) = fs.items
after_frames (after.Dispositions channel ds) = map (disposition_frame channel.0) ds.items

-- the frame in front, and those after it
abbrev pub waits : Option Frame → List SessionFrame → List Frame
waits None fs = sent fs
waits (Some f) fs = f ∷ sent fs

-- none is after where none is in front
abbrev pub InFront : Option Frame → List SessionFrame → Type 0
InFront None fs = fs ≡ []
InFront (Some f) fs = Unit {0}

-- this is the first of them
abbrev pub FirstIs : Frame → List Frame → Type 0
FirstIs f [] = ⊥
FirstIs f (g ∷ fs) = f ≡ g

abbrev pub has_frames : List Frame → Bool
has_frames [] = false
has_frames (f ∷ fs) = true

-- the first of them is taken out
abbrev pub TakesFirst : List Frame → Option Frame → List Frame → Type 0
TakesFirst fs None fs' = (fs ≡ []) × (fs' ≡ [])
TakesFirst fs (Some f) fs' = fs ≡ f ∷ fs'
