-- Part: other calls.
-- An Attach that is done was sent (AMQP 1.0 part 2, section 2.7.3).
use Rattle.std.specs.Prelude.{◌≡◌, List, [], ◌∷◌, None}
use Rattle.fe2o3_amqp.specs.amqp_types.Attach.{AttachModel}
use Rattle.fe2o3_amqp.specs.amqp_frames.declared.frame.Frame.{Frame}
use Rattle.fe2o3_amqp.specs.amqp_frames.declared.frame.FrameBody.TheVariants as body
use Rattle.fe2o3_amqp.specs.amqp_connection.declared.numbers.SessionNo.{SessionNo}
use Rattle.fe2o3_amqp.specs.amqp_engine.declared.engine.input.Input.TheVariants.{Attach}
use Rattle.fe2o3_amqp.specs.amqp_engine.Entry.{Entry}

-- if this entry is one, its one frame is that Attach
abbrev pub AttachGoesOut : {R : Type 0} → Entry R → Type 0
AttachGoesOut e = (n : SessionNo) (a : AttachModel) → e.input ≡ Attach n a → e.refusal ≡ None
    → (f : Frame) × (e.frames ≡ f ∷ []) × (f.body ≡ body.Attach a)

-- so it is of each
abbrev pub AttachesGoOut : {R : Type 0} → List (Entry R) → Type 0
AttachesGoOut [] = Unit {0}
AttachesGoOut (e ∷ es) = AttachGoesOut e × AttachesGoOut es
