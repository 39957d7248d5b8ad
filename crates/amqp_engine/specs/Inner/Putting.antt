-- Part: inner.
-- The first of the frames that wait: encoded where it stands, and dropped or handed back there.
use Rattle.std.specs.Prelude.{◌≡◌, List, [], ◌∷◌, ◌++◌, Option, Result}
use Rattle.amqp_frames.specs.declared.error.Error.{Error}
use Rattle.amqp_frames.specs.declared.frame.Frame.{Frame}
use Rattle.amqp_frames.specs.Piece.{PieceParts}
use Rattle.amqp_frames.specs.Cut.{Fits, Encodes}
use Rattle.amqp_engine.specs.declared.engine.answer.Answer.{Answer}
use Rattle.amqp_engine.specs.Waits.{FirstIs, TakesFirst}
use Rattle.amqp_engine.specs.EngineView.{EngineView}
use Rattle.amqp_engine.specs.Output.{NextAnswer}

-- the first of them, if any, is dropped
abbrev pub DropsFirst : List Frame → List Frame → Type 0
DropsFirst fs fs' = (x : Option Frame) × TakesFirst fs x fs'

-- the first one is encoded, and waits on
abbrev pub EncodesFirst : {R X : Type 0} → (X → List PieceParts) → EngineView R → Result X Error → EngineView R → Type 0
EncodesFirst view v result w = (f : Frame) × FirstIs f v.waiting × Encodes view f v.limit result × (w ≡ v)

-- the first one does not fit
abbrev pub FirstUnfit : {R : Type 0} → EngineView R → Type 0
FirstUnfit v = (f : Frame) × FirstIs f v.waiting × (¬ Fits f v.limit)

-- the first one waits no longer, and its answer is appended
abbrev pub PutsFirst : {R : Type 0} → EngineView R → List Answer → EngineView R → List Answer → Type 0
PutsFirst v answers w answers' = (a : Answer) × NextAnswer v a w × (answers' ≡ answers ++ a ∷ [])
