-- Part: the promise; other calls; inner.
-- What comes out for a history: each entry's answer, and after it the pieces of its frames, under the limit that holds then.
use Rattle.std.specs.Prelude.{ℕ, ◌≡◌, List, [], ◌∷◌, ◌++◌, Option, Some, None, Result, Ok, Err}
use Rattle.amqp_memory.specs.Refusal.{SomeRefused}
use Rattle.amqp_frames.specs.declared.frame.Frame.{Frame}
use Rattle.amqp_frames.specs.Piece.{PieceParts}
use Rattle.amqp_frames.specs.Cut.{Fits, Cut, ReadBack}
use Rattle.amqp_engine.specs.declared.engine.answer.Answer.{Answer}
use Rattle.amqp_engine.specs.declared.engine.answer.Answer.TheVariants.{Done, Refused, Out, TooLarge}
use Rattle.amqp_engine.specs.declared.engine.step_error.StepError.{StepError}
use Rattle.amqp_engine.specs.declared.engine.answer.OutputError.{OutputError}
use Rattle.amqp_engine.specs.declared.engine.answer.OutputError.TheVariants as no
use Rattle.amqp_engine.specs.EngineView.{EngineView}
use Rattle.amqp_engine.specs.Entry.{Entry}
use Rattle.amqp_engine.specs.Event.{event}
use Rattle.amqp_engine.specs.ByHistory.{limit_by}

-- ---- answers

abbrev pub answer_of : Option StepError → Answer
answer_of None = Done
answer_of (Some e) = Refused e

-- the answer of one frame: its pieces, which are read back as the frame; or the frame itself where it does not fit
abbrev pub IsOut : ℕ → Frame → Answer → Type 0
IsOut limit f (Out pieces) = Fits f limit × Cut f limit pieces.items × ReadBack f limit pieces.items
IsOut limit f (TooLarge g) = ¬ Fits f limit × (g ≡ f)
IsOut limit f Done = ⊥
IsOut limit f (Refused e) = ⊥

-- each frame's answer, in order
abbrev pub IsOuts : ℕ → List Frame → List Answer → Type 0
IsOuts limit [] outs = outs ≡ []
IsOuts limit (f ∷ fs) outs = (a : Answer) × (rest : List Answer) × (outs ≡ a ∷ rest) × IsOut limit f a × IsOuts limit fs rest

-- frames leave from the front of those that wait, and these are their answers
pub record PutOut (limit : ℕ) (waiting waiting' : List Frame) (outs : List Answer) : Type 0 where
  pub gone : List Frame
  pub left : waiting ≡ gone ++ waiting'
  pub answers : IsOuts limit gone outs

-- All that waited is put out; then come the answer of the first entry and its frames, and so on. After the last entry a
-- front of its frames is put out, and the others wait.
abbrev pub OutputOf : {R : Type 0} → ℕ → List Frame → List (Entry R) → List Frame → List Answer → Type 0
OutputOf limit waiting [] waiting' out = PutOut limit waiting waiting' out
OutputOf limit waiting (e ∷ es) waiting' out = (first : List Answer) × (rest : List Answer) × (out ≡ first ++ (answer_of e.refusal ∷ rest))
    × IsOuts limit waiting first × OutputOf (limit_by limit (event e)) e.frames es waiting' rest

-- ---- one frame at a time

-- a frame waits, and the first one fits
abbrev pub FirstFits : ℕ → List Frame → Type 0
FirstFits limit [] = ⊥
FirstFits limit (f ∷ fs) = Fits f limit

abbrev pub NextOutput : {R X : Type 0} → (X → List PieceParts) → EngineView R → Result (Option X) OutputError → EngineView R → Type 0
NextOutput view v (Ok None) w = (v.waiting ≡ []) × (w ≡ v)
NextOutput view v (Ok (Some x)) w =
    (f : Frame) × (fs : List Frame) × (v.waiting ≡ f ∷ fs) × Fits f v.limit × Cut f v.limit (view x) × ReadBack f v.limit (view x)
    × (w ≡ record v { waiting = fs })
NextOutput view v (Err (no.TooLarge g)) w = (fs : List Frame) × (v.waiting ≡ g ∷ fs) × (¬ Fits g v.limit) × (w ≡ record v { waiting = fs })
NextOutput view v (Err no.Memory) w = FirstFits v.limit v.waiting × (w ≡ v) × SomeRefused

abbrev pub NextAnswer : {R : Type 0} → EngineView R → Answer → EngineView R → Type 0
NextAnswer v a w = (f : Frame) × (fs : List Frame) × (v.waiting ≡ f ∷ fs) × IsOut v.limit f a × (w ≡ record v { waiting = fs })
