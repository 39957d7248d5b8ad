-- Part: other calls; inner.
-- A run that sends into a buffer: it is a run, of whose answers the bytes are appended there, and the refusals to a list.
use Rattle.std.specs.Prelude.{◌≡◌, ℕ, ◌+◌, ◌≤◌, ◌⊎◌, List, [], ◌∷◌, ◌++◌, Option, Some, None, Vec, vec_len, vec_capacity}
use Rattle.std.specs.declared.alloc.Global.{Global}
use Rattle.amqp_session.specs.Relay.{Relays}
use Rattle.amqp_frames.specs.declared.frame.Frame.{Frame}
use Rattle.amqp_frames.specs.Cut.{Fits}
use Rattle.amqp_frames.specs.Wire.{HasRoomFor, SendBufferView, wire_of}
use Rattle.amqp_engine.specs.declared.engine.input.Input.{Input}
use Rattle.amqp_engine.specs.declared.engine.answer.Answer.{Answer}
use Rattle.amqp_engine.specs.declared.engine.answer.Answer.TheVariants as answer
use Rattle.amqp_engine.specs.declared.engine.refusal.Refusal.{Refusal}
use Rattle.amqp_engine.specs.declared.engine.refusal.Refusal.TheVariants as refusal
use Rattle.amqp_engine.specs.declared.engine.step_error.StepError.{StepError}
use Rattle.amqp_engine.specs.EngineView.{EngineView}
use Rattle.amqp_engine.specs.Output.{NextAnswer}
use Rattle.amqp_engine.specs.Ran.{Ran}

-- the bytes that are sent for answers: the pieces of each frame, each after its size
abbrev pub sent_of : List Answer → List ℕ
sent_of [] = []
sent_of (answer.Done ∷ rest) = sent_of rest
sent_of (answer.Refused e ∷ rest) = sent_of rest
sent_of (answer.Out pieces ∷ rest) = wire_of pieces.items ++ sent_of rest
sent_of (answer.TooLarge f ∷ rest) = sent_of rest

-- the place of the input after the one of this place: the first is 0
abbrev pub next_place : Option ℕ → ℕ
next_place None = 0
next_place (Some n) = n + 1

-- The refusals among answers, where the answer before them is of the input of this place: each `Done` and each `Refused` is of the next
-- one, and a frame is of the one that handed it out.
abbrev pub refusals_of : Option ℕ → List Answer → List Refusal
refusals_of before [] = []
refusals_of before (answer.Done ∷ rest) = refusals_of (Some (next_place before)) rest
refusals_of before (answer.Refused e ∷ rest) = refusal.Input (next_place before) e ∷ refusals_of (Some (next_place before)) rest
refusals_of before (answer.Out pieces ∷ rest) = refusals_of before rest
refusals_of before (answer.TooLarge f ∷ rest) = refusal.Frame before f ∷ refusals_of before rest

-- what answers send is appended, and their refusals are, where the answer before them is of this place
abbrev pub Tells : Option ℕ → List Answer → List ℕ → List Refusal → List ℕ → List Refusal → Type 0
Tells before answers out refusals out' refusals' = (out' ≡ out ++ sent_of answers) × (refusals' ≡ refusals ++ refusals_of before answers)

-- a run gives such answers, and they are told so: places count its inputs
abbrev pub RanInto : {R : Type 0} → Relays R → EngineView R → List (Input R) → List ℕ → List Refusal
    → EngineView R → List (Input R) → List ℕ → List Refusal → Type 0
RanInto g v inputs out refusals v' inputs' out' refusals' =
    (answers : List Answer) × Ran g [] v inputs [] v' inputs' answers
    × (out' ≡ out ++ sent_of answers) × (refusals' ≡ refusals ++ refusals_of None answers)

-- ---- why it stops

-- the first frame that waits fits, and there is no room for it
abbrev pub FirstLacks : ℕ → List Frame → SendBufferView → Type 0
FirstLacks limit [] out = ⊥
FirstLacks limit (f ∷ fs) out = Fits f limit × ¬ HasRoomFor f limit out

-- the list of refusals is full; or the first frame that waits fits, and there is no room for it
abbrev pub LacksRoom : {R : Type 0} → EngineView R → SendBufferView → Vec Refusal Global → Type 0
LacksRoom v out refusals = (vec_capacity refusals ≤ vec_len refusals) ⊎ FirstLacks v.limit v.waiting out

-- ---- one frame, and one input

-- the first frame that waits waits no longer, and its answer is told
abbrev pub SendsFirst : {R : Type 0} → Option ℕ → EngineView R → List ℕ → List Refusal → EngineView R → List ℕ → List Refusal → Type 0
SendsFirst place v out refusals w out' refusals' = (a : Answer) × NextAnswer v a w × Tells place (a ∷ []) out refusals out' refusals'

-- it is handed back, since it does not fit
abbrev pub HandsBack : {R : Type 0} → Option ℕ → EngineView R → List Refusal → EngineView R → List Refusal → Type 0
HandsBack place v refusals w refusals' = (f : Frame) × NextAnswer v (answer.TooLarge f) w × (refusals' ≡ refusals ++ refusal.Frame place f ∷ [])

-- the refusal of an input, if it was refused
abbrev pub refusal_at : ℕ → Option StepError → List Refusal
refusal_at place None = []
refusal_at place (Some e) = refusal.Input place e ∷ []
