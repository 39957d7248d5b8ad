-- Part: other calls.
-- Transfers on the wire. The window counts the transfers of a session (AMQP 1.0 part 2, section 2.5.6), and one that is too long goes
-- out as several frames (section 2.6.14). Where each that was requested is one piece, whatever number its delivery gets, each transfer
-- that is put out is one Transfer frame.
use Rattle.std.specs.Prelude.{ℕ, ◌≡◌, ◌≤◌, List, [], ◌∷◌, ◌++◌}
use Rattle.amqp_types.specs.declared.states.ConnectionState.{ConnectionState}
use Rattle.amqp_types.specs.Open.{OpenModel}
use Rattle.amqp_frames.specs.declared.frame.Frame.{Frame}
use Rattle.amqp_frames.specs.declared.frame.FrameBody.{FrameBody}
use Rattle.amqp_frames.specs.declared.frame.FrameBody.TheVariants as body
use Rattle.amqp_frames.specs.Piece.{PieceParts}
use Rattle.amqp_frames.specs.Cut.{IsWholePiece}
use Rattle.amqp_frames.specs.Split.{IsOnePiece}
use Rattle.amqp_session.specs.Relay.{Relays}
use Rattle.amqp_engine.specs.declared.engine.input.Input.{Input}
use Rattle.amqp_engine.specs.declared.engine.input.Input.TheVariants as input
use Rattle.amqp_engine.specs.declared.engine.answer.Answer.{Answer}
use Rattle.amqp_engine.specs.declared.engine.answer.Answer.TheVariants.{Out}
use Rattle.amqp_engine.specs.EngineView.{EngineView}
use Rattle.amqp_engine.specs.Entry.{Entry}
use Rattle.amqp_engine.specs.Event.{event}
use Rattle.amqp_engine.specs.ByHistory.{limit_by}
use Rattle.amqp_engine.specs.Legal.{Legal}
use Rattle.amqp_engine.specs.Output.{answer_of}
use Rattle.amqp_engine.specs.Promise.{Promise}

-- ---- what is asked of who sends

-- a transfer that is requested is one piece under this limit, whatever number its delivery gets
abbrev pub IsShort : {R : Type 0} → ℕ → Input R → Type 0
IsShort m (input.Transfer n h t payload first) = IsOnePiece m first t payload
IsShort m i = Unit {0}

-- so is each of these inputs
abbrev pub AllShort : {R : Type 0} → ℕ → List (Entry R) → Type 0
AllShort m [] = Unit {0}
AllShort m (e ∷ es) = IsShort m e.input × AllShort m es

-- no limit of a piece that holds while these entries are answered is below this one
abbrev pub NoLimitBelow : {R : Type 0} → ℕ → ℕ → List (Entry R) → Type 0
NoLimitBelow m limit [] = m ≤ limit
NoLimitBelow m limit (e ∷ es) = (m ≤ limit) × NoLimitBelow m (limit_by limit (event e)) es

-- ---- what goes out

-- one piece with all bytes of the frame
abbrev pub IsOneFrame : Frame → Answer → Type 0
IsOneFrame f (Out pieces) = (p : PieceParts) × (pieces.items ≡ p ∷ []) × IsWholePiece f p
IsOneFrame f a = ⊥

-- a transfer is one frame; of others nothing is said
abbrev pub InOneFrame : FrameBody → Frame → Answer → Type 0
InOneFrame (body.Transfer t payload) f a = IsOneFrame f a
InOneFrame b f a = Unit {0}

-- the answers of these frames, in order
abbrev pub AreInFrames : List Frame → List Answer → Type 0
AreInFrames [] outs = outs ≡ []
AreInFrames (f ∷ fs) outs = (a : Answer) × (rest : List Answer) × (outs ≡ a ∷ rest) × InOneFrame f.body f a × AreInFrames fs rest

-- All that comes out: what waited; then the answer of each entry, and its frames; and of the last one's those that do not wait.
abbrev pub SpeaksInFrames : {R : Type 0} → List Frame → List (Entry R) → List Frame → List Answer → Type 0
SpeaksInFrames waiting [] waiting' out = (gone : List Frame) × (waiting ≡ gone ++ waiting') × AreInFrames gone out
SpeaksInFrames waiting (e ∷ es) waiting' out = (first : List Answer) × (rest : List Answer) × (out ≡ first ++ (answer_of e.refusal ∷ rest))
    × AreInFrames waiting first × SpeaksInFrames e.frames es waiting' rest

-- Of every run, after whatever legal history: where each transfer that was requested is one piece under some limit, and no limit of the
-- run is below it, each transfer that the run puts out is one frame.
abbrev pub TransfersAreFrames : {R : Type 0} → Relays R → Type 0
TransfersAreFrames g =
    (s : ConnectionState) (o : OpenModel) (H wished entries : List (Entry _)) (v w : EngineView _) (inputs left : List (Input _)) (answers after : List Answer)
    → Legal g s o H v → (p : Promise g wished entries v inputs answers w left after)
    → (m : ℕ) → AllShort m (H ++ (wished ++ entries)) → NoLimitBelow m v.limit (wished ++ entries)
    → SpeaksInFrames v.waiting (wished ++ entries) w.waiting p.out
