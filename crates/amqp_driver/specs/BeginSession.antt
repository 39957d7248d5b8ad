-- Part: other calls.
-- A session that the peer begins: the engine begins one, and the two Begins are turned (AMQP 1.0 part 2, section 2.5.1).
use Rattle.std.specs.Prelude.{◌≡◌, ◌-◌, ◌^◌, ◌⊎◌, ℕ, List, [], ◌∷◌, Some, None, Result, Ok, Err}
use Rattle.amqp_memory.specs.Refusal.{SomeRefused}
use Rattle.amqp_types.specs.Begin.{BeginModel}
use Rattle.amqp_session.specs.Relay.{Relays}
use Rattle.amqp_session.specs.Settings.{SettingsModel}
use Rattle.amqp_connection.specs.declared.numbers.SessionNo.{SessionNo}
use Rattle.amqp_frames.specs.Piece.{PieceParts, piece_bytes}
use Rattle.amqp_frames.specs.declared.error.Error.{Error}
use Rattle.amqp_frames.specs.declared.error.Error.TheVariants as frame
use Rattle.amqp_engine.specs.declared.engine.answer.Answer.{Answer}
use Rattle.amqp_engine.specs.declared.engine.answer.Answer.TheVariants as answer
use Rattle.amqp_engine.specs.declared.engine.input.Input.{Input}
use Rattle.amqp_engine.specs.declared.engine.input.Input.TheVariants as input
use Rattle.amqp_engine.specs.EngineView.{EngineView}
use Rattle.amqp_engine.specs.Ran.{Ran}
use Rattle.amqp_engine.specs.Stepped.{Stepped}
use Rattle.amqp_driver.specs.declared.turning.TurnError.{TurnError}
use Rattle.amqp_driver.specs.declared.turning.TurnError.TheVariants as turn
use Rattle.amqp_driver.specs.declared.turning.BeginSessionError.{BeginSessionError}
use Rattle.amqp_driver.specs.declared.turning.BeginSessionError.TheVariants as no
use Rattle.amqp_driver.specs.declared.turning.Turned.{Turned}
use Rattle.amqp_driver.specs.Turn.{ReadsBegin, WritesAnswer}

-- the bytes are the first piece of the one frame among the answers
abbrev pub IsOnePiece : List Answer → List ℕ → Type 0
IsOnePiece (answer.Out pieces ∷ []) bytes = (p : PieceParts) × (rest : List PieceParts) × (pieces.items ≡ p ∷ rest) × (bytes ≡ piece_bytes p)
IsOnePiece answers bytes = ⊥

-- these bytes; or there are no such bytes, or memory was refused
abbrev pub GivesPiece : List Answer → Result (List ℕ) Error → Type 0
GivesPiece answers (Ok bytes) = IsOnePiece answers bytes
GivesPiece answers (Err frame.TooLarge) = (bytes : List ℕ) → ¬ IsOnePiece answers bytes
GivesPiece answers (Err frame.OutOfMemory) = SomeRefused
GivesPiece answers (Err e) = ⊥

-- What waits in the engine is put out, and what goes out so is one frame, of one piece; or why its bytes are not there.
abbrev pub PutsOwn : {R : Type 0} → Relays R → EngineView R → Result (List ℕ) TurnError → EngineView R → Type 0
PutsOwn g old (Ok bytes) new = (left : List (Input _)) × (answers : List Answer) × Ran g [] old [] [] new left answers × GivesPiece answers (Ok bytes)
PutsOwn g old (Err (turn.Frame e)) new = (left : List (Input _)) × (answers : List Answer) × Ran g [] old [] [] new left answers × GivesPiece answers (Err e)
PutsOwn g old (Err e) new = ⊥

-- Both are written as the answer to the other: this side's by the limit, and the peer's by none.
pub record TurnsBoth (own : List ℕ) (remote : ℕ) (theirs : BeginModel) (limit : ℕ) (t : Turned) : Type 0 where
  pub channel : ℕ
  pub ours : BeginModel
  pub read : ReadsBegin own (Ok (channel, ours))
  pub to_send : WritesAnswer channel ours remote limit (Ok t.to_send)
  pub to_take : WritesAnswer remote theirs channel (2 ^ 32 - 1) (Ok t.to_take)

-- both are turned; or one of them is not, and why
abbrev pub TurnsTwo : List ℕ → ℕ → BeginModel → ℕ → Result Turned TurnError → Type 0
TurnsTwo own remote theirs limit (Ok t) = TurnsBoth own remote theirs limit t
TurnsTwo own remote theirs limit (Err e) = ReadsBegin own (Err e)
    ⊎ ((channel : ℕ) × (ours : BeginModel) × ReadsBegin own (Ok (channel, ours))
    × (WritesAnswer remote theirs channel (2 ^ 32 - 1) (Err e) ⊎ WritesAnswer channel ours remote limit (Err e)))

-- The engine's own Begin does not come out; or one of the two cannot be turned.
abbrev pub NotSent : {R : Type 0} → Relays R → EngineView R → List ℕ → ℕ → TurnError → EngineView R → Type 0
NotSent g between frame limit e new = PutsOwn g between (Err e) new
    ⊎ ((remote : ℕ) × (theirs : BeginModel) × (own : List ℕ) × ReadsBegin frame (Ok (remote, theirs)) × PutsOwn g between (Ok own) new
    × TurnsTwo own remote theirs limit (Err e))

-- The frame is the peer's Begin; the engine takes the step of a Begin, and puts its own out; and the two are turned.
pub record Begun {R : Type 0} (g : Relays R) (old : EngineView R) (number : SessionNo) (settings : SettingsModel) (frame : List ℕ) (limit : ℕ)
    (t : Turned) (new : EngineView R) : Type 0 where
  pub remote : ℕ
  pub theirs : BeginModel
  pub own : List ℕ
  pub between : EngineView R
  pub read : ReadsBegin frame (Ok (remote, theirs))
  pub stepped : Stepped g old (input.Begin number settings) None between
  pub put : PutsOwn g between (Ok own) new
  pub turned : TurnsBoth own remote theirs limit t

abbrev pub BeginsSession : {R : Type 0} → Relays R → EngineView R → SessionNo → SettingsModel → List ℕ → ℕ
    → Result Turned BeginSessionError → EngineView R → Type 0
BeginsSession g old number settings frame limit (Ok t) new = Begun g old number settings frame limit t new
BeginsSession g old number settings frame limit (Err (no.Unread e)) new = ReadsBegin frame (Err e) × (new ≡ old)
BeginsSession g old number settings frame limit (Err (no.Refused e)) new = Stepped g old (input.Begin number settings) (Some e) new
BeginsSession g old number settings frame limit (Err (no.Unsent e)) new =
    (between : EngineView _) × Stepped g old (input.Begin number settings) None between × NotSent g between frame limit e new
