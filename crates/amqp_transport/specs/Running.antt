-- Part: other calls; inner.
-- What a run of a transport does: it is a run of the engine, whose output is written.
use Rattle.std.specs.Prelude.{◌≡◌, ℕ, ◌+◌, ◌-◌, ◌^◌, ◌⊎◌, min, List, [], ◌∷◌, ◌++◌, map, Bool, true, false, Option, Some, None, Result, Ok, Err, if◌then◌else◌, nat_eq}
use Rattle.std.specs.Io.KnownBytes.{Appends, Keeps, IsAtEnd}
use Rattle.std.specs.declared.io.Error.{Error}
use Rattle.amqp_memory.specs.Refusal.{SomeRefused}
use Rattle.amqp_types.specs.Error.{ErrorModel}
use Rattle.amqp_session.specs.Relay.{Relays}
use Rattle.amqp_engine.specs.declared.engine.input.Input.{Input}
use Rattle.amqp_engine.specs.declared.engine.input.Input.TheVariants as input
use Rattle.amqp_engine.specs.declared.engine.answer.Answer.{Answer}
use Rattle.amqp_engine.specs.declared.engine.refusal.Refusal.{Refusal}
use Rattle.amqp_engine.specs.declared.engine.refusal.Refusal.TheVariants as refusal
use Rattle.amqp_engine.specs.EngineView.{EngineView}
use Rattle.amqp_engine.specs.Promise.{NoneLeft}
use Rattle.amqp_engine.specs.Ran.{Ran}
use Rattle.amqp_engine.specs.RunInto.{sent_of, refusals_of}
use Rattle.amqp_transport.specs.Failing.{WriteFailed, NoMemory}
use Rattle.amqp_transport.specs.Stream.{TakesFrame, NoFrame}

-- What a call works on: an engine, the inputs that are left, what is to be sent, the refusals, and the bytes that the writer holds, where
-- they are known.
pub record Work (R : Type 0) : Type 0 where
  pub engine : EngineView R
  pub inputs : List (Input R)
  pub out : List ℕ
  pub refusals : List Refusal
  pub written : Option (List ℕ)

abbrev pub work : {R : Type 0} → EngineView R → List (Input R) → List ℕ → List Refusal → Option (List ℕ) → Work R
work engine inputs out refusals written = record { engine = engine; inputs = inputs; out = out; refusals = refusals; written = written }

-- with one more input, after the others
abbrev pub with_input : {R : Type 0} → Input R → Work R → Work R
with_input i w = record w { inputs = w.inputs ++ i ∷ [] }

-- What was to be sent is written, and after it what these answers send; nothing is to be sent then.
abbrev pub Writes : {R : Type 0} → Work R → List Answer → Work R → Type 0
Writes old answers new = Appends old.written new.written (old.out ++ sent_of answers) × (new.out ≡ [])

-- All is done, and written. Or the writer failed; or memory was refused, and all so far is written.
abbrev pub RunEnds : {R X : Type 0} → Work R → List Answer → Work R → Result X Error → Type 0
RunEnds old answers new (Ok x) = NoneLeft new.inputs new.engine × Writes old answers new
RunEnds old answers new (Err e) = WriteFailed e ⊎ ((¬ NoneLeft new.inputs new.engine) × Writes old answers new × NoMemory e)

pub record Runs {R X : Type 0} (g : Relays R) (old new : Work R) (result : Result X Error) : Type 0 where
  pub answers : List Answer
  -- a run of the engine, also where it fails: inputs are taken from the front, and the others are left
  pub ran : Ran g [] old.engine old.inputs [] new.engine new.inputs answers
  -- what it refused is appended; places count the inputs of the call
  pub told : new.refusals ≡ old.refusals ++ refusals_of None answers
  pub ends : RunEnds old answers new result

-- the greatest frame that this side takes, as its Open says
abbrev pub own_max : {R : Type 0} → Work R → ℕ
own_max w = w.engine.connection.local_open.max_frame_size

-- The frame that comes next is one more input, or the input has ended; then it runs. No frame, or one that has no place among the inputs:
-- then nothing is run.
abbrev pub Receives : {R : Type 0} → Relays R → Work R → Work R → Option (List ℕ) → Option (List ℕ) → Result Bool Error → Type 0
Receives g old new coming coming' (Ok true) =
    (frame : List ℕ) × TakesFrame (own_max old) coming coming' frame × Runs {X = Unit {0}} g (with_input (input.Received frame) old) new (Ok tt)
Receives g old new coming coming' (Ok false) = IsAtEnd coming × Keeps coming coming' × Runs {X = Unit {0}} g old new (Ok tt)
Receives g old new coming coming' (Err e) =
    (NoFrame (own_max old) coming coming' e × (new ≡ old))
    ⊎ ((IsAtEnd coming × Keeps coming coming' × Runs {X = Unit {0}} g old new (Err e))
    ⊎ ((frame : List ℕ) × TakesFrame (own_max old) coming coming' frame
    × ((NoMemory e × (new ≡ old)) ⊎ Runs {X = Unit {0}} g (with_input (input.Received frame) old) new (Err e))))

-- The Close is one more input, and then it runs; or it has no place among the inputs, and nothing is run.
abbrev pub Closes : {R : Type 0} → Relays R → Work R → Work R → Option ErrorModel → Result (Unit {0}) Error → Type 0
Closes g old new error (Ok u) = Runs {X = Unit {0}} g (with_input (input.Close error) old) new (Ok u)
Closes g old new error (Err e) = (NoMemory e × (new ≡ old)) ⊎ Runs {X = Unit {0}} g (with_input (input.Close error) old) new (Err e)

-- ---- places among all inputs of a call

-- The place of a frame that a later try handed back, before which so many inputs were taken: where it waited from before that try, the last
-- of them handed it out, if there was one.
abbrev pub place_on : ℕ → Option ℕ → Option ℕ
place_on taken (Some n) = Some (min (2 ^ 64 - 1) (n + taken))
place_on taken None = if nat_eq taken 0 then None else Some (taken - 1)

abbrev pub counted_on : ℕ → Refusal → Refusal
counted_on taken (refusal.Input place error) = refusal.Input (min (2 ^ 64 - 1) (place + taken)) error
counted_on taken (refusal.Frame place frame) = refusal.Frame (place_on taken place) frame

-- ---- a try of a run

-- all is done, or memory was refused; either way, what is to be sent is written
abbrev pub TryEnds : {R : Type 0} → Work R → List Answer → Work R → Result Bool Error → Type 0
TryEnds old answers new (Ok true) = NoneLeft new.inputs new.engine × Writes old answers new
TryEnds old answers new (Ok false) = (¬ NoneLeft new.inputs new.engine) × Writes old answers new × SomeRefused
TryEnds old answers new (Err e) = WriteFailed e

-- a run of the inputs that are left, before which so many inputs of the call were taken
pub record Tries {R : Type 0} (g : Relays R) (taken : ℕ) (old new : Work R) (result : Result Bool Error) : Type 0 where
  pub answers : List Answer
  pub ran : Ran g [] old.engine old.inputs [] new.engine new.inputs answers
  pub told : new.refusals ≡ old.refusals ++ map (counted_on taken) (refusals_of None answers)
  pub ends : TryEnds old answers new result
