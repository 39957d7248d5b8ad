-- Part: other calls.
-- One input that is run alone, without a list of inputs.
use Rattle.std.specs.Prelude.{◌≡◌, ℕ, List, [], ◌∷◌, ◌++◌, Option, Some, None, Result}
use Rattle.amqp_memory.specs.Refusal.{SomeRefused}
use Rattle.amqp_session.specs.Relay.{Relays}
use Rattle.amqp_connection.specs.Connection.{refusal_of}
use Rattle.amqp_engine.specs.declared.engine.input.Input.{Input}
use Rattle.amqp_engine.specs.declared.engine.answer.Answer.{Answer}
use Rattle.amqp_engine.specs.declared.engine.refusal.Refusal.{Refusal}
use Rattle.amqp_engine.specs.declared.engine.refusal.Refusal.TheVariants as refusal
use Rattle.amqp_engine.specs.declared.engine.step_error.StepError.{StepError}
use Rattle.amqp_engine.specs.declared.engine.step_error.StepError.TheVariants as no
use Rattle.amqp_session.specs.declared.error.SessionInnerError.TheVariants as Refused
use Rattle.amqp_engine.specs.EngineView.{EngineView}
use Rattle.amqp_engine.specs.Entry.{Entry}
use Rattle.amqp_engine.specs.Ran.{Ran}
use Rattle.amqp_engine.specs.RunInto.{RanInto, sent_of, refusals_of}

-- those of the refusals that hand a frame back
abbrev pub handed_back : List Refusal → List Refusal
handed_back [] = []
handed_back (refusal.Input place e ∷ rest) = handed_back rest
handed_back (refusal.Frame place f ∷ rest) = refusal.Frame place f ∷ handed_back rest

-- It is a run of this one input, which is one entry, and the answer is the run's. The bytes of its answers are appended, and the frames that do
-- not fit are handed back, each with its place: the input's is 0. Its own refusal is not among them.
pub record RanOne {R : Type 0} (g : Relays R) (v : EngineView R) (input : Input R) (refused : Option StepError)
    (out : List ℕ) (returned : List Refusal) (v' : EngineView R) (out' : List ℕ) (returned' : List Refusal) : Type 0 where
  pub answers : List Answer
  pub ran : Ran g [] v (input ∷ []) [] v' [] answers
  pub entry : Entry R
  pub entry_is : ran.entries ≡ entry ∷ []
  pub input_is : entry.input ≡ input
  pub refusal_is : entry.refusal ≡ refused
  pub sent : out' ≡ out ++ sent_of answers
  pub back : returned' ≡ returned ++ handed_back (refusals_of None answers)

-- An input that was taken is such a run. One that was not is a run of no input: some of what waited is sent, and memory was refused for more.
abbrev pub RunsOne : {R : Type 0} → Relays R → EngineView R → Input R → Option (Result (Unit {0}) StepError) → List ℕ → List Refusal
    → EngineView R → List ℕ → List Refusal → Type 0
RunsOne g v input None out returned v' out' returned' =
    RanInto g v [] out returned v' [] out' returned' × (¬ (v'.waiting ≡ [])) × SomeRefused
RunsOne g v input (Some answer) out returned v' out' returned' = RanOne g v input (refusal_of answer) out returned v' out' returned'

-- the refusal is not that memory lacks
abbrev pub LacksNoMemory : Option StepError → Type 0
LacksNoMemory (Some (no.Session Refused.OutOfMemory)) = ⊥
LacksNoMemory refusal = Unit {0}

-- The same of a transfer that is to be sent, for which memory is asked before anything is done: where it is refused, the transfer is not taken.
abbrev pub RunsTransfer : {R : Type 0} → Relays R → EngineView R → Input R → Option (Result (Unit {0}) StepError) → List ℕ → List Refusal
    → EngineView R → List ℕ → List Refusal → Type 0
RunsTransfer g v input None out returned v' out' returned' = RanInto g v [] out returned v' [] out' returned' × SomeRefused
RunsTransfer g v input (Some answer) out returned v' out' returned' = RanOne g v input (refusal_of answer) out returned v' out' returned'
