-- Part: the promise.
-- What a run promises.
use Rattle.std.specs.Prelude.{◌≡◌, ◌+◌, List, [], ◌++◌, length, map, All, Some, Result, Ok, Err}
use Rattle.amqp_memory.specs.Refusal.{SomeRefused}
use Rattle.amqp_types.specs.declared.states.ConnectionState.{ConnectionState}
use Rattle.amqp_types.specs.Open.{OpenModel}
use Rattle.amqp_session.specs.Relay.{Relays}
use Rattle.amqp_engine.specs.declared.engine.input.Input.{Input}
use Rattle.amqp_engine.specs.declared.engine.answer.Answer.{Answer}
use Rattle.amqp_engine.specs.declared.engine.answer.Stopped.{Stopped}
use Rattle.amqp_engine.specs.declared.engine.step_error.StepError.TheVariants as no
use Rattle.amqp_engine.specs.EngineView.{EngineView}
use Rattle.amqp_engine.specs.Entry.{Entry}
use Rattle.amqp_engine.specs.ByHistory.{limit_after}
use Rattle.amqp_engine.specs.Headline.{Headline}
use Rattle.amqp_engine.specs.Legal.{Legal}
use Rattle.amqp_engine.specs.Output.{OutputOf}

abbrev pub inputs_of : {R : Type 0} → List (Entry R) → List (Input R)
inputs_of es = map (λ e. e.input) es

-- what waits is put out before the next input is taken
abbrev pub IsTaken : {R : Type 0} → Entry R → Type 0
IsTaken e = ¬ (e.refusal ≡ Some no.OutputWaiting)

-- Whatever legal history came before, it goes on by these entries, and all of it keeps the headline.
abbrev pub GoesOn : {R : Type 0} → Relays R → EngineView R → List (Entry R) → EngineView R → Type 0
GoesOn g v es w = (s : ConnectionState) (o : OpenModel) (H : List (Entry _)) → Legal g s o H v → Legal g s o (H ++ es) w × Headline s o (H ++ es)

-- What is promised of the entries that a run adds to the history, from the view, inputs and answers before to those after: first
-- those of wishes of handles, if any, and then those of the inputs that were taken.
pub record Promise {R : Type 0} (g : Relays R) (wished entries : List (Entry R)) (v : EngineView R) (inputs : List (Input R))
    (answers : List Answer) (v' : EngineView R) (inputs' : List (Input R)) (answers' : List Answer) : Type 0 where
  -- inputs are taken from the front
  pub taken : inputs ≡ inputs_of entries ++ inputs'
  -- none is refused because output waits
  pub all_taken : All IsTaken (wished ++ entries)
  -- what is appended to the answers is what waited and the output of the entries, but for the frames that wait now
  pub out : List Answer
  pub appended : answers' ≡ answers ++ out
  pub said : OutputOf v.limit v.waiting (wished ++ entries) v'.waiting out
  -- by the limit after them a later call goes on
  pub limit_is : v'.limit ≡ limit_after v.limit (wished ++ entries)
  -- the history goes on by them
  pub goes_on : GoesOn g v (wished ++ entries) v'

-- All is done; or the run stopped since a request for memory was refused, says how many inputs it took, and something is left to do.
abbrev pub Ends : {X : Type 0} → Type 0 → List X → List X → Result (Unit {0}) Stopped → Type 0
Ends done inputs inputs' (Ok u) = done
Ends done inputs inputs' (Err stopped) = (length inputs ≡ stopped.done + length inputs') × ¬ done × SomeRefused

-- no input is left, and no frame waits
abbrev pub NoneLeft : {R : Type 0} → List (Input R) → EngineView R → Type 0
NoneLeft inputs v = (inputs ≡ []) × (v.waiting ≡ [])
