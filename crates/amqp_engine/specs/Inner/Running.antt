-- Part: inner.
-- What has been run so far, as the loops of a run keep it.
use Rattle.std.specs.Prelude.{◌≡◌, List, [], ◌∷◌, ◌++◌, All, Option}
use Rattle.amqp_session.specs.Relay.{Relays}
use Rattle.amqp_engine.specs.declared.engine.answer.Answer.{Answer}
use Rattle.amqp_engine.specs.declared.engine.input.Input.{Input}
use Rattle.amqp_engine.specs.declared.engine.input.Input.TheVariants as given
use Rattle.amqp_engine.specs.declared.engine.step_error.StepError.{StepError}
use Rattle.amqp_engine.specs.EngineView.{EngineView}
use Rattle.amqp_engine.specs.Entry.{Entry}
use Rattle.amqp_engine.specs.History.{Chain}
use Rattle.amqp_engine.specs.Engine.{Steps}
use Rattle.amqp_engine.specs.ByHistory.{limit_after}
use Rattle.amqp_engine.specs.Output.{OutputOf}
use Rattle.amqp_engine.specs.Promise.{IsTaken}
use Rattle.amqp_engine.specs.Views.{outcomes_from}

-- these entries have been run so far
pub record Running {R : Type 0} (gives : Relays R) (v : EngineView R) (entries : List (Entry R)) (answers : List Answer) (v' : EngineView R) (answers' : List Answer) : Type 0 where
  pub all_taken : All IsTaken entries
  pub chain : Chain gives v entries v'
  pub limit_is : v'.limit ≡ limit_after v.limit entries
  pub outcomes_are : v'.outcomes ≡ outcomes_from v.outcomes entries
  pub out : List Answer
  pub appended : answers' ≡ answers ++ out
  pub said : OutputOf v.limit v.waiting entries v'.waiting out

-- the first input is a received frame, or a transfer that is requested
abbrev pub IsReceivedFirst : {R : Type 0} → List (Input R) → Type 0
IsReceivedFirst [] = ⊥
IsReceivedFirst (given.Received bytes ∷ others) = Unit {0}
IsReceivedFirst (input ∷ others) = ⊥

abbrev pub IsTransferFirst : {R : Type 0} → List (Input R) → Type 0
IsTransferFirst [] = ⊥
IsTransferFirst (given.Transfer number handle transfer payload is_first ∷ others) = Unit {0}
IsTransferFirst (input ∷ others) = ⊥

-- the first input is taken out, and is a step
abbrev pub StepsFirst : {R : Type 0} → Relays R → EngineView R → List (Input R) → Option StepError → EngineView R → List (Input R) → Type 0
StepsFirst gives v inputs refusal w left = (input : Input _) × (inputs ≡ input ∷ left) × Steps gives v input refusal w
