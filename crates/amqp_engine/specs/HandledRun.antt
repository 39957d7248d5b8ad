-- Part: handles.
-- What a run of a handled engine does: it asks for what is wished, and then runs the inputs.
use Rattle.std.specs.Prelude.{◌≡◌, ◌⊎◌, ℕ, List, [], ◌∷◌, ◌++◌, map, All, Option, Some, None}
use Rattle.std.specs.FinMap as finite
use Rattle.amqp_types.specs.Error.{ErrorModel}
use Rattle.amqp_session.specs.Relay.{Relays}
use Rattle.amqp_engine.specs.declared.engine.input.Input.{Input}
use Rattle.amqp_engine.specs.declared.engine.input.Input.TheVariants as input
use Rattle.amqp_engine.specs.declared.engine.answer.Answer.{Answer}
use Rattle.amqp_engine.specs.declared.engine.step_error.StepError.{StepError}
use Rattle.amqp_engine.specs.Kept.{Wishes}
use Rattle.amqp_engine.specs.EngineView.{EngineView}
use Rattle.amqp_engine.specs.Entry.{Entry}
use Rattle.amqp_engine.specs.History.{Chain}
use Rattle.amqp_engine.specs.Promise.{inputs_of, IsTaken}
use Rattle.amqp_engine.specs.Ran.{Ran}

-- what a wish asks for, as a request
abbrev pub end_request : {R : Type 0} → ℕ × Option ErrorModel → Input R
end_request e = input.End (record { 0 = e.0 }) e.1

abbrev pub close_requests : {R : Type 0} → Option (Option ErrorModel) → List (Input R)
close_requests None = []
close_requests (Some error) = input.Close error ∷ []

-- the entries that were accepted
abbrev pub if_accepted : {R : Type 0} → Option StepError → Entry R → List (Entry R) → List (Entry R)
if_accepted None e es = e ∷ es
if_accepted (Some r) e es = es

abbrev pub accepted : {R : Type 0} → List (Entry R) → List (Entry R)
accepted [] = []
accepted (e ∷ es) = if_accepted e.refusal e (accepted es)

abbrev pub NoWishes : Wishes → Type 0
NoWishes w = (finite.entries w.ends ≡ []) × (w.close ≡ None)

-- The Close is asked for when no End is left.
abbrev pub ClosesLast : Wishes → Option (Option ErrorModel) → Wishes → Type 0
ClosesLast w None w' = w'.close ≡ w.close
ClosesLast w (Some error) w' = (w.close ≡ Some error) × NoWishes w'

-- Wishes are asked for, each as its request: the Ends by rising number, and then the Close. A wish that is not asked for yet stays.
pub record Flushes {R : Type 0} (w : Wishes) (flushed : List (Entry R)) (w' : Wishes) : Type 0 where
  pub ends : List (ℕ × Option ErrorModel)
  pub close : Option (Option ErrorModel)
  pub ends_first : finite.entries w.ends ≡ ends ++ finite.entries w'.ends
  pub close_last : ClosesLast w close w'
  pub are : inputs_of flushed ≡ map end_request ends ++ close_requests close

-- A run of a handled engine is a run of the wishes that are accepted, and of the inputs.
pub record HandledRan {R : Type 0} (g : Relays R) (v : EngineView R) (inputs : List (Input R)) (answers : List Answer)
    (v' : EngineView R) (inputs' : List (Input R)) (answers' : List Answer) : Type 0 where
  pub flushed : List (Entry R)
  pub flushes : Flushes v.wishes flushed v'.wishes
  pub ran : Ran g (accepted flushed) v inputs answers v' inputs' answers'
  -- each is asked for when nothing waits, also one that is refused: that changes nothing, and leaves no answer
  pub all_taken : All IsTaken flushed
  pub asked : Chain g v (flushed ++ ran.entries) v'
  -- no input is taken before all wishes were asked for
  pub wishes_first : (ran.entries ≡ []) ⊎ NoWishes v'.wishes
