-- Part: inner.
-- What the parts of a run of a handled engine answer: a wish that is asked for, and the wishes that were asked for so far.
use Rattle.std.specs.Prelude.{◌≡◌, List, [], ◌∷◌, ◌++◌, All, Option, Some, None}
use Rattle.amqp_session.specs.Relay.{Relays}
use Rattle.amqp_engine.specs.declared.engine.input.Input.{Input}
use Rattle.amqp_engine.specs.declared.engine.input.Input.TheVariants as input
use Rattle.amqp_engine.specs.declared.engine.answer.Answer.{Answer}
use Rattle.amqp_engine.specs.declared.engine.answer.Answer.TheVariants.{Done}
use Rattle.amqp_engine.specs.declared.engine.step_error.StepError.{StepError}
use Rattle.amqp_engine.specs.EngineView.{EngineView}
use Rattle.amqp_engine.specs.Engine.{Steps}
use Rattle.amqp_engine.specs.Entry.{Entry}
use Rattle.amqp_engine.specs.History.{OnlyLeft, Chain}
use Rattle.amqp_engine.specs.Output.{PutOut}
use Rattle.amqp_engine.specs.Promise.{IsTaken}
use Rattle.amqp_engine.specs.HandledRun.{Flushes, accepted}
use Rattle.amqp_engine.specs.Inner.Running.{Running}

-- A wish is asked for. Where it is accepted it is answered, and its frame is put out, or waits.
abbrev pub AskedSo : {R : Type 0} → Option StepError → EngineView R → List Answer → EngineView R → List Answer → Type 0
AskedSo None u answers v' answers' =
    (out : List Answer) × (answers' ≡ (answers ++ Done ∷ []) ++ out) × OnlyLeft u v' × PutOut u.limit u.waiting v'.waiting out
AskedSo (Some r) u answers v' answers' = (v' ≡ u) × (answers' ≡ answers)

pub record Asked {R : Type 0} (g : Relays R) (v : EngineView R) (i : Input R) (answers : List Answer) (v' : EngineView R)
    (answers' : List Answer) : Type 0 where
  pub refusal : Option StepError
  pub stepped : EngineView R
  pub step : Steps g v i refusal stepped
  pub so : AskedSo refusal stepped answers v' answers'

-- the wishes that have been asked for so far
pub record Flushing {R : Type 0} (g : Relays R) (v : EngineView R) (answers : List Answer) (v' : EngineView R) (answers' : List Answer) :
    Type 0 where
  pub flushed : List (Entry R)
  pub flushes : Flushes v.wishes flushed v'.wishes
  pub all_taken : All IsTaken flushed
  pub asked : Chain g v flushed v'
  pub running : Running g v (accepted flushed) answers v' answers'

-- an End or a Close is asked for
abbrev pub IsWish : {R : Type 0} → Input R → Type 0
IsWish (input.End n error) = Unit {0}
IsWish (input.Close error) = Unit {0}
IsWish i = ⊥
