-- Part: the promise.
-- An entry of a history.
use Rattle.std.specs.Prelude.{ℕ, List, Option}
use Rattle.amqp_session.specs.History as session
use Rattle.amqp_frames.specs.declared.frame.Frame.{Frame}
use Rattle.amqp_engine.specs.declared.engine.input.Input.{Input}
use Rattle.amqp_engine.specs.declared.engine.step_error.StepError.{StepError}

-- An input; the frame that was received with it; the session that was reached, by its number, and the calls of it, with
-- their answers and the questions to relays; why the input was refused, if it was; and the frames that were handed out with
-- it.
pub record Entry (R : Type 0) : Type 0 where
  pub input : Input R
  pub received : Option Frame
  pub reached : Option ℕ
  pub calls : List (session.SessionCall R)
  pub refusal : Option StepError
  pub frames : List Frame
