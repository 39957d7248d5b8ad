-- The answer to an End of the peer's: its requests, one behind the other.
use Rattle.std.proofs.Common.{Option}
use Rattle.amqp_types.specs.Error.{ErrorModel}
use Rattle.amqp_session.specs.Relay.{Relays}
use Rattle.amqp_connection.specs.declared.numbers.SessionNo.{SessionNo}
use Rattle.amqp_engine.specs.declared.engine.input.Input.TheVariants as input
use Rattle.amqp_driver.specs.declared.answered.EndAnswer.{EndAnswer}
use Rattle.amqp_driver.specs.declared.answered.EndAnswer.TheVariants as end
use Rattle.amqp_driver.specs.declared.asked.Asked.TheVariants as asked
use Rattle.amqp_driver.specs.Driver.{DriverView}
use Rattle.amqp_driver.specs.Ending.{AnswersEnd, Forgets, IsEnding, LetsGo, session_in}
use Rattle.amqp_driver.specs.Requests.{Requests}

pub lets_go : {R : Type 0} (g : Relays R) (d k d' : DriverView R) (n : SessionNo) (a : EndAnswer) → Requests g d (input.Release n) asked.Done k
    → Forgets g k n a d' → LetsGo g d n a d'
lets_go g d k d' n end.Done r x = (k, r, x)
lets_go g d k d' n (end.NotForgotten a) r x = (k, r, x)
lets_go g d k d' n end.NotEnded r x = absurd x
lets_go g d k d' n (end.Unsent a) r x = absurd x
lets_go g d k d' n (end.NotReleased a) r x = absurd x

pub answers_end : {R : Type 0} (g : Relays R) (d k d' : DriverView R) (n : SessionNo) (error : Option ErrorModel) (a : EndAnswer)
    → IsEnding (session_in d n) → Requests g d (input.End n error) asked.Done k → LetsGo g k n a d' → AnswersEnd g d n error a d'
answers_end g d k d' n error end.Done is r x = (k, is, r, x)
answers_end g d k d' n error (end.NotReleased a) is r x = (k, is, r, x)
answers_end g d k d' n error (end.NotForgotten a) is r x = (k, is, r, x)
answers_end g d k d' n error end.NotEnded is r x = absurd x.2
answers_end g d k d' n error (end.Unsent a) is r x = absurd x.2
