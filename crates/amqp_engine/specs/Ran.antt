-- Part: the promise.
-- A run: of the same entries three things are said, each in its own file.
use Rattle.std.specs.Prelude.{List, ◌++◌}
use Rattle.amqp_session.specs.Relay.{Relays}
use Rattle.amqp_engine.specs.declared.engine.input.Input.{Input}
use Rattle.amqp_engine.specs.declared.engine.answer.Answer.{Answer}
use Rattle.amqp_engine.specs.EngineView.{EngineView}
use Rattle.amqp_engine.specs.Entry.{Entry}
use Rattle.amqp_engine.specs.History.{Chain}
use Rattle.amqp_engine.specs.Promise.{Promise}
use Rattle.amqp_engine.specs.Views.{Views}

pub record Ran {R : Type 0} (g : Relays R) (wished : List (Entry R)) (v : EngineView R) (inputs : List (Input R)) (answers : List Answer)
    (v' : EngineView R) (inputs' : List (Input R)) (answers' : List Answer) : Type 0 where
  pub entries : List (Entry R)
  -- the history goes on by them, and what comes out is theirs
  pub promise : Promise g wished entries v inputs answers v' inputs' answers'
  -- what the engine shows is what they give
  pub views : Views g (wished ++ entries) v v'
  -- each of them is a step, exactly
  pub steps : Chain g v (wished ++ entries) v'
