-- Part: other calls.
-- Each input that a run took has its answer, in order.
use Rattle.std.specs.Prelude.{◌≡◌, List, [], ◌∷◌, map}
use Rattle.fe2o3_amqp.specs.amqp_session.Relay.{Relays}
use Rattle.fe2o3_amqp.specs.amqp_engine.declared.engine.input.Input.{Input}
use Rattle.fe2o3_amqp.specs.amqp_engine.declared.engine.answer.Answer.{Answer}
use Rattle.fe2o3_amqp.specs.amqp_engine.declared.engine.answer.Answer.TheVariants.{Done, Refused, Out, TooLarge}
use Rattle.fe2o3_amqp.specs.amqp_engine.Entry.{Entry}
use Rattle.fe2o3_amqp.specs.amqp_engine.Output.{answer_of}
use Rattle.fe2o3_amqp.specs.amqp_engine.EngineView.{EngineView}
use Rattle.fe2o3_amqp.specs.amqp_engine.Ran.{Ran}
use Rattle.example_laws.specs.Attached.{AttachesGoOut}

-- answers without the frames
abbrev pub own : List Answer → List Answer
own [] = []
own (Done ∷ rest) = Done ∷ own rest
own (Refused e ∷ rest) = Refused e ∷ own rest
own (Out pieces ∷ rest) = own rest
own (TooLarge f ∷ rest) = own rest

-- A run of the engine, by its own contract. What it appended has one answer for each of its entries, in their order; and an
-- Attach of one that is done was sent.
pub record Answered {R : Type 0} (g : Relays R) (v : EngineView R) (inputs : List (Input R)) (answers : List Answer)
    (v' : EngineView R) (inputs' : List (Input R)) (answers' : List Answer) : Type 0 where
  pub ran : Ran g [] v inputs answers v' inputs' answers'
  pub each : own ran.promise.out ≡ map (λ e. answer_of e.refusal) ran.entries
  pub attached : AttachesGoOut ran.entries
