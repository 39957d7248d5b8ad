-- Part: handles; other calls.
-- One input alone, and frames that leave.
use Rattle.std.specs.Prelude.{List, [], ◌∷◌, Option}
use Rattle.amqp_types.specs.declared.states.ConnectionState.{ConnectionState}
use Rattle.amqp_types.specs.Open.{OpenModel}
use Rattle.amqp_session.specs.Relay.{Relays}
use Rattle.amqp_engine.specs.declared.engine.input.Input.{Input}
use Rattle.amqp_engine.specs.declared.engine.step_error.StepError.{StepError}
use Rattle.amqp_engine.specs.EngineView.{EngineView}
use Rattle.amqp_engine.specs.Entry.{Entry}
use Rattle.amqp_engine.specs.Engine.{Steps}
use Rattle.amqp_engine.specs.Legal.{Legal}
use Rattle.amqp_engine.specs.Promise.{GoesOn}

-- the entry of a step: it has this input and this refusal
abbrev pub entry_of : {R : Type 0} {g : Relays R} {v : EngineView R} {i : Input R} {refusal : Option StepError} {w : EngineView R} →
    Steps g v i refusal w → Entry R
entry_of {i = i} {refusal = refusal} step = record {
  input = i;
  received = step.received;
  reached = step.reached;
  calls = step.calls;
  refusal = refusal;
  frames = step.frames;
}

-- A step, exactly; and the history goes on by its entry.
pub record Stepped {R : Type 0} (g : Relays R) (v : EngineView R) (i : Input R) (refusal : Option StepError) (w : EngineView R) : Type 0 where
  pub step : Steps g v i refusal w
  pub goes_on : GoesOn g v (entry_of step ∷ []) w

-- the history stays, and is legal for the view after too
abbrev pub Stays : {R : Type 0} → Relays R → EngineView R → EngineView R → Type 0
Stays g v w = (s : ConnectionState) (o : OpenModel) (H : List (Entry _)) → Legal g s o H v → Legal g s o H w
