-- Part: other calls; inner.
-- A request: one input of the engine, and what is answered.
use Rattle.std.specs.Prelude.{◌≡◌, ◌||◌, is_some, List, [], ◌∷◌, Bool, false, Option, Some, None, Result, if◌then◌else◌}
use Rattle.amqp_session.specs.Relay.{Relays}
use Rattle.amqp_connection.specs.Connection.{refusal_of}
use Rattle.amqp_engine.specs.declared.engine.input.Input.{Input}
use Rattle.amqp_engine.specs.declared.engine.refusal.Refusal.{Refusal}
use Rattle.amqp_engine.specs.declared.engine.refusal.Refusal.TheVariants as refusal
use Rattle.amqp_engine.specs.declared.engine.step_error.StepError.{StepError}
use Rattle.amqp_engine.specs.Entry.{Entry}
use Rattle.amqp_engine.specs.RunOne.{LacksNoMemory, RanOne}
use Rattle.amqp_driver.specs.declared.asked.Asked.{Asked}
use Rattle.amqp_driver.specs.declared.asked.Asked.TheVariants as asked
use Rattle.amqp_driver.specs.Driver.{DriverView, NotTaken, counted}

-- The driver runs this one input, and this is its entry in the history; these frames were handed back, since they do not fit the peer's limit.
pub record RunsInput {R : Type 0} (g : Relays R) (d : DriverView R) (i : Input R) (e : Entry R) (returned : List Refusal) (d' : DriverView R) : Type 0 where
  pub ran : RanOne g d.engine i e.refusal d.to_send [] d'.engine d'.to_send returned
  pub entry_is : ran.entry ≡ e
  pub unfit_is : d'.unfit ≡ counted d.unfit returned

-- one of them is the input's own, and did not wait from before
abbrev pub is_own : Refusal → Bool
is_own (refusal.Input place e) = false
is_own (refusal.Frame place f) = is_some place

abbrev pub has_own : List Refusal → Bool
has_own [] = false
has_own (r ∷ rest) = is_own r || has_own rest

-- the answer, by what the engine answered, and by whether a frame of the input's did not fit
abbrev pub asked_by : Option StepError → Bool → Asked
asked_by (Some e) own = asked.Refused e
asked_by None own = if own then asked.TooLarge else asked.Done

abbrev pub asked_of : Option (Result (Unit {0}) StepError) → Bool → Asked
asked_of None own = asked.NoMemory
asked_of (Some answer) own = asked_by (refusal_of answer) own

-- The input is run, and the answer says what became of it. Or memory was refused, and it is not taken.
abbrev pub Requests : {R : Type 0} → Relays R → DriverView R → Input R → Asked → DriverView R → Type 0
Requests g d i asked.NoMemory d' = NotTaken g d d'
Requests g d i asked.Over d' = ⊥
Requests g d i a d' = (e : Entry _) × (returned : List Refusal) × RunsInput g d i e returned d' × (a ≡ asked_by e.refusal (has_own returned))

-- it is not refused for want of memory
abbrev pub AskedWell : Asked → Type 0
AskedWell (asked.Refused e) = LacksNoMemory (Some e)
AskedWell a = Unit {0}
