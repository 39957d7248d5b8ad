-- Part: other calls.
-- `dispose`: a disposition of deliveries by their numbers (AMQP 1.0 part 2, section 2.7.6), and its state by the number that records have for it.
use Rattle.std.specs.Prelude.{◌≡◌, ℕ, List, Bool, false, ◌==◌, if◌then◌else◌, Option, Some, None}
use Rattle.amqp_values.specs.Outcome.{outcome_text}
use Rattle.amqp_types.specs.Disposition.{DispositionModel}
use Rattle.amqp_types.specs.declared.definitions.Role.{Role}
use Rattle.amqp_session.specs.Relay.{Relays}
use Rattle.amqp_engine.specs.declared.engine.input.Input.TheVariants as input
use Rattle.amqp_driver.specs.declared.asked.Asked.{Asked}
use Rattle.amqp_driver.specs.Driver.{DriverView}
use Rattle.amqp_driver.specs.Requests.{Requests}

-- no state, accepted, released, modified (part 3, section 3.4); any other number says none of these
abbrev pub state_of : ℕ → Option (Option (List ℕ))
state_of n =
    if n == 0 then Some None else
    if n == 1 then Some (Some (outcome_text 0x24)) else
    if n == 3 then Some (Some (outcome_text 0x26)) else
    if n == 4 then Some (Some (outcome_text 0x27)) else
    None

-- of the deliveries from the first number to the last
abbrev pub disposition_of : Role → ℕ → ℕ → Bool → Option (List ℕ) → DispositionModel
disposition_of role first last settled state = record {
  role = role;
  first = first;
  last = Some last;
  settled = settled;
  state = state;
  batchable = false;
}

-- It is a request of that disposition. Where the number says no state nothing happens.
abbrev pub Disposes : {R : Type 0} → Relays R → DriverView R → ℕ → Role → ℕ → ℕ → Bool → Option (Option (List ℕ)) → Option Asked → DriverView R → Type 0
Disposes g d session role first last settled None answer d' = (answer ≡ None) × (d' ≡ d)
Disposes g d session role first last settled (Some state) answer d' = (a : Asked) × (answer ≡ Some a)
    × Requests g d (input.Disposition (record { 0 = session }) (disposition_of role first last settled state)) a d'
