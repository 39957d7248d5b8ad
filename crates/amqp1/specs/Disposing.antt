-- Part: other calls; inner.
-- Dispositions by numbers.
use Rattle.std.specs.Prelude.{◌≡◌, ◌∷◌, [], ℕ, List, Option, Some, None}
use Rattle.amqp_engine.specs.declared.engine.input.Input.{Input}
use Rattle.amqp_engine.specs.declared.engine.input.Input.TheVariants as input
use Rattle.amqp_driver.specs.Settling.{disposition_of, state_of}
use Rattle.amqp1.specs.declared.disposing.DisposeAsked.{DisposeAsked}
use Rattle.amqp1.specs.Asking.{HasByte, HasNumber}
use Rattle.amqp1.specs.Reading.{flag_of, role_of}

-- the session, the role, the first and the last delivery, whether they are settled, and the number of their state
pub record HasDispose (bytes : List ℕ) (x : DisposeAsked) : Type 0 where
  pub role_byte : ℕ
  pub settled_byte : ℕ
  pub after : List ℕ
  pub numbers : List ℕ
  pub second : List ℕ
  pub flags : List ℕ
  pub has_session : HasNumber bytes x.session after
  pub has_role : HasByte after role_byte numbers
  pub role_is : role_of role_byte ≡ Some x.role
  pub has_first : HasNumber numbers x.first second
  pub has_last : HasNumber second x.last flags
  pub has_settled : HasByte flags settled_byte (x.outcome ∷ [])
  pub settled_is : flag_of settled_byte ≡ Some x.settled

-- the disposition that the bytes ask for, where the number of the state is one
abbrev pub AsksDispose : {R : Type 0} → List ℕ → Input R → Type 0
AsksDispose bytes i = (x : DisposeAsked) × (state : Option (List ℕ)) × HasDispose bytes x × (state_of x.outcome ≡ Some state)
    × (i ≡ input.Disposition (record { 0 = x.session }) (disposition_of x.role x.first x.last x.settled state))

-- ---- parts

abbrev pub FindsDispose : List ℕ → Option DisposeAsked → Type 0
FindsDispose bytes None = (x : DisposeAsked) → ¬ HasDispose bytes x
FindsDispose bytes (Some x) = HasDispose bytes x
