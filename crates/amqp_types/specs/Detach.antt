-- Part: the bytes; other calls; inner.
-- Detach: its fields, and how they stand in a list (AMQP 1.0 part 2, section 2.7.7).
use Rattle.std.specs.Prelude.{ℕ, List, Option, Bool, false}
use Rattle.amqp_values.specs.Slots.{PartsLeft}
use Rattle.amqp_values.specs.Number.{IsBoolean, IsUint, boolean_at, uint_at}
use Rattle.amqp_values.specs.Slots.{then_at, end_at, named_at, required_at, optional_at, default_at}
use Rattle.amqp_values.specs.Writing.{uint_text}
use Rattle.amqp_values.specs.Same.{Test, both, field, flags, maybe, numbers}
use Rattle.amqp_types.specs.Definitions.{flag_text}
use Rattle.amqp_types.specs.Error.{ErrorModel, IsError, error_at, error_text, error_same}
use Rattle.amqp_types.specs.FieldTable.{FieldTable, no_more, mandatory, optional, or_default}

pub record DetachModel : Type 0 where
  pub handle : ℕ
  pub closed : Bool
  pub error : Option ErrorModel

-- ---- the fields, in their order

unfoldable pub detach_table : DetachModel → FieldTable
detach_table p =
    mandatory IsUint uint_text p.handle
    (or_default false IsBoolean flag_text p.closed
    (optional IsError error_text p.error
    no_more))

abbrev pub IsDetachBody : DetachModel → List (List ℕ) → Type 0
IsDetachBody p = (detach_table p).Body

-- ---- its reader

abbrev pub DetachSlots : Type 0
DetachSlots = ℕ × (Bool × (Option ErrorModel × Unit {0}))

abbrev pub detach_of : DetachSlots → DetachModel
detach_of (handle, (closed, (error, end))) = record { handle = handle; closed = closed; error = error }

abbrev pub detach_slots : DetachModel → DetachSlots
detach_slots p = (p.handle, (p.closed, (p.error, tt)))

unfoldable pub detach_body_at : PartsLeft → Option (DetachModel × PartsLeft)
detach_body_at = named_at detach_of
    (then_at (required_at uint_at)
    (then_at (default_at false boolean_at)
    (then_at (optional_at error_at)
    end_at)))

-- ---- when two are the same

abbrev pub detach_same : Test DetachModel
detach_same =
    both (field (λ p. p.handle) numbers)
    (both (field (λ p. p.closed) flags)
    (field (λ p. p.error) (maybe error_same)))
