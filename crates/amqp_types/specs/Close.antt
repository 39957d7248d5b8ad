-- Part: the bytes; other calls; inner.
-- Close: its fields, and how they stand in a list (AMQP 1.0 part 2, section 2.7.9).
use Rattle.std.specs.Prelude.{ℕ, List, Option}
use Rattle.amqp_values.specs.Slots.{PartsLeft}
use Rattle.amqp_values.specs.Slots.{then_at, end_at, named_at, optional_at}
use Rattle.amqp_values.specs.Same.{Test, field, maybe}
use Rattle.amqp_types.specs.Error.{ErrorModel, IsError, error_at, error_text, error_same}
use Rattle.amqp_types.specs.FieldTable.{FieldTable, no_more, optional}

pub record CloseModel : Type 0 where
  pub error : Option ErrorModel

-- ---- the fields, in their order

unfoldable pub close_table : CloseModel → FieldTable
close_table p =
    optional IsError error_text p.error
    no_more

abbrev pub IsCloseBody : CloseModel → List (List ℕ) → Type 0
IsCloseBody p = (close_table p).Body

-- ---- its reader

abbrev pub CloseSlots : Type 0
CloseSlots = Option ErrorModel × Unit {0}

abbrev pub close_of : CloseSlots → CloseModel
close_of (error, end) = record { error = error }

abbrev pub close_slots : CloseModel → CloseSlots
close_slots p = (p.error, tt)

unfoldable pub close_body_at : PartsLeft → Option (CloseModel × PartsLeft)
close_body_at = named_at close_of
    (then_at (optional_at error_at)
    end_at)

-- ---- when two are the same

abbrev pub close_same : Test CloseModel
close_same =
    field (λ p. p.error) (maybe error_same)
