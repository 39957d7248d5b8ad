-- Part: the bytes; other calls; inner.
-- End: its fields, and how they stand in a list (AMQP 1.0 part 2, section 2.7.8).
use Rattle.std.specs.Prelude.{ℕ, List, Option}
use Rattle.amqp_values.specs.Slots.{PartsLeft}
use Rattle.amqp_values.specs.Slots.{then_at, end_at, named_at, optional_at}
use Rattle.amqp_values.specs.Same.{Test, field, maybe}
use Rattle.amqp_types.specs.Error.{ErrorModel, IsError, error_at, error_text, error_same}
use Rattle.amqp_types.specs.FieldTable.{FieldTable, no_more, optional}

pub record EndModel : Type 0 where
  pub error : Option ErrorModel

-- ---- the fields, in their order

unfoldable pub end_table : EndModel → FieldTable
end_table p =
    optional IsError error_text p.error
    no_more

abbrev pub IsEndBody : EndModel → List (List ℕ) → Type 0
IsEndBody p = (end_table p).Body

-- ---- its reader

abbrev pub EndSlots : Type 0
EndSlots = Option ErrorModel × Unit {0}

abbrev pub end_of : EndSlots → EndModel
end_of (error, end) = record { error = error }

abbrev pub end_slots : EndModel → EndSlots
end_slots p = (p.error, tt)

unfoldable pub end_body_at : PartsLeft → Option (EndModel × PartsLeft)
end_body_at = named_at end_of
    (then_at (optional_at error_at)
    end_at)

-- ---- when two are the same

abbrev pub end_same : Test EndModel
end_same =
    field (λ p. p.error) (maybe error_same)
