-- Part: the bytes; other calls; inner.
-- Disposition: its fields, and how they stand in a list (AMQP 1.0 part 2, section 2.7.6).
use Rattle.std.specs.Prelude.{ℕ, List, Option, Bool, false}
use Rattle.amqp_types.specs.declared.definitions.Role.{Role}
use Rattle.amqp_values.specs.Slots.{PartsLeft}
use Rattle.amqp_values.specs.Number.{IsBoolean, IsUint, boolean_at, uint_at}
use Rattle.amqp_values.specs.Raw.{SpellsRaw, raw_at}
use Rattle.amqp_values.specs.Slots.{beside, slot0, slot1, slot2, slot3, slot4, slot5}
use Rattle.amqp_values.specs.Slots.{then_at, end_at, named_at, required_at, optional_at, default_at}
use Rattle.amqp_values.specs.Writing.{uint_text}
use Rattle.amqp_values.specs.Same.{Test, both, field, flags, maybe, numbers, texts}
use Rattle.amqp_types.specs.Definitions.{IsRole, flag_text, role_at, role_text, roles, value_text}
use Rattle.amqp_types.specs.FieldTable.{FieldTable, no_more, mandatory, optional, or_default}

pub record DispositionModel : Type 0 where
  pub role : Role
  pub first : ℕ
  pub last : Option ℕ
  pub settled : Bool
  pub state : Option (List ℕ)
  pub batchable : Bool

-- ---- the fields, in their order

unfoldable pub disposition_table : DispositionModel → FieldTable
disposition_table p =
    mandatory IsRole role_text p.role
    (mandatory IsUint uint_text p.first
    (optional IsUint uint_text p.last
    (or_default false IsBoolean flag_text p.settled
    (optional SpellsRaw value_text p.state
    (or_default false IsBoolean flag_text p.batchable
    no_more)))))

abbrev pub IsDispositionBody : DispositionModel → List (List ℕ) → Type 0
IsDispositionBody p = (disposition_table p).Body

-- ---- its reader

abbrev pub DispositionSlots : Type 0
DispositionSlots = Role × (ℕ × (Option ℕ × (Bool × (Option (List ℕ) × (Bool × Unit {0})))))

abbrev pub disposition_of : DispositionSlots → DispositionModel
disposition_of x = record {
  role = slot0 x;
  first = slot1 x;
  last = slot2 x;
  settled = slot3 x;
  state = slot4 x;
  batchable = slot5 x;
}

abbrev pub disposition_slots : DispositionModel → DispositionSlots
disposition_slots p =
    beside p.role
    (beside p.first
    (beside p.last
    (beside p.settled
    (beside p.state
    (beside p.batchable
    tt)))))

unfoldable pub disposition_body_at : PartsLeft → Option (DispositionModel × PartsLeft)
disposition_body_at = named_at disposition_of
    (then_at (required_at role_at)
    (then_at (required_at uint_at)
    (then_at (optional_at uint_at)
    (then_at (default_at false boolean_at)
    (then_at (optional_at raw_at)
    (then_at (default_at false boolean_at)
    end_at))))))

-- ---- when two are the same

abbrev pub disposition_same : Test DispositionModel
disposition_same =
    both (field (λ p. p.role) roles)
    (both (field (λ p. p.first) numbers)
    (both (field (λ p. p.last) (maybe numbers))
    (both (field (λ p. p.settled) flags)
    (both (field (λ p. p.state) (maybe texts))
    (field (λ p. p.batchable) flags)))))
