-- Part: the bytes; other calls; inner.
-- Begin: its fields, and how they stand in a list (AMQP 1.0 part 2, section 2.7.2).
use Rattle.std.specs.Prelude.{ℕ, List, Option}
use Rattle.amqp_values.specs.Slots.{PartsLeft}
use Rattle.amqp_values.specs.Number.{IsUint, IsUshort, uint_at, ushort_at}
use Rattle.amqp_values.specs.Symbols.{IsSymbols, symbols_at}
use Rattle.amqp_values.specs.Raw.{SpellsMap, map_at}
use Rattle.amqp_values.specs.Slots.{beside, slot0, slot1, slot2, slot3, slot4, slot5, slot6, slot7}
use Rattle.amqp_values.specs.Slots.{then_at, end_at, named_at, required_at, optional_at, default_at}
use Rattle.amqp_values.specs.Writing.{symbols_text, uint_or, uint_text, ushort_text}
use Rattle.amqp_values.specs.Same.{Test, both, each, field, maybe, numbers, texts}
use Rattle.amqp_types.specs.Definitions.{value_text}
use Rattle.amqp_types.specs.FieldTable.{FieldTable, no_more, mandatory, optional, or_default}

pub record BeginModel : Type 0 where
  pub remote_channel : Option ℕ
  pub next_outgoing_id : ℕ
  pub incoming_window : ℕ
  pub outgoing_window : ℕ
  pub handle_max : ℕ
  pub offered_capabilities : Option (List (List ℕ))
  pub desired_capabilities : Option (List (List ℕ))
  pub properties : Option (List ℕ)

-- ---- the fields, in their order

unfoldable pub begin_table : BeginModel → FieldTable
begin_table p =
    optional IsUshort ushort_text p.remote_channel
    (mandatory IsUint uint_text p.next_outgoing_id
    (mandatory IsUint uint_text p.incoming_window
    (mandatory IsUint uint_text p.outgoing_window
    (or_default 4294967295 IsUint (uint_or 4294967295) p.handle_max
    (optional IsSymbols symbols_text p.offered_capabilities
    (optional IsSymbols symbols_text p.desired_capabilities
    (optional SpellsMap value_text p.properties
    no_more)))))))

abbrev pub IsBeginBody : BeginModel → List (List ℕ) → Type 0
IsBeginBody p = (begin_table p).Body

-- ---- its reader

abbrev pub BeginSlots : Type 0
BeginSlots = Option ℕ × (ℕ × (ℕ × (ℕ × (ℕ × (Option (List (List ℕ)) × (Option (List (List ℕ)) × (Option (List ℕ) × Unit {0})))))))

abbrev pub begin_of : BeginSlots → BeginModel
begin_of x = record {
  remote_channel = slot0 x;
  next_outgoing_id = slot1 x;
  incoming_window = slot2 x;
  outgoing_window = slot3 x;
  handle_max = slot4 x;
  offered_capabilities = slot5 x;
  desired_capabilities = slot6 x;
  properties = slot7 x;
}

abbrev pub begin_slots : BeginModel → BeginSlots
begin_slots p =
    beside p.remote_channel
    (beside p.next_outgoing_id
    (beside p.incoming_window
    (beside p.outgoing_window
    (beside p.handle_max
    (beside p.offered_capabilities
    (beside p.desired_capabilities
    (beside p.properties
    tt)))))))

unfoldable pub begin_body_at : PartsLeft → Option (BeginModel × PartsLeft)
begin_body_at = named_at begin_of
    (then_at (optional_at ushort_at)
    (then_at (required_at uint_at)
    (then_at (required_at uint_at)
    (then_at (required_at uint_at)
    (then_at (default_at 4294967295 uint_at)
    (then_at (optional_at symbols_at)
    (then_at (optional_at symbols_at)
    (then_at (optional_at map_at)
    end_at))))))))

-- ---- when two are the same

abbrev pub begin_same : Test BeginModel
begin_same =
    both (field (λ p. p.remote_channel) (maybe numbers))
    (both (field (λ p. p.next_outgoing_id) numbers)
    (both (field (λ p. p.incoming_window) numbers)
    (both (field (λ p. p.outgoing_window) numbers)
    (both (field (λ p. p.handle_max) numbers)
    (both (field (λ p. p.offered_capabilities) (maybe (each texts)))
    (both (field (λ p. p.desired_capabilities) (maybe (each texts)))
    (field (λ p. p.properties) (maybe texts))))))))
