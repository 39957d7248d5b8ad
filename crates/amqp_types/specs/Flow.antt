-- Part: the bytes; other calls; inner.
-- Flow: its fields, and how they stand in a list (AMQP 1.0 part 2, section 2.7.4).
use Rattle.std.specs.Prelude.{ℕ, List, Option, Bool, false}
use Rattle.amqp_values.specs.Slots.{PartsLeft}
use Rattle.amqp_values.specs.Number.{IsBoolean, IsUint, boolean_at, uint_at}
use Rattle.amqp_values.specs.Raw.{SpellsMap, map_at}
use Rattle.amqp_values.specs.Slots.{beside, slot0, slot1, slot2, slot3, slot4, slot5, slot6, slot7, slot8, slot9, slot10}
use Rattle.amqp_values.specs.Slots.{then_at, end_at, named_at, required_at, optional_at, default_at}
use Rattle.amqp_values.specs.Writing.{uint_text}
use Rattle.amqp_values.specs.Same.{Test, both, field, flags, maybe, numbers, texts}
use Rattle.amqp_types.specs.Definitions.{flag_text, value_text}
use Rattle.amqp_types.specs.FieldTable.{FieldTable, no_more, mandatory, optional, or_default}

pub record FlowModel : Type 0 where
  pub next_incoming_id : Option ℕ
  pub incoming_window : ℕ
  pub next_outgoing_id : ℕ
  pub outgoing_window : ℕ
  pub handle : Option ℕ
  pub delivery_count : Option ℕ
  pub link_credit : Option ℕ
  pub available : Option ℕ
  pub drain : Bool
  pub echo : Bool
  pub properties : Option (List ℕ)

-- ---- the fields, in their order

unfoldable pub flow_table : FlowModel → FieldTable
flow_table p =
    optional IsUint uint_text p.next_incoming_id
    (mandatory IsUint uint_text p.incoming_window
    (mandatory IsUint uint_text p.next_outgoing_id
    (mandatory IsUint uint_text p.outgoing_window
    (optional IsUint uint_text p.handle
    (optional IsUint uint_text p.delivery_count
    (optional IsUint uint_text p.link_credit
    (optional IsUint uint_text p.available
    (or_default false IsBoolean flag_text p.drain
    (or_default false IsBoolean flag_text p.echo
    (optional SpellsMap value_text p.properties
    no_more))))))))))

abbrev pub IsFlowBody : FlowModel → List (List ℕ) → Type 0
IsFlowBody p = (flow_table p).Body

-- ---- its reader

abbrev pub FlowSlots : Type 0
FlowSlots =
    Option ℕ × (ℕ × (ℕ × (ℕ × (Option ℕ × (Option ℕ × (Option ℕ × (Option ℕ × (Bool × (Bool × (
    Option (List ℕ) × Unit {0}))))))))))

abbrev pub flow_of : FlowSlots → FlowModel
flow_of x = record {
  next_incoming_id = slot0 x;
  incoming_window = slot1 x;
  next_outgoing_id = slot2 x;
  outgoing_window = slot3 x;
  handle = slot4 x;
  delivery_count = slot5 x;
  link_credit = slot6 x;
  available = slot7 x;
  drain = slot8 x;
  echo = slot9 x;
  properties = slot10 x;
}

abbrev pub flow_slots : FlowModel → FlowSlots
flow_slots p =
    beside p.next_incoming_id
    (beside p.incoming_window
    (beside p.next_outgoing_id
    (beside p.outgoing_window
    (beside p.handle
    (beside p.delivery_count
    (beside p.link_credit
    (beside p.available
    (beside p.drain
    (beside p.echo
    (beside p.properties
    tt))))))))))

unfoldable pub flow_body_at : PartsLeft → Option (FlowModel × PartsLeft)
flow_body_at = named_at flow_of
    (then_at (optional_at uint_at)
    (then_at (required_at uint_at)
    (then_at (required_at uint_at)
    (then_at (required_at uint_at)
    (then_at (optional_at uint_at)
    (then_at (optional_at uint_at)
    (then_at (optional_at uint_at)
    (then_at (optional_at uint_at)
    (then_at (default_at false boolean_at)
    (then_at (default_at false boolean_at)
    (then_at (optional_at map_at)
    end_at)))))))))))

-- ---- when two are the same

abbrev pub flow_first_same : Test FlowModel
flow_first_same =
    both (field (λ p. p.next_incoming_id) (maybe numbers))
    (both (field (λ p. p.incoming_window) numbers)
    (both (field (λ p. p.next_outgoing_id) numbers)
    (both (field (λ p. p.outgoing_window) numbers)
    (both (field (λ p. p.handle) (maybe numbers))
    (field (λ p. p.delivery_count) (maybe numbers))))))

abbrev pub flow_last_same : Test FlowModel
flow_last_same =
    both (field (λ p. p.link_credit) (maybe numbers))
    (both (field (λ p. p.available) (maybe numbers))
    (both (field (λ p. p.drain) flags)
    (both (field (λ p. p.echo) flags)
    (field (λ p. p.properties) (maybe texts)))))

abbrev pub flow_same : Test FlowModel
flow_same = both flow_first_same flow_last_same
