-- Part: the bytes; other calls; inner.
-- Open: its fields, and how they stand in a list (AMQP 1.0 part 2, section 2.7.1).
use Rattle.std.specs.Prelude.{ℕ, List, Option}
use Rattle.amqp_values.specs.Slots.{PartsLeft}
use Rattle.amqp_values.specs.Number.{IsUint, IsUshort, uint_at, ushort_at}
use Rattle.amqp_values.specs.Text.{IsString, string_at}
use Rattle.amqp_values.specs.Symbols.{IsSymbols, symbols_at}
use Rattle.amqp_values.specs.Raw.{SpellsMap, map_at}
use Rattle.amqp_values.specs.Slots.{beside, slot0, slot1, slot2, slot3, slot4, slot5, slot6, slot7, slot8, slot9}
use Rattle.amqp_values.specs.Slots.{then_at, end_at, named_at, required_at, optional_at, default_at}
use Rattle.amqp_values.specs.Writing.{string_text, symbols_text, uint_or, uint_text, ushort_or}
use Rattle.amqp_values.specs.Same.{Test, both, each, field, maybe, numbers, texts}
use Rattle.amqp_types.specs.Definitions.{value_text}
use Rattle.amqp_types.specs.FieldTable.{FieldTable, no_more, mandatory, optional, or_default}

pub record OpenModel : Type 0 where
  pub container_id : List ℕ
  pub hostname : Option (List ℕ)
  pub max_frame_size : ℕ
  pub channel_max : ℕ
  pub idle_time_out : Option ℕ
  pub outgoing_locales : Option (List (List ℕ))
  pub incoming_locales : Option (List (List ℕ))
  pub offered_capabilities : Option (List (List ℕ))
  pub desired_capabilities : Option (List (List ℕ))
  pub properties : Option (List ℕ)

-- ---- the fields, in their order

unfoldable pub open_table : OpenModel → FieldTable
open_table p =
    mandatory IsString string_text p.container_id
    (optional IsString string_text p.hostname
    (or_default 4294967295 IsUint (uint_or 4294967295) p.max_frame_size
    (or_default 65535 IsUshort (ushort_or 65535) p.channel_max
    (optional IsUint uint_text p.idle_time_out
    (optional IsSymbols symbols_text p.outgoing_locales
    (optional IsSymbols symbols_text p.incoming_locales
    (optional IsSymbols symbols_text p.offered_capabilities
    (optional IsSymbols symbols_text p.desired_capabilities
    (optional SpellsMap value_text p.properties
    no_more)))))))))

abbrev pub IsOpenBody : OpenModel → List (List ℕ) → Type 0
IsOpenBody p = (open_table p).Body

-- ---- its reader

abbrev pub OpenSlots : Type 0
OpenSlots =
    List ℕ × (Option (List ℕ) × (ℕ × (ℕ × (Option ℕ × (Option (List (List ℕ)) × (Option (List (List ℕ)) × (
    Option (List (List ℕ)) × (Option (List (List ℕ)) × (Option (List ℕ) × Unit {0})))))))))

abbrev pub open_of : OpenSlots → OpenModel
open_of x = record {
  container_id = slot0 x;
  hostname = slot1 x;
  max_frame_size = slot2 x;
  channel_max = slot3 x;
  idle_time_out = slot4 x;
  outgoing_locales = slot5 x;
  incoming_locales = slot6 x;
  offered_capabilities = slot7 x;
  desired_capabilities = slot8 x;
  properties = slot9 x;
}

abbrev pub open_slots : OpenModel → OpenSlots
open_slots p =
    beside p.container_id
    (beside p.hostname
    (beside p.max_frame_size
    (beside p.channel_max
    (beside p.idle_time_out
    (beside p.outgoing_locales
    (beside p.incoming_locales
    (beside p.offered_capabilities
    (beside p.desired_capabilities
    (beside p.properties
    tt)))))))))

unfoldable pub open_body_at : PartsLeft → Option (OpenModel × PartsLeft)
open_body_at = named_at open_of
    (then_at (required_at string_at)
    (then_at (optional_at string_at)
    (then_at (default_at 4294967295 uint_at)
    (then_at (default_at 65535 ushort_at)
    (then_at (optional_at uint_at)
    (then_at (optional_at symbols_at)
    (then_at (optional_at symbols_at)
    (then_at (optional_at symbols_at)
    (then_at (optional_at symbols_at)
    (then_at (optional_at map_at)
    end_at))))))))))

-- ---- when two are the same

abbrev pub open_first_same : Test OpenModel
open_first_same =
    both (field (λ p. p.container_id) texts)
    (both (field (λ p. p.hostname) (maybe texts))
    (both (field (λ p. p.max_frame_size) numbers)
    (both (field (λ p. p.channel_max) numbers)
    (field (λ p. p.idle_time_out) (maybe numbers)))))

abbrev pub open_last_same : Test OpenModel
open_last_same =
    both (field (λ p. p.outgoing_locales) (maybe (each texts)))
    (both (field (λ p. p.incoming_locales) (maybe (each texts)))
    (both (field (λ p. p.offered_capabilities) (maybe (each texts)))
    (both (field (λ p. p.desired_capabilities) (maybe (each texts)))
    (field (λ p. p.properties) (maybe texts)))))

abbrev pub open_same : Test OpenModel
open_same = both open_first_same open_last_same
