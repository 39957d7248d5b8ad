-- Part: the bytes; other calls; inner.
-- Attach: its fields, and how they stand in a list (AMQP 1.0 part 2, section 2.7.3).
use Rattle.std.specs.Prelude.{ℕ, List, Option, Bool, false}
use Rattle.amqp_types.specs.declared.definitions.Role.{Role}
use Rattle.amqp_types.specs.declared.definitions.SenderSettleMode.{SenderSettleMode}
use Rattle.amqp_types.specs.declared.definitions.ReceiverSettleMode.{ReceiverSettleMode}
use Rattle.amqp_types.specs.declared.definitions.SenderSettleMode.TheVariants.{Mixed}
use Rattle.amqp_types.specs.declared.definitions.ReceiverSettleMode.TheVariants.{First}
use Rattle.amqp_values.specs.Slots.{PartsLeft}
use Rattle.amqp_values.specs.Number.{IsBoolean, IsUint, IsUlong, boolean_at, uint_at, ulong_at}
use Rattle.amqp_values.specs.Text.{IsString, string_at}
use Rattle.amqp_values.specs.Symbols.{IsSymbols, symbols_at}
use Rattle.amqp_values.specs.Raw.{SpellsMap, SpellsRaw, map_at, raw_at}
use Rattle.amqp_values.specs.Slots.{beside, slot0, slot1, slot2, slot3, slot4, slot5, slot6, slot7, slot8, slot9}
use Rattle.amqp_values.specs.Slots.{slot10, slot11, slot12, slot13}
use Rattle.amqp_values.specs.Slots.{then_at, end_at, named_at, required_at, optional_at, default_at}
use Rattle.amqp_values.specs.Writing.{string_text, symbols_text, uint_text, ulong_text}
use Rattle.amqp_values.specs.Same.{Test, both, each, field, flags, maybe, numbers, texts}
use Rattle.amqp_types.specs.Definitions.{IsReceiverMode, IsRole, IsSenderMode, flag_text, receiver_mode_at}
use Rattle.amqp_types.specs.Definitions.{receiver_mode_or_first, receiver_modes, role_at, role_text, roles}
use Rattle.amqp_types.specs.Definitions.{sender_mode_at, sender_mode_or_mixed, sender_modes, value_text}
use Rattle.amqp_types.specs.FieldTable.{FieldTable, no_more, mandatory, optional, or_default}

pub record AttachModel : Type 0 where
  pub name : List ℕ
  pub handle : ℕ
  pub role : Role
  pub snd_settle_mode : SenderSettleMode
  pub rcv_settle_mode : ReceiverSettleMode
  pub source : Option (List ℕ)
  pub target : Option (List ℕ)
  pub unsettled : Option (List ℕ)
  pub incomplete_unsettled : Bool
  pub initial_delivery_count : Option ℕ
  pub max_message_size : Option ℕ
  pub offered_capabilities : Option (List (List ℕ))
  pub desired_capabilities : Option (List (List ℕ))
  pub properties : Option (List ℕ)

-- ---- the fields, in their order

unfoldable pub attach_table : AttachModel → FieldTable
attach_table p =
    mandatory IsString string_text p.name
    (mandatory IsUint uint_text p.handle
    (mandatory IsRole role_text p.role
    (or_default Mixed IsSenderMode sender_mode_or_mixed p.snd_settle_mode
    (or_default First IsReceiverMode receiver_mode_or_first p.rcv_settle_mode
    (optional SpellsRaw value_text p.source
    (optional SpellsRaw value_text p.target
    (optional SpellsMap value_text p.unsettled
    (or_default false IsBoolean flag_text p.incomplete_unsettled
    (optional IsUint uint_text p.initial_delivery_count
    (optional IsUlong ulong_text p.max_message_size
    (optional IsSymbols symbols_text p.offered_capabilities
    (optional IsSymbols symbols_text p.desired_capabilities
    (optional SpellsMap value_text p.properties
    no_more)))))))))))))

abbrev pub IsAttachBody : AttachModel → List (List ℕ) → Type 0
IsAttachBody p = (attach_table p).Body

-- ---- its reader

abbrev pub AttachSlots : Type 0
AttachSlots =
    List ℕ × (ℕ × (Role × (SenderSettleMode × (ReceiverSettleMode × (Option (List ℕ) × (Option (List ℕ) × (
    Option (List ℕ) × (Bool × (Option ℕ × (Option ℕ × (Option (List (List ℕ)) × (Option (List (List ℕ)) × (
    Option (List ℕ) × Unit {0})))))))))))))

abbrev pub attach_of : AttachSlots → AttachModel
attach_of x = record {
  name = slot0 x;
  handle = slot1 x;
  role = slot2 x;
  snd_settle_mode = slot3 x;
  rcv_settle_mode = slot4 x;
  source = slot5 x;
  target = slot6 x;
  unsettled = slot7 x;
  incomplete_unsettled = slot8 x;
  initial_delivery_count = slot9 x;
  max_message_size = slot10 x;
  offered_capabilities = slot11 x;
  desired_capabilities = slot12 x;
  properties = slot13 x;
}

abbrev pub attach_slots : AttachModel → AttachSlots
attach_slots p =
    beside p.name
    (beside p.handle
    (beside p.role
    (beside p.snd_settle_mode
    (beside p.rcv_settle_mode
    (beside p.source
    (beside p.target
    (beside p.unsettled
    (beside p.incomplete_unsettled
    (beside p.initial_delivery_count
    (beside p.max_message_size
    (beside p.offered_capabilities
    (beside p.desired_capabilities
    (beside p.properties
    tt)))))))))))))

-- the fields from the delivery count on
abbrev pub AttachRest : Type 0
AttachRest = Option ℕ × (Option ℕ × (Option (List (List ℕ)) × (Option (List (List ℕ)) × (Option (List ℕ) × Unit {0}))))

unfoldable pub attach_rest_at : PartsLeft → Option (AttachRest × PartsLeft)
attach_rest_at =
    then_at (optional_at uint_at)
    (then_at (optional_at ulong_at)
    (then_at (optional_at symbols_at)
    (then_at (optional_at symbols_at)
    (then_at (optional_at map_at)
    end_at))))

unfoldable pub attach_body_at : PartsLeft → Option (AttachModel × PartsLeft)
attach_body_at = named_at attach_of
    (then_at (required_at string_at)
    (then_at (required_at uint_at)
    (then_at (required_at role_at)
    (then_at (default_at Mixed sender_mode_at)
    (then_at (default_at First receiver_mode_at)
    (then_at (optional_at raw_at)
    (then_at (optional_at raw_at)
    (then_at (optional_at map_at)
    (then_at (default_at false boolean_at)
    attach_rest_at)))))))))

-- ---- when two are the same

abbrev pub attach_first_same : Test AttachModel
attach_first_same =
    both (field (λ p. p.name) texts)
    (both (field (λ p. p.handle) numbers)
    (both (field (λ p. p.role) roles)
    (both (field (λ p. p.snd_settle_mode) sender_modes)
    (both (field (λ p. p.rcv_settle_mode) receiver_modes)
    (both (field (λ p. p.source) (maybe texts))
    (field (λ p. p.target) (maybe texts)))))))

abbrev pub attach_last_same : Test AttachModel
attach_last_same =
    both (field (λ p. p.unsettled) (maybe texts))
    (both (field (λ p. p.incomplete_unsettled) flags)
    (both (field (λ p. p.initial_delivery_count) (maybe numbers))
    (both (field (λ p. p.max_message_size) (maybe numbers))
    (both (field (λ p. p.offered_capabilities) (maybe (each texts)))
    (both (field (λ p. p.desired_capabilities) (maybe (each texts)))
    (field (λ p. p.properties) (maybe texts)))))))

abbrev pub attach_same : Test AttachModel
attach_same = both attach_first_same attach_last_same
