-- Part: the bytes; other calls; inner.
-- Transfer: its fields, and how they stand in a list (AMQP 1.0 part 2, section 2.7.5).
use Rattle.std.specs.Prelude.{ℕ, List, Option, Some, None, Bool, true, false}
use Rattle.amqp_types.specs.declared.definitions.ReceiverSettleMode.{ReceiverSettleMode}
use Rattle.amqp_types.specs.declared.performatives.transfer.TransferFragment.{TransferFragment}
use Rattle.amqp_types.specs.declared.performatives.transfer.TransferFragment.TheVariants as text
use Rattle.amqp_values.specs.Slots.{PartsLeft}
use Rattle.amqp_values.specs.Number.{IsBoolean, IsUint, boolean_at, uint_at}
use Rattle.amqp_values.specs.Text.{IsBinary, binary_at}
use Rattle.amqp_values.specs.Raw.{SpellsRaw, raw_at}
use Rattle.amqp_values.specs.Slots.{beside, slot0, slot1, slot2, slot3, slot4, slot5, slot6, slot7, slot8, slot9, slot10}
use Rattle.amqp_values.specs.Slots.{then_at, end_at, named_at, required_at, optional_at, default_at}
use Rattle.amqp_values.specs.Writing.{binary_text, boolean_text, uint_text}
use Rattle.amqp_values.specs.Same.{Test, both, field, flags, maybe, numbers, texts}
use Rattle.amqp_types.specs.Definitions.{IsReceiverMode, flag_text, receiver_mode_at, receiver_mode_text, receiver_modes, value_text}
use Rattle.amqp_types.specs.FieldTable.{FieldTable, no_more, mandatory, optional, or_default}

pub record TransferModel : Type 0 where
  pub handle : ℕ
  pub delivery_id : Option ℕ
  pub delivery_tag : Option (List ℕ)
  pub message_format : Option ℕ
  pub settled : Option Bool
  pub more : Bool
  pub rcv_settle_mode : Option ReceiverSettleMode
  pub state : Option (List ℕ)
  pub resume : Bool
  pub aborted : Bool
  pub batchable : Bool

-- ---- the fields, in their order

unfoldable pub transfer_table : TransferModel → FieldTable
transfer_table p =
    mandatory IsUint uint_text p.handle
    (optional IsUint uint_text p.delivery_id
    (optional IsBinary binary_text p.delivery_tag
    (optional IsUint uint_text p.message_format
    (optional IsBoolean boolean_text p.settled
    (or_default false IsBoolean flag_text p.more
    (optional IsReceiverMode receiver_mode_text p.rcv_settle_mode
    (optional SpellsRaw value_text p.state
    (or_default false IsBoolean flag_text p.resume
    (or_default false IsBoolean flag_text p.aborted
    (or_default false IsBoolean flag_text p.batchable
    no_more))))))))))

abbrev pub IsTransferBody : TransferModel → List (List ℕ) → Type 0
IsTransferBody p = (transfer_table p).Body

-- ---- its reader

abbrev pub TransferSlots : Type 0
TransferSlots =
    ℕ × (Option ℕ × (Option (List ℕ) × (Option ℕ × (Option Bool × (Bool × (Option ReceiverSettleMode × (
    Option (List ℕ) × (Bool × (Bool × (Bool × Unit {0}))))))))))

abbrev pub transfer_of : TransferSlots → TransferModel
transfer_of x = record {
  handle = slot0 x;
  delivery_id = slot1 x;
  delivery_tag = slot2 x;
  message_format = slot3 x;
  settled = slot4 x;
  more = slot5 x;
  rcv_settle_mode = slot6 x;
  state = slot7 x;
  resume = slot8 x;
  aborted = slot9 x;
  batchable = slot10 x;
}

abbrev pub transfer_slots : TransferModel → TransferSlots
transfer_slots p =
    beside p.handle
    (beside p.delivery_id
    (beside p.delivery_tag
    (beside p.message_format
    (beside p.settled
    (beside p.more
    (beside p.rcv_settle_mode
    (beside p.state
    (beside p.resume
    (beside p.aborted
    (beside p.batchable
    tt))))))))))

unfoldable pub transfer_body_at : PartsLeft → Option (TransferModel × PartsLeft)
transfer_body_at = named_at transfer_of
    (then_at (required_at uint_at)
    (then_at (optional_at uint_at)
    (then_at (optional_at binary_at)
    (then_at (optional_at uint_at)
    (then_at (optional_at boolean_at)
    (then_at (default_at false boolean_at)
    (then_at (optional_at receiver_mode_at)
    (then_at (optional_at raw_at)
    (then_at (default_at false boolean_at)
    (then_at (default_at false boolean_at)
    (then_at (default_at false boolean_at)
    end_at)))))))))))

-- ---- the transfers of a delivery that is cut (section 2.6.14)

-- a later one does not say again what the first one said of the delivery
abbrev pub continuation : TransferModel → TransferModel
continuation t = record t { delivery_id = None; delivery_tag = None; message_format = None; settled = None; rcv_settle_mode = None }

abbrev pub said_in : TransferFragment → TransferModel → TransferModel
said_in text.Whole t = t
said_in text.First t = record t { more = true }
said_in text.Middle t = record (continuation t) { more = true }
said_in text.Last t = continuation t

-- with the widest number that its delivery can get: five bytes, where an absent one takes one
abbrev pub widest : TransferModel → TransferModel
widest t = record t { delivery_id = Some 4294967295 }

-- ---- when two are the same

abbrev pub transfer_first_same : Test TransferModel
transfer_first_same =
    both (field (λ p. p.handle) numbers)
    (both (field (λ p. p.delivery_id) (maybe numbers))
    (both (field (λ p. p.delivery_tag) (maybe texts))
    (both (field (λ p. p.message_format) (maybe numbers))
    (both (field (λ p. p.settled) (maybe flags))
    (field (λ p. p.more) flags)))))

abbrev pub transfer_last_same : Test TransferModel
transfer_last_same =
    both (field (λ p. p.rcv_settle_mode) (maybe receiver_modes))
    (both (field (λ p. p.state) (maybe texts))
    (both (field (λ p. p.resume) flags)
    (both (field (λ p. p.aborted) flags)
    (field (λ p. p.batchable) flags))))

abbrev pub transfer_same : Test TransferModel
transfer_same = both transfer_first_same transfer_last_same
