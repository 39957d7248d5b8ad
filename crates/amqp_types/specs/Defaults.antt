-- Part: other calls.
-- Performatives in which each field that is not named has the standard's default, or is absent where the standard has none
-- (AMQP 1.0 part 2, section 2.7).
use Rattle.std.specs.Prelude.{ℕ, List, [], ◌∷◌, Option, None, false}
use Rattle.amqp_values.specs.Writing.{described_text}
use Rattle.amqp_types.specs.declared.definitions.Role.{Role}
use Rattle.amqp_types.specs.declared.definitions.SenderSettleMode.TheVariants.{Mixed}
use Rattle.amqp_types.specs.declared.definitions.ReceiverSettleMode.TheVariants.{First}
use Rattle.amqp_types.specs.Error.{ErrorModel, error_text}
use Rattle.amqp_types.specs.Open.{OpenModel}
use Rattle.amqp_types.specs.Begin.{BeginModel}
use Rattle.amqp_types.specs.Attach.{AttachModel}
use Rattle.amqp_types.specs.Flow.{FlowModel}
use Rattle.amqp_types.specs.Transfer.{TransferModel}
use Rattle.amqp_types.specs.Disposition.{DispositionModel}
use Rattle.amqp_types.specs.Detach.{DetachModel}

abbrev pub plain_open : List ℕ → OpenModel
plain_open container_id = record {
  container_id = container_id;
  hostname = None;
  max_frame_size = 4294967295;
  channel_max = 65535;
  idle_time_out = None;
  outgoing_locales = None;
  incoming_locales = None;
  offered_capabilities = None;
  desired_capabilities = None;
  properties = None;
}

abbrev pub plain_begin : ℕ → ℕ → ℕ → BeginModel
plain_begin next_outgoing_id incoming_window outgoing_window = record {
  remote_channel = None;
  next_outgoing_id = next_outgoing_id;
  incoming_window = incoming_window;
  outgoing_window = outgoing_window;
  handle_max = 4294967295;
  offered_capabilities = None;
  desired_capabilities = None;
  properties = None;
}

abbrev pub plain_attach : List ℕ → ℕ → Role → AttachModel
plain_attach name handle role = record {
  name = name;
  handle = handle;
  role = role;
  snd_settle_mode = Mixed;
  rcv_settle_mode = First;
  source = None;
  target = None;
  unsettled = None;
  incomplete_unsettled = false;
  initial_delivery_count = None;
  max_message_size = None;
  offered_capabilities = None;
  desired_capabilities = None;
  properties = None;
}

abbrev pub plain_flow : Option ℕ → ℕ → ℕ → ℕ → FlowModel
plain_flow next_incoming_id incoming_window next_outgoing_id outgoing_window = record {
  next_incoming_id = next_incoming_id;
  incoming_window = incoming_window;
  next_outgoing_id = next_outgoing_id;
  outgoing_window = outgoing_window;
  handle = None;
  delivery_count = None;
  link_credit = None;
  available = None;
  drain = false;
  echo = false;
  properties = None;
}

abbrev pub plain_transfer : ℕ → TransferModel
plain_transfer handle = record {
  handle = handle;
  delivery_id = None;
  delivery_tag = None;
  message_format = None;
  settled = None;
  more = false;
  rcv_settle_mode = None;
  state = None;
  resume = false;
  aborted = false;
  batchable = false;
}

abbrev pub plain_disposition : Role → ℕ → DispositionModel
plain_disposition role first = record {
  role = role;
  first = first;
  last = None;
  settled = false;
  state = None;
  batchable = false;
}

abbrev pub plain_detach : ℕ → DetachModel
plain_detach handle = record { handle = handle; closed = false; error = None }

abbrev pub plain_error : List ℕ → ErrorModel
plain_error condition = record { condition = condition; description = None; info = None }

-- the outcome rejected with this error (part 3, section 3.4.3)
abbrev pub rejected_text : ErrorModel → List ℕ
rejected_text e = described_text 0x25 (error_text e ∷ [])
