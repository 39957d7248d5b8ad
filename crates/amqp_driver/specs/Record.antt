-- Part: other calls.
-- What a frame says, as a record of fixed size: the table of them.
use Rattle.std.specs.Prelude.{ℕ, ◌+◌, ◌-◌, ◌/◌, ◌%◌, ◌^◌, Bool, true, false, length, cond, is_some, Option, Some, None}
use Rattle.amqp_types.specs.Attach.{AttachModel}
use Rattle.amqp_types.specs.Definitions.{receiver_code, sender_code}
use Rattle.amqp_types.specs.Detach.{DetachModel}
use Rattle.amqp_types.specs.Disposition.{DispositionModel}
use Rattle.amqp_types.specs.Error.{ErrorModel}
use Rattle.amqp_types.specs.Flow.{FlowModel}
use Rattle.amqp_types.specs.Transfer.{TransferModel}
use Rattle.amqp_types.specs.declared.definitions.Role.{Role}
use Rattle.amqp_types.specs.declared.definitions.Role.TheVariants as role
use Rattle.amqp_frames.specs.declared.frame.Frame.{Frame}
use Rattle.amqp_frames.specs.declared.frame.FrameBody.{FrameBody}
use Rattle.amqp_frames.specs.declared.frame.FrameBody.TheVariants as body
use Rattle.amqp_driver.specs.declared.record.Record.{Record}
use Rattle.amqp_driver.specs.Outcome.{outcome_of}
use Rattle.amqp_driver.specs.Tag.{no_tag, tag_bytes, tag_size}

-- ---- numbers

-- no session, no link
abbrev pub none : ℕ
none = 4294967295

abbrev pub number_or : ℕ → Option ℕ → ℕ
number_or default None = default
number_or default (Some n) = n

abbrev pub bit : Bool → ℕ → ℕ
bit b n = cond b n 0

abbrev pub is_receiver : Role → Bool
is_receiver role.Sender = false
is_receiver role.Receiver = true

abbrev pub is_settled : Option Bool → Bool
is_settled None = false
is_settled (Some b) = b

abbrev pub error_flag : Option ErrorModel → ℕ
error_flag error = bit (is_some error) 256

-- ---- what is known of any frame

abbrev pub empty_record : Record
empty_record = record {
  kind = 0;
  outcome = 0;
  flags = 0;
  session = none;
  output = none;
  input = none;
  first = 0;
  last = 0;
  format = 0;
  count = 0;
  credit = 0;
  available = 0;
  refusal = 0;
  at = 0;
  size = 0;
  payload_at = 0;
  payload = 0;
  channel = 0;
  tag_size = 0;
  tag = no_tag;
}

-- Where it stands: it begins at this place of the input, and has so many bytes. All behind its first eight is the performative, and no
-- payload stands at its end.
abbrev pub bare_record : ℕ → ℕ → Record
bare_record at size = record empty_record { at = at + 8; size = size - 8; payload_at = at + size }

-- ---- the table: by the kind of the performative, what it says

-- which termini the peer's end of the link has: a source, a target, both, or none (section 2.6.3)
abbrev pub termini : AttachModel → ℕ
termini p = bit (is_some p.source) 1 + bit (is_some p.target) 2

-- the max-message-size stands in two halves, and 0 says that there is no limit (section 2.7.3)
abbrev pub attach_record : Record → AttachModel → Record
attach_record bare p = record bare {
  kind = 3;
  outcome = termini p;
  flags = bit (is_receiver p.role) 16 + bit (is_some p.initial_delivery_count) 2048 + 4096;
  input = p.handle;
  first = number_or 0 p.max_message_size % 2 ^ 32;
  last = number_or 0 p.max_message_size / 2 ^ 32;
  count = number_or 0 p.initial_delivery_count;
  credit = sender_code p.snd_settle_mode;
  available = receiver_code p.rcv_settle_mode;
}

abbrev pub flow_flags : FlowModel → ℕ
flow_flags p =
    bit p.drain 64 + bit p.echo 128 + bit (is_some p.link_credit) 1024 + bit (is_some p.delivery_count) 2048 + bit (is_some p.handle) 4096
    + bit (is_some p.available) 32768

abbrev pub flow_record : Record → FlowModel → Record
flow_record bare p = record bare {
  kind = 5;
  flags = flow_flags p;
  input = number_or none p.handle;
  count = number_or 0 p.delivery_count;
  credit = number_or 0 p.link_credit;
  available = number_or 0 p.available;
}

abbrev pub transfer_flags : TransferModel → ℕ
transfer_flags p =
    bit (is_some p.delivery_id) 1 + bit (is_settled p.settled) 2 + bit p.more 4 + bit p.aborted 8 + bit (is_some p.state) 32 + 4096
    + bit (is_some p.message_format) 8192 + bit (is_some p.delivery_tag) 16384

-- the payload is the last so many bytes
abbrev pub transfer_record : Record → TransferModel → ℕ → Record
transfer_record bare p payload = record bare {
  kind = 6;
  outcome = outcome_of p.state;
  flags = transfer_flags p;
  input = p.handle;
  first = number_or 0 p.delivery_id;
  last = number_or 0 p.delivery_id;
  format = number_or 0 p.message_format;
  size = bare.size - payload;
  payload_at = bare.payload_at - payload;
  payload = payload;
  tag_size = tag_size p.delivery_tag;
  tag = tag_bytes p.delivery_tag;
}

abbrev pub disposition_flags : DispositionModel → ℕ
disposition_flags p = bit p.settled 2 + bit (is_receiver p.role) 16 + bit (is_some p.state) 32

abbrev pub disposition_record : Record → DispositionModel → Record
disposition_record bare p = record bare {
  kind = 7;
  outcome = outcome_of p.state;
  flags = disposition_flags p;
  first = p.first;
  last = number_or p.first p.last;
}

abbrev pub detach_record : Record → DetachModel → Record
detach_record bare p = record bare { kind = 8; flags = error_flag p.error + bit p.closed 512 + 4096; input = p.handle }

abbrev pub body_record : Record → FrameBody → Record
body_record bare (body.Open p) = record bare { kind = 1 }
body_record bare (body.Begin p) = record bare { kind = 2 }
body_record bare (body.Attach p) = attach_record bare p
body_record bare (body.Flow p) = flow_record bare p
body_record bare (body.Transfer p payload) = transfer_record bare p (length payload)
body_record bare (body.Disposition p) = disposition_record bare p
body_record bare (body.Detach p) = detach_record bare p
body_record bare (body.End p) = record bare { kind = 9; flags = error_flag p.error }
body_record bare (body.Close p) = record bare { kind = 10; flags = error_flag p.error }
body_record bare body.Empty = bare

abbrev pub frame_record : ℕ → ℕ → Frame → Record
frame_record at size f = body_record (record (bare_record at size) { channel = f.channel }) f.body

-- what was read, if anything was
abbrev pub read_record : ℕ → ℕ → Option Frame → Record
read_record at size None = bare_record at size
read_record at size (Some f) = frame_record at size f
