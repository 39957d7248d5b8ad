-- Part: other calls.
-- A transfer by its head: which transfer it is, why it may not be sent, and what is told of it.
use Rattle.std.specs.Prelude.{◌≡◌, ℕ, List, ◌/◌, ◌%◌, ◌&&◌, ◌||◌, Bool, true, false, not, nat_eq, nat_le, nat_lt, take, drop, is_some, if◌then◌else◌, Option, Some, None}
use Rattle.std.specs.Option.{option_map}
use Rattle.amqp_types.specs.Transfer.{TransferModel, widest}
use Rattle.amqp_frames.specs.Cut.{room_beside}
use Rattle.amqp_session.specs.Linking.{input_handle_at}
use Rattle.amqp_session.specs.Sending.{number_shown}
use Rattle.amqp_session.specs.Session.{SessionView}
use Rattle.amqp_session.specs.States.{is_mapped}
use Rattle.amqp_session.specs.declared.numbers.InputHandle.{InputHandle}
use Rattle.amqp_engine.specs.declared.engine.input.Input.{Input}
use Rattle.amqp_engine.specs.declared.engine.input.Input.TheVariants as input
use Rattle.amqp_engine.specs.declared.engine.step_error.StepError.{StepError}
use Rattle.amqp_engine.specs.EngineView.{EngineView}
use Rattle.amqp_driver.specs.declared.head.TransferHead.{TransferHead}
use Rattle.amqp_driver.specs.declared.head.Sent.{Sent}
use Rattle.amqp_driver.specs.Record.{number_or}
use Rattle.amqp_driver.specs.Refusals.{refusal_number}
use Rattle.amqp_driver.specs.Told.{session_at}

-- ---- the transfer

-- the flag, a power of two, is set
abbrev pub has : ℕ → ℕ → Bool
has flags flag = nat_eq (flags / flag % 2) 1

-- the first transfer of a delivery says whether it is settled; a later one says so only if it is (AMQP 1.0 part 2, section 2.7.5)
abbrev pub settled_of : ℕ → Option Bool
settled_of flags = if has flags 1 || has flags 2 then Some (has flags 2) else None

abbrev pub transfer_of : TransferHead → Option (List ℕ) → TransferModel
transfer_of h tag = record {
  handle = h.link;
  delivery_id = None;
  delivery_tag = tag;
  message_format = if has h.flags 8192 then Some h.format else None;
  settled = settled_of h.flags;
  more = has h.flags 4;
  rcv_settle_mode = None;
  state = None;
  resume = false;
  aborted = has h.flags 8;
  batchable = false;
}

-- the tag stands first in the bytes of a head, if it has one; after it stands the payload
abbrev pub tag_in : TransferHead → List ℕ → Option (List ℕ)
tag_in h bytes = if has h.flags 16384 then Some (take h.tag_size bytes) else None

abbrev pub transfer_in : TransferHead → List ℕ → TransferModel
transfer_in h bytes = transfer_of h (tag_in h bytes)

-- the peer's handle of the link of a session that has this handle of this side's
abbrev pub input_in : {R : Type 0} → Option (SessionView R) → ℕ → Option InputHandle
input_in None link = None
input_in (Some s) link = input_handle_at link s.links

-- where there is no such link the engine refuses a transfer, whatever the peer's handle
abbrev pub handle_or_any : Option InputHandle → ℕ
handle_or_any found = number_or 0 (option_map (λ i. i.0) found)

abbrev pub handle_in : {R : Type 0} → EngineView R → ℕ → ℕ → InputHandle
handle_in v session link = record { 0 = handle_or_any (input_in (session_at v (Some session)) link) }

-- the input of the engine
abbrev pub input_of : {R : Type 0} → EngineView R → TransferHead → List ℕ → Input R
input_of v h bytes = input.Transfer (record { 0 = h.session }) (handle_in v h.session h.link) (transfer_in h bytes) (drop h.tag_size bytes) (has h.flags 1)

-- ---- why it may not be sent

-- in a session that is mapped the live link that has the handle, if there is one, is not attached by the peer
abbrev pub is_unattached : {R : Type 0} → Option (SessionView R) → ℕ → Bool
is_unattached None link = false
is_unattached (Some s) link = is_mapped s.state && not (is_some (input_handle_at link s.links))

abbrev pub has_room : Option ℕ → ℕ → Bool
has_room None n = false
has_room (Some room) n = nat_le n room

-- The tag is too long (section 2.8.7); no such link is attached; or the payload does not fit one frame beside the transfer, whatever number the
-- delivery gets (section 2.6.14). Then the engine is asked nothing.
abbrev pub unsendable : {R : Type 0} → EngineView R → TransferHead → List ℕ → Option ℕ
unsendable v h bytes =
    if nat_lt 32 h.tag_size then Some 92 else
    if is_unattached (session_at v (Some h.session)) h.link then Some 61 else
    if has_room (room_beside (widest (transfer_in h bytes)) v.limit) h.payload then None else
    Some 91

-- ---- what is told of it

-- the number that the next delivery of the session gets, of a first transfer
abbrev pub number_in : {R : Type 0} → Option (SessionView R) → Bool → ℕ
number_in None first = 0
number_in (Some s) first = if first then number_shown s.sending else 0

abbrev pub refused_as : ℕ → Sent
refused_as n = record { number = 0; refusal = n }

-- by the engine's answer, and the number that was shown before
abbrev pub sent_by : Option StepError → ℕ → Sent
sent_by None n = record { number = n; refusal = 0 }
sent_by (Some e) n = refused_as (refusal_number e)

-- what is told of a transfer whose entry was refused so; `v` is the engine before it
abbrev pub sent_of : {R : Type 0} → EngineView R → TransferHead → Option StepError → Sent
sent_of v h refusal = sent_by refusal (number_in (session_at v (Some h.session)) (has h.flags 1))

-- ---- parts

-- no such link is attached; or this is the peer's handle of it, or any one, where the engine is to refuse the transfer
abbrev pub FindsInput : {R : Type 0} → Option (SessionView R) → ℕ → Option InputHandle → Type 0
FindsInput s link None = is_unattached s link ≡ true
FindsInput s link (Some i) = (is_unattached s link ≡ false) × (i.0 ≡ handle_or_any (input_in s link))
