-- Part: the promise; every call exactly.
-- Transfers that wait, the frames that they go out as, and the deliveries that these open (AMQP 1.0 part 2, sections
-- 2.5.6 and 2.7.5).
use Rattle.std.specs.Prelude.{ℕ, ◌+◌, ◌%◌, ◌^◌, List, [], ◌∷◌, ◌++◌, Option, Some, None, Bool, false, unwrap_or, if◌then◌else◌}
use Rattle.std.specs.Option.{option_map}
use Rattle.amqp_types.specs.Transfer.{TransferModel}
use Rattle.amqp_session.specs.declared.deliveries.Delivery.{Delivery}
use Rattle.amqp_session.specs.declared.frame.SessionFrame.{SessionFrame}
use Rattle.amqp_session.specs.declared.frame.SessionFrameBody.TheVariants as Body
use Rattle.amqp_session.specs.Deliveries.{with_record, listed}

-- A transfer as it was asked for: for the link of this input handle, with this payload, the first of its delivery or not.
pub record RequestedTransfer : Type 0 where
  pub input_handle : ℕ
  pub transfer : TransferModel
  pub payload : List ℕ
  pub is_first : Bool

-- the delivery's number on its first frame, and none on any other
abbrev pub delivery_id : ℕ → Bool → Option ℕ
delivery_id n first = if first then Some (n % 2 ^ 32) else None

-- the frame of a transfer, where n deliveries began before it
abbrev pub frame_of : ℕ → ℕ → RequestedTransfer → SessionFrame
frame_of channel n h = record {
  channel = channel;
  body = Body.Transfer (record h.transfer { delivery_id = delivery_id n h.is_first }) h.payload;
}

-- how many deliveries it begins
abbrev pub first_of : RequestedTransfer → ℕ
first_of h = if h.is_first then 1 else 0

-- the frames of these, in order: each delivery is numbered once, modulo 2^32, on its first frame alone
abbrev pub numbered : ℕ → ℕ → List RequestedTransfer → List SessionFrame
numbered channel n [] = []
numbered channel n (h ∷ hs) = frame_of channel n h ∷ numbered channel (n + first_of h) hs

-- how many deliveries begin
abbrev pub firsts : List RequestedTransfer → ℕ
firsts [] = 0
firsts (h ∷ hs) = first_of h + firsts hs

-- the tag under which a delivery is recorded: that of its first transfer, unless it is settled already
abbrev pub kept_tag : Bool → TransferModel → Option (List ℕ)
kept_tag first t = if first then (if unwrap_or t.settled false then None else t.delivery_tag) else None

-- the record that goes with the frame
abbrev pub record_of : ℕ → RequestedTransfer → Option Delivery
record_of n h =
    option_map (λ tag. record { number = n % 2 ^ 32; input_handle = record { 0 = h.input_handle }; tag = record { 0 = tag } })
    (kept_tag h.is_first h.transfer)

-- the records that go with the frames of these, in order
abbrev pub records : ℕ → List RequestedTransfer → List Delivery
records n [] = []
records n (h ∷ hs) = listed (record_of n h) ++ records (n + first_of h) hs

-- the open deliveries after the frames of these
abbrev pub opened : ℕ → List RequestedTransfer → List Delivery → List Delivery
opened n [] rows = rows
opened n (h ∷ hs) rows = opened (n + first_of h) hs (with_record (record_of n h) rows)
