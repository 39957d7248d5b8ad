-- Part: other calls.
-- `cut`: a head whose payload is longer than a frame, as the head of its first frame and that of the rest (AMQP 1.0 part 2, section 2.6.14).
use Rattle.std.specs.Prelude.{◌≡◌, ℕ, List, ◌+◌, ◌-◌, ◌&&◌, ◌||◌, Bool, true, nat_eq, nat_lt, bit_and, bit_or, if◌then◌else◌, Option, Some, None}
use Rattle.amqp_types.specs.Transfer.{widest}
use Rattle.amqp_frames.specs.Cut.{room_beside}
use Rattle.amqp_driver.specs.declared.cut.Cut.{Cut}
use Rattle.amqp_driver.specs.declared.head.TransferHead.{TransferHead}
use Rattle.amqp_driver.specs.Heads.{has, has_room, transfer_in}

-- how many bytes of payload fit one frame beside the transfer of a head, whatever number the delivery gets
abbrev pub room_for : ℕ → TransferHead → List ℕ → Option ℕ
room_for limit h bytes = room_beside (widest (transfer_in h bytes)) limit

-- the same transfer, after which more follow: so it does not abort the delivery (section 2.7.5)
abbrev pub begun : TransferHead → TransferHead
begun h = record h { flags = bit_or (bit_and h.flags 65527) 4 }

abbrev pub in_one : TransferHead → Cut
in_one h = record { part = h; rest = h; more = 0; refusal = 0 }

abbrev pub uncut : TransferHead → ℕ → Cut
uncut h why = record { part = h; rest = h; more = 0; refusal = why }

-- some payload is left, and a later transfer of a delivery has one byte at least
abbrev pub goes_on : TransferHead → ℕ → Bool
goes_on h front = nat_lt front h.payload && (has h.flags 1 || nat_lt 0 front)

-- The first transfer has so many bytes of payload, and says that more follow. That of the rest has the others, and says nothing again of the
-- delivery (section 2.7.5): neither number nor tag, format nor settled; but whether more follow, and whether it is aborted, as the head does.
abbrev pub in_two : TransferHead → ℕ → Cut
in_two h front = record {
  part = record (begun h) { payload = front };
  rest = record h { payload = h.payload - front; flags = bit_and h.flags 12; tag_size = 0 };
  more = 1;
  refusal = 0;
}

-- cut where the first frame is full; where none has room for the transfer, or a later one for a byte, it is refused
abbrev pub cut_at : TransferHead → Option ℕ → Cut
cut_at h None = uncut h 91
cut_at h (Some front) = if goes_on h front then in_two h front else uncut h 91

-- The bytes begin with the tag. A tag of more than 32 bytes is refused (section 2.8.7).
abbrev pub cut_of : ℕ → TransferHead → List ℕ → Cut
cut_of limit h bytes =
    if nat_lt 32 h.tag_size then uncut h 92 else
    if has_room (room_for limit h bytes) h.payload then in_one h else cut_at h (room_for limit (begun h) bytes)

-- ---- laws

-- the payload of what is left
abbrev pub left_of : Cut → ℕ
left_of c = if nat_eq c.more 1 then c.rest.payload else 0

-- What is not refused: its first part fits one frame, and both parts have the payload between them.
pub record CutsWell (limit : ℕ) (h : TransferHead) (bytes : List ℕ) : Type 0 where
  pub fits : (cut_of limit h bytes).refusal ≡ 0 → has_room (room_for limit (cut_of limit h bytes).part bytes) (cut_of limit h bytes).part.payload ≡ true
  pub adds_up : (cut_of limit h bytes).refusal ≡ 0 → (cut_of limit h bytes).part.payload + left_of (cut_of limit h bytes) ≡ h.payload
