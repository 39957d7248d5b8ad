-- Part: other calls; inner.
-- The room from which the heads of frames are cut.
use Rattle.std.specs.Prelude.{◌≡◌, ◌<◌, ◌≤◌, ◌+◌, ℕ, length, Result, Ok, Err}
use Rattle.amqp_frames.specs.declared.frame.Frame.{Frame}
use Rattle.amqp_frames.specs.declared.error.Error.{Error}
use Rattle.amqp_frames.specs.declared.error.Error.TheVariants as no
use Rattle.amqp_frames.specs.Frame.{text_of}
use Rattle.amqp_frames.specs.Cut.{Whole}

-- the room for a head of so many bytes: what there was, if the head fits there, and else a block of 4096 bytes or more
abbrev pub GivesRoom : ℕ → ℕ → ℕ → Type 0
GivesRoom before len room = (len ≤ before → room ≡ before) × (before < len → 4096 ≤ room)

-- a head of so many bytes is longer than a block, and does not fit in what there is
abbrev pub IsTooLong : ℕ → ℕ → Type 0
IsTooLong before len = (before < len) × (32768 < len)

-- a head that is not too long was cut off as this says, and one that is too long has left the room as it was
abbrev pub CutsOrLeaves : {S : Type 0} → (S → ℕ → Type 0) → (S → ℕ → S → Type 0) → S → ℕ → S → Type 0
CutsOrLeaves too_long cuts before len after = (¬ too_long before len → cuts before len after) × (too_long before len → after ≡ before)

-- a head of so many bytes was cut off the front of that room, or was too long for it
abbrev pub CutsHead : ℕ → ℕ → ℕ → Type 0
CutsHead = CutsOrLeaves IsTooLong (λ before len after. GivesRoom before len (after + len))

-- the same by what any place for heads says: which room it gives for a head, and what it keeps of the room after one
pub record CutsOff {S : Type 0} (gives : S → ℕ → ℕ → Type 0) (keeps : ℕ → S → Type 0) (before : S) (len : ℕ) (after : S) : Type 0 where
  pub room : ℕ
  pub given : gives before len (room + len)
  pub kept : keeps room after

-- A frame that is whole has its head cut off: four bytes of header, and the text. For any other nothing is cut off, and for one
-- that is refused; only memory that is refused may cost the room.
abbrev pub RoomAfter : {S X : Type 0} → (S → ℕ → S → Type 0) → S → Frame → ℕ → Result X Error → S → Type 0
RoomAfter cuts before f m (Ok x) after = (Whole f m → cuts before (4 + length (text_of f.body)) after) × ((¬ Whole f m) → after ≡ before)
RoomAfter cuts before f m (Err no.OutOfMemory) after = Unit {0}
RoomAfter cuts before f m (Err e) after = after ≡ before
