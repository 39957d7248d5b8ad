-- Part: other calls.
-- What is sent, each piece after its size (AMQP 1.0 part 2, section 2.3); and for what there is room.
use Rattle.std.specs.Prelude.{◌≡◌, ◌<◌, ◌≤◌, ◌^◌, ℕ, ◌+◌, ◌⊎◌, min, List, [], ◌∷◌, ◌++◌, length, Result, Ok, Err}
use Rattle.std.specs.Int.{w32, to_be_bytes}
use Rattle.amqp_memory.specs.Refusal.{SomeRefused}
use Rattle.amqp_frames.specs.declared.frame.Frame.{Frame}
use Rattle.amqp_frames.specs.declared.error.Error.{Error}
use Rattle.amqp_frames.specs.declared.error.Error.TheVariants as no
use Rattle.amqp_frames.specs.Frame.{text_of, payload_of}
use Rattle.amqp_frames.specs.Piece.{PieceParts, piece_bytes}
use Rattle.amqp_frames.specs.Cut.{Encodes, Fits, Whole}

-- a frame after its size, which counts its own four bytes
abbrev pub sized : List ℕ → List ℕ
sized frame = to_be_bytes w32 (length frame + 4) ++ frame

-- pieces in order, each after its size
abbrev pub wire_of : List PieceParts → List ℕ
wire_of [] = []
wire_of (p ∷ ps) = sized (piece_bytes p) ++ wire_of ps

-- ---- room

-- a buffer of what is to be sent: the bytes that wait, for how many more there is room, and up to how many bytes a payload is copied
pub record SendBufferView : Type 0 where
  pub bytes : List ℕ
  pub room : ℕ
  pub copied : ℕ

-- how many bytes a frame takes in one piece, those of its size counted
abbrev pub whole_size : Frame → ℕ
whole_size f = 8 + length (text_of f.body) + length (payload_of f.body)

-- there is room for a frame: it is whole, its payload is copied, and all its bytes have room
abbrev pub HasRoomFor : Frame → ℕ → SendBufferView → Type 0
HasRoomFor f m out = Whole f m × (length (payload_of f.body) ≤ out.copied) × (whole_size f ≤ out.room)

-- ---- what is sent

-- The size of the first piece does not fit its four bytes: with them it has 4294967296 bytes or more. No max-frame-size allows such a limit.
abbrev pub HasNoSize : Frame → ℕ → Type 0
HasNoSize f m = 2 ^ 32 ≤ 4 + min (4 + length (text_of f.body) + length (payload_of f.body)) m

-- why nothing is sent of a frame: as for its pieces; or the first of them has no size
abbrev pub IsNotSent : Frame → ℕ → Error → Type 0
IsNotSent f m no.OutOfMemory = Fits f m × (SomeRefused ⊎ HasNoSize f m)
IsNotSent f m e = Encodes {X = List PieceParts} (λ xs. xs) f m (Err e)

-- The pieces of the frame stand after what was to be sent; where there are none, nothing was appended.
abbrev pub EncodesTo : Frame → ℕ → List ℕ → Result (Unit {0}) Error → List ℕ → Type 0
EncodesTo f m old (Ok u) new = (ps : List PieceParts) × (length ps < 2 ^ 63) × Encodes {X = List PieceParts} (λ xs. xs) f m (Ok ps) × (new ≡ old ++ wire_of ps)
EncodesTo f m old (Err e) new = IsNotSent f m e × (new ≡ old)
