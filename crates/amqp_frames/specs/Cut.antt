-- Part: the bytes; other calls.
-- How a frame is cut into pieces that keep a limit (AMQP 1.0 part 2, section 2.6.14).
use Rattle.std.specs.Prelude.{◌≡◌, ◌<◌, ◌≤◌, ◌+◌, ◌-◌, ◌⊎◌, ℕ, List, [], ◌∷◌, ◌++◌, length, map, All, nat_lt}
use Rattle.std.specs.Prelude.{if◌then◌else◌, Option, Some, None, Result, Ok, Err}
use Rattle.amqp_memory.specs.Refusal.{SomeRefused}
use Rattle.amqp_values.specs.Reading.{joined}
use Rattle.amqp_types.specs.declared.performatives.Performative.TheVariants as performative
use Rattle.amqp_types.specs.declared.performatives.transfer.TransferFragment.TheVariants as text
use Rattle.amqp_types.specs.Transfer.{TransferModel, said_in}
use Rattle.amqp_types.specs.Performatives.{performative_text}
use Rattle.amqp_frames.specs.declared.frame.Frame.{Frame}
use Rattle.amqp_frames.specs.declared.frame.FrameBody.{FrameBody}
use Rattle.amqp_frames.specs.declared.frame.FrameBody.TheVariants.{Transfer}
use Rattle.amqp_frames.specs.declared.error.Error.{Error}
use Rattle.amqp_frames.specs.declared.error.Error.TheVariants as no
use Rattle.amqp_frames.specs.Frame.{header_text, text_of, payload_of}
use Rattle.amqp_frames.specs.Piece.{PieceParts, piece_bytes, payload_part}
use Rattle.amqp_frames.specs.ReadBack.{DecodesTo, AreDecoded}

-- ---- the texts of a transfer that is cut

abbrev pub transfer_text : TransferModel → List ℕ
transfer_text t = performative_text (performative.Transfer t)

abbrev pub first_text : TransferModel → List ℕ
first_text t = transfer_text (said_in text.First t)

abbrev pub middle_text : TransferModel → List ℕ
middle_text t = transfer_text (said_in text.Middle t)

abbrev pub last_text : TransferModel → List ℕ
last_text t = transfer_text (said_in text.Last t)

-- ---- a transfer alone is cut

-- P holds of the transfer and its payload; for any other body this is never so
abbrev pub OnTransfer : (TransferModel → List ℕ → Type 0) → FrameBody → Type 0
OnTransfer P (Transfer t payload) = P t payload
OnTransfer P body = ⊥

-- ---- which frames fit

-- a body may have the limit's bytes without the header's four
abbrev pub room : ℕ → ℕ
room m = m - 4

abbrev pub Whole : Frame → ℕ → Type 0
Whole f m = length (text_of f.body) + length (payload_of f.body) ≤ room m

-- the first piece holds its text, and each later one more than its text
abbrev pub LeavesRoom : TransferModel → ℕ → Type 0
LeavesRoom t m = (length (first_text t) ≤ room m) × (length (middle_text t) < room m)

abbrev pub IsCuttable : FrameBody → ℕ → Type 0
IsCuttable body m = OnTransfer (λ t payload. LeavesRoom t m) body

abbrev pub Fits : Frame → ℕ → Type 0
Fits f m = Whole f m ⊎ IsCuttable f.body m

-- how many bytes of payload fit beside the transfer as it is
abbrev pub room_beside : TransferModel → ℕ → Option ℕ
room_beside t m = if nat_lt (room m) (length (transfer_text t)) then None else Some (room m - length (transfer_text t))

-- ---- the pieces

-- all bytes of the frame in one piece
abbrev pub IsWholePiece : Frame → PieceParts → Type 0
IsWholePiece f p = (p.head ≡ header_text f.channel ++ text_of f.body) × (p.payload ≡ payload_of f.body)

-- A first piece, any number in the middle, and a last one; each but the last is full, and the last one is not empty.
-- The parts joined are the payload.
pub record IsCut (channel : ℕ) (t : TransferModel) (payload : List ℕ) (m : ℕ) (pieces : List PieceParts) : Type 0 where
  pub first : PieceParts
  pub middle : List PieceParts
  pub last : PieceParts
  pub pieces_are : pieces ≡ first ∷ middle ++ last ∷ []
  pub first_is : first.head ≡ header_text channel ++ first_text t
  pub middle_are : All (λ p. p.head ≡ header_text channel ++ middle_text t) middle
  pub last_is : last.head ≡ header_text channel ++ last_text t
  pub first_full : length (piece_bytes first) ≡ m
  pub middle_full : All (λ p. length (piece_bytes p) ≡ m) middle
  pub last_some : 1 ≤ length last.payload
  pub last_fits : length last.payload ≤ room m - length (middle_text t)
  pub last_within : length (piece_bytes last) ≤ m
  pub parts : joined (map payload_part pieces) ≡ payload

abbrev pub IsCutBody : ℕ → FrameBody → ℕ → List PieceParts → Type 0
IsCutBody channel body m pieces = OnTransfer (λ t payload. IsCut channel t payload m pieces) body

-- a frame that is whole is one piece; one that is not is cut
abbrev pub Cut : Frame → ℕ → List PieceParts → Type 0
Cut f m pieces =
    (Whole f m × ((p : PieceParts) × (pieces ≡ p ∷ []) × IsWholePiece f p))
    ⊎ ((¬ Whole f m) × IsCutBody f.channel f.body m pieces)

-- ---- what decoding gives of the pieces

abbrev pub ReadBackBody : ℕ → FrameBody → List PieceParts → Type 0
ReadBackBody channel body pieces = OnTransfer (λ t payload. AreDecoded channel t payload pieces) body

-- The one piece of a frame that is whole is decoded as that frame. The pieces of one that is cut are decoded as its first,
-- middle and last transfers.
abbrev pub ReadBack : Frame → ℕ → List PieceParts → Type 0
ReadBack f m pieces =
    (Whole f m × ((p : PieceParts) × (pieces ≡ p ∷ []) × DecodesTo f (piece_bytes p)))
    ⊎ ((¬ Whole f m) × ReadBackBody f.channel f.body pieces)

-- ---- encoding

-- what encoding answers, seen as a list of pieces
abbrev pub Encodes : {X : Type 0} → (X → List PieceParts) → Frame → ℕ → Result X Error → Type 0
Encodes view f m (Ok x) = Fits f m × Cut f m (view x) × ReadBack f m (view x)
Encodes view f m (Err no.TooLarge) = ¬ Fits f m
Encodes view f m (Err no.OutOfMemory) = Fits f m × SomeRefused
Encodes view f m (Err no.DecodeError) = ⊥
Encodes view f m (Err no.NotImplemented) = ⊥
Encodes view f m (Err (no.Io text)) = ⊥
