-- Part: other calls.
-- What holds of the pieces of every frame: they keep the limit, carry the payload, and are read back.
use Rattle.std.specs.Prelude.{◌≡◌, ◌<◌, ◌≤◌, ◌^◌, ℕ, List, [], ◌∷◌, ◌++◌, length, map, All}
use Rattle.amqp_values.specs.Reading.{joined}
use Rattle.amqp_types.specs.declared.performatives.Performative.{Performative}
use Rattle.amqp_types.specs.declared.performatives.Performative.TheVariants as performative
use Rattle.amqp_types.specs.Performatives.{IsPerformative, performative_text}
use Rattle.amqp_types.specs.declared.performatives.transfer.TransferFragment.TheVariants as text
use Rattle.amqp_types.specs.Transfer.{TransferModel, said_in}
use Rattle.amqp_frames.specs.declared.frame.Frame.{Frame}
use Rattle.amqp_frames.specs.declared.frame.FrameBody.{FrameBody}
use Rattle.amqp_frames.specs.declared.frame.FrameBody.TheVariants.{Attach, Flow, Transfer, Disposition, Detach, Begin}
use Rattle.amqp_frames.specs.declared.frame.FrameBody.TheVariants.{End, Open, Close, Empty}
use Rattle.amqp_frames.specs.Frame.{IsFrame, body_of, payload_of}
use Rattle.amqp_frames.specs.Piece.{PieceParts, piece_bytes, payload_part}
use Rattle.amqp_frames.specs.ReadBack.{DecodesTo, AreDecoded}
use Rattle.amqp_frames.specs.Cut.{Cut, IsCut, Whole}

-- ---- limit and payload

abbrev pub KeepsLimit : Type 0
KeepsLimit = (f : Frame) (m : ℕ) (pieces : List PieceParts) → 4 ≤ m → Cut f m pieces → All (λ p. length (piece_bytes p) ≤ m) pieces

abbrev pub CarriesPayload : Type 0
CarriesPayload = (f : Frame) (m : ℕ) (pieces : List PieceParts) → Cut f m pieces → joined (map payload_part pieces) ≡ payload_of f.body

-- ---- reading back

-- the performative's canonical text spells it, as that of each performative of a program does whose text is under 2 ^ 32 bytes
abbrev pub IsSpelled : Performative → Type 0
IsSpelled p = IsPerformative p (performative_text p)

abbrev pub IsSpelledBody : FrameBody → Type 0
IsSpelledBody (Attach p) = IsSpelled (performative.Attach p)
IsSpelledBody (Flow p) = IsSpelled (performative.Flow p)
IsSpelledBody (Transfer p payload) = IsSpelled (performative.Transfer p)
IsSpelledBody (Disposition p) = IsSpelled (performative.Disposition p)
IsSpelledBody (Detach p) = IsSpelled (performative.Detach p)
IsSpelledBody (Begin p) = IsSpelled (performative.Begin p)
IsSpelledBody (End p) = IsSpelled (performative.End p)
IsSpelledBody (Open p) = IsSpelled (performative.Open p)
IsSpelledBody (Close p) = IsSpelled (performative.Close p)
IsSpelledBody Empty = Unit {0}

-- the piece is the frame of this transfer, with its part of the payload
abbrev pub Carries : ℕ → TransferModel → PieceParts → Type 0
Carries channel t p = IsFrame (record { channel = channel; body = Transfer t p.payload }) (piece_bytes p) []

-- each piece of a transfer that is cut is the frame of a transfer: the first, one in the middle, or the last
pub record AreTransfers (channel : ℕ) (t : TransferModel) (pieces : List PieceParts) : Type 0 where
  pub first : PieceParts
  pub middle : List PieceParts
  pub last : PieceParts
  pub pieces_are : pieces ≡ first ∷ middle ++ last ∷ []
  pub first_is : Carries channel (said_in text.First t) first
  pub middle_are : All (Carries channel (said_in text.Middle t)) middle
  pub last_is : Carries channel (said_in text.Last t) last

abbrev pub CutsAreRead : Type 0
CutsAreRead =
    (channel m : ℕ) (t : TransferModel) (payload : List ℕ) (pieces : List PieceParts) → channel < 2 ^ 16
    → IsSpelled (performative.Transfer (said_in text.First t)) → IsSpelled (performative.Transfer (said_in text.Middle t))
    → IsSpelled (performative.Transfer (said_in text.Last t))
    → IsCut channel t payload m pieces → AreTransfers channel t pieces

abbrev pub FramesAreDecoded : Type 0
FramesAreDecoded = (f : Frame) (bytes : List ℕ) → IsFrame f bytes [] → DecodesTo f bytes

abbrev pub WholesAreRead : Type 0
WholesAreRead =
    (f : Frame) (m : ℕ) (pieces : List PieceParts) → f.channel < 2 ^ 16 → IsSpelledBody f.body → Whole f m → Cut f m pieces
    → (p : PieceParts) × (pieces ≡ p ∷ []) × IsFrame f (piece_bytes p) [] × DecodesTo f (piece_bytes p)

-- ---- decoding what was encoded

-- the frame of this performative; a payload stands after a transfer alone
abbrev pub frame_of : ℕ → Performative → List ℕ → Frame
frame_of channel p payload = record { channel = channel; body = (body_of p payload).0 }

-- a frame that is whole is decoded from its one piece
abbrev pub WholeIsDecoded : Performative → Type 0
WholeIsDecoded p =
    (channel m : ℕ) (payload : List ℕ) (pieces : List PieceParts) → channel < 2 ^ 16 → m < 2 ^ 32
    → Whole (frame_of channel p payload) m → Cut (frame_of channel p payload) m pieces
    → (piece : PieceParts) × (pieces ≡ piece ∷ []) × DecodesTo (frame_of channel p payload) (piece_bytes piece)

-- so is the empty frame
abbrev pub EmptyIsDecoded : Type 0
EmptyIsDecoded =
    (channel m : ℕ) (pieces : List PieceParts) → channel < 2 ^ 16 → Cut (record { channel = channel; body = Empty }) m pieces
    → (piece : PieceParts) × (pieces ≡ piece ∷ []) × DecodesTo (record { channel = channel; body = Empty }) (piece_bytes piece)

abbrev pub CutIsDecoded : Performative → Type 0
CutIsDecoded p =
    (t : TransferModel) (channel m : ℕ) (payload : List ℕ) (pieces : List PieceParts)
    → p ≡ performative.Transfer t → channel < 2 ^ 16 → m < 2 ^ 32 → IsCut channel t payload m pieces → AreDecoded channel t payload pieces
