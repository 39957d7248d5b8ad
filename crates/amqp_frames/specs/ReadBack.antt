-- Part: the bytes.
-- What decoding gives of encoded bytes: the frame that was encoded, or the transfers that it was cut into.
use Rattle.std.specs.Prelude.{◌≡◌, ◌⊎◌, ℕ, List, [], ◌∷◌, ◌++◌, map, All, Result, Ok, Err}
use Rattle.amqp_values.specs.Reading.{joined}
use Rattle.amqp_types.specs.declared.performatives.transfer.TransferFragment.TheVariants as text
use Rattle.amqp_types.specs.Transfer.{TransferModel, said_in}
use Rattle.amqp_frames.specs.declared.frame.Frame.{Frame}
use Rattle.amqp_frames.specs.declared.frame.FrameBody.TheVariants.{Transfer}
use Rattle.amqp_frames.specs.declared.error.Error.{Error}
use Rattle.amqp_frames.specs.declared.error.Error.TheVariants as no
use Rattle.amqp_frames.specs.Frame.{Decodes}
use Rattle.amqp_frames.specs.Piece.{PieceParts, piece_bytes, payload_part}

-- The bytes are decoded as this frame, and nothing is left. The decoder may be refused memory.
abbrev pub DecodesTo : Frame → List ℕ → Type 0
DecodesTo f bytes = (r : Result (Frame × List ℕ) Error) → Decodes bytes r → (r ≡ Ok (f, [])) ⊎ (r ≡ Err no.OutOfMemory)

-- the piece is decoded as the frame of this transfer, with its part of the payload
abbrev pub DecodedAs : ℕ → TransferModel → PieceParts → Type 0
DecodedAs channel t p = DecodesTo (record { channel = channel; body = Transfer t p.payload }) (piece_bytes p)

-- Each piece of a transfer that is cut is decoded: as the first transfer, one in the middle, or the last. Their payloads
-- joined are the payload.
pub record AreDecoded (channel : ℕ) (t : TransferModel) (payload : List ℕ) (pieces : List PieceParts) : Type 0 where
  pub first : PieceParts
  pub middle : List PieceParts
  pub last : PieceParts
  pub pieces_are : pieces ≡ first ∷ middle ++ last ∷ []
  pub first_is : DecodedAs channel (said_in text.First t) first
  pub middle_are : All (DecodedAs channel (said_in text.Middle t)) middle
  pub last_is : DecodedAs channel (said_in text.Last t) last
  pub parts : joined (map payload_part pieces) ≡ payload
