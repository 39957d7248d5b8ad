-- Part: other calls.
-- A delivery as transfers that are one frame each, whatever number it gets (AMQP 1.0 part 2, sections 2.5.6 and 2.6.14).
use Rattle.std.specs.Prelude.{◌≡◌, ◌≤◌, ◌+◌, ◌⊎◌, ℕ, List, [], ◌∷◌, ◌++◌, length, map, All, Bool, true, false, Some, None, Result, Ok, Err}
use Rattle.std.specs.Prelude.{if◌then◌else◌}
use Rattle.amqp_memory.specs.Refusal.{SomeRefused}
use Rattle.amqp_values.specs.Reading.{joined}
use Rattle.amqp_types.specs.declared.performatives.transfer.TransferFragment.TheVariants as text
use Rattle.amqp_types.specs.Transfer.{TransferModel, said_in, widest}
use Rattle.amqp_frames.specs.declared.error.Error.{Error}
use Rattle.amqp_frames.specs.declared.error.Error.TheVariants as no
use Rattle.amqp_frames.specs.declared.split.DeliveryPart.{DeliveryPart}
use Rattle.amqp_frames.specs.Cut.{transfer_text, room, LeavesRoom}

-- A transfer as a session may number it, at its widest: the first one of a delivery carries its number, in up to five bytes, and no
-- other one carries any.
abbrev pub numbered_widest : Bool → TransferModel → TransferModel
numbered_widest first t = record t { delivery_id = if first then Some 4294967295 else None }

-- it is one piece under this limit, whatever number it gets
abbrev pub IsOnePiece : ℕ → Bool → TransferModel → List ℕ → Type 0
IsOnePiece m first t payload = length (transfer_text (numbered_widest first t)) + length payload ≤ room m

abbrev pub FitsPart : ℕ → DeliveryPart → Type 0
FitsPart m p = IsOnePiece m p.is_first p.transfer p.payload

abbrev pub part_payload : DeliveryPart → List ℕ
part_payload p = p.payload

-- no more payload fits beside it
abbrev pub IsFull : ℕ → DeliveryPart → Type 0
IsFull m p = length (transfer_text (numbered_widest p.is_first p.transfer)) + length p.payload ≡ room m

abbrev pub IsLater : TransferModel → DeliveryPart → Type 0
IsLater t p = (p.is_first ≡ false) × (p.transfer ≡ t)

-- A first part, any number in the middle, and a last one. The first says that more follow, a later one says nothing again that the first
-- one said of the delivery, and the last one says what the whole transfer says of what follows. Each but the last is full, and the
-- last one is not empty.
pub record InParts (t : TransferModel) (m : ℕ) (parts : List DeliveryPart) : Type 0 where
  pub first : DeliveryPart
  pub middle : List DeliveryPart
  pub last : DeliveryPart
  pub parts_are : parts ≡ first ∷ middle ++ last ∷ []
  pub first_is : (first.is_first ≡ true) × (first.transfer ≡ said_in text.First t)
  pub middle_are : All (IsLater (said_in text.Middle t)) middle
  pub last_is : IsLater (said_in text.Last t) last
  pub first_full : IsFull m first
  pub middle_full : All (IsFull m) middle
  pub last_some : 1 ≤ length last.payload

-- the whole delivery in one part
abbrev pub InOne : TransferModel → List ℕ → List DeliveryPart → Type 0
InOne t payload parts = parts ≡ record { transfer = t; payload = payload; is_first = true } ∷ []

-- The parts of a delivery: it is one where it fits; else it is cut. Joined they are the payload, and each is one piece.
pub record IsSplit (t : TransferModel) (payload : List ℕ) (m : ℕ) (parts : List DeliveryPart) : Type 0 where
  pub shape : (IsOnePiece m true t payload × InOne t payload parts) ⊎ ((¬ IsOnePiece m true t payload) × InParts t m parts)
  pub joined_are : joined (map part_payload parts) ≡ payload
  pub each_fits : All (FitsPart m) parts

-- It can be split: it is one piece; or the first part's text fits, and a later part has room for a byte.
abbrev pub CanSplit : TransferModel → List ℕ → ℕ → Type 0
CanSplit t payload m = IsOnePiece m true t payload ⊎ LeavesRoom (widest t) m

abbrev pub SplitsTo : {X : Type 0} → (X → List DeliveryPart) → TransferModel → List ℕ → ℕ → Result X Error → Type 0
SplitsTo view t payload m (Ok x) = CanSplit t payload m × IsSplit t payload m (view x)
SplitsTo view t payload m (Err no.TooLarge) = ¬ CanSplit t payload m
SplitsTo view t payload m (Err no.OutOfMemory) = CanSplit t payload m × SomeRefused
SplitsTo view t payload m (Err no.DecodeError) = ⊥
SplitsTo view t payload m (Err no.NotImplemented) = ⊥
SplitsTo view t payload m (Err (no.Io text)) = ⊥
