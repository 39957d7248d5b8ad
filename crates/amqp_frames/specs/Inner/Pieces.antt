-- Part: inner.
-- What the steps of cutting make.
use Rattle.std.specs.Prelude.{◌≡◌, ◌≤◌, ◌+◌, ℕ, List, [], ◌∷◌, ◌++◌, length, map, All, Result, Ok, Err}
use Rattle.amqp_memory.specs.Refusal.{SomeRefused}
use Rattle.amqp_values.specs.Reading.{joined}
use Rattle.amqp_types.specs.Transfer.{TransferModel}
use Rattle.amqp_frames.specs.declared.error.Error.{Error}
use Rattle.amqp_frames.specs.declared.error.Error.TheVariants as no
use Rattle.amqp_frames.specs.Frame.{header_text}
use Rattle.amqp_frames.specs.Piece.{PieceParts, payload_part}
use Rattle.amqp_frames.specs.Cut.{first_text, middle_text, last_text, LeavesRoom, IsCut}
use Rattle.amqp_frames.specs.ReadBack.{AreDecoded}

-- pieces with this head were added, each with so many bytes off the front of what was left
pub record Adds (head : List ℕ) (step : ℕ) (old new : List PieceParts) (before after : List ℕ) (taken : ℕ) : Type 0 where
  pub middle : List PieceParts
  pub added : new ≡ old ++ middle
  pub heads : All (λ p. p.head ≡ head) middle
  pub full : All (λ p. length p.payload ≡ step) middle
  pub parts : before ≡ joined (map payload_part middle) ++ after
  pub left : length after + taken ≡ length before

-- a payload in pieces: so much in the first, so much in each one in the middle, and the rest in the last
pub record InPieces (channel : ℕ) (t : TransferModel) (payload : List ℕ) (front step : ℕ) (pieces : List PieceParts) : Type 0 where
  pub first : PieceParts
  pub middle : List PieceParts
  pub last : PieceParts
  pub pieces_are : pieces ≡ first ∷ middle ++ last ∷ []
  pub first_is : first.head ≡ header_text channel ++ first_text t
  pub middle_are : All (λ p. p.head ≡ header_text channel ++ middle_text t) middle
  pub last_is : last.head ≡ header_text channel ++ last_text t
  pub first_front : length first.payload ≡ front
  pub middle_step : All (λ p. length p.payload ≡ step) middle
  pub last_some : 1 ≤ length last.payload
  pub last_step : length last.payload ≤ step
  pub parts : joined (map payload_part pieces) ≡ payload

-- what cutting answers, where the transfer does not fit whole
abbrev pub CutsTo : {X : Type 0} → (X → List PieceParts) → ℕ → TransferModel → List ℕ → ℕ → Result X Error → Type 0
CutsTo view channel t payload m (Ok x) = LeavesRoom t m × IsCut channel t payload m (view x) × AreDecoded channel t payload (view x)
CutsTo view channel t payload m (Err no.TooLarge) = ¬ LeavesRoom t m
CutsTo view channel t payload m (Err no.OutOfMemory) = LeavesRoom t m × SomeRefused
CutsTo view channel t payload m (Err no.DecodeError) = ⊥
CutsTo view channel t payload m (Err no.NotImplemented) = ⊥
CutsTo view channel t payload m (Err (no.Io text)) = ⊥
