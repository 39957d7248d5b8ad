-- Part: the bytes; other calls; inner.
-- Pieces: a head, and a part of a payload.
use Rattle.std.specs.Prelude.{◌≡◌, ◌<◌, ◌^◌, ℕ, List, ◌++◌, length, Result, Ok, Err}
use Rattle.amqp_memory.specs.Refusal.{SomeRefused}
use Rattle.amqp_values.specs.Same.{Test, both, field, texts}
use Rattle.amqp_frames.specs.declared.error.Error.{Error}
use Rattle.amqp_frames.specs.declared.error.Error.TheVariants as no
use Rattle.amqp_frames.specs.declared.piece.HeadBytes.{HeadBytes}
use Rattle.amqp_frames.specs.declared.piece.HeadBytes.TheVariants as head

pub record PieceParts : Type 0 where
  pub head : List ℕ
  pub payload : List ℕ

abbrev pub piece_bytes : PieceParts → List ℕ
piece_bytes p = p.head ++ p.payload

-- two pieces are the same where their heads are, and their parts of the payload
abbrev pub piece_same : Test PieceParts
piece_same = both (field (λ p. p.head) texts) (field (λ p. p.payload) texts)

-- the bytes of a head, in a buffer of its own or shared
abbrev pub head_bytes : HeadBytes → List ℕ
head_bytes (head.Own b) = b.items
head_bytes (head.Shared b) = b

abbrev pub payload_part : PieceParts → List ℕ
payload_part p = p.payload

-- at most 4294967295 bytes
pub record IsPiece (p : PieceParts) : Type 0 where
  pub short : length (piece_bytes p) < 2 ^ 32

-- the bytes of a piece, unless memory was refused
abbrev pub JoinsBytes : PieceParts → Result (List ℕ) Error → Type 0
JoinsBytes p (Ok bytes) = bytes ≡ piece_bytes p
JoinsBytes p (Err no.OutOfMemory) = SomeRefused
JoinsBytes p (Err e) = ⊥
