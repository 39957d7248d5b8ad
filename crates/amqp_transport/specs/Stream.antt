-- Part: other calls.
-- The stream: the protocol header, and frames after their sizes (AMQP 1.0 part 2, sections 2.2 and 2.3).
use Rattle.std.specs.Prelude.{◌≡◌, ◌≢◌, ◌≤◌, ◌<◌, ◌+◌, ◌^◌, ◌⊎◌, ℕ, List, [], ◌∷◌, ◌++◌, length, Option}
use Rattle.std.specs.Int.{w32, from_be_bytes}
use Rattle.std.specs.IoError.{error_kind}
use Rattle.std.specs.declared.io.Error.{Error}
use Rattle.std.specs.declared.io.ErrorKind.TheVariants.{InvalidData}
use Rattle.std.specs.Io.KnownBytes.{Consumes}
use Rattle.amqp_transport.specs.Failing.{ReadFailed, WriteFailed, NoMemory}

-- the protocol header: AMQP, then 0 1 0 0
abbrev pub header : List ℕ
header = 0x41 ∷ 0x4d ∷ 0x51 ∷ 0x50 ∷ 0 ∷ 1 ∷ 0 ∷ 0 ∷ []

-- the eight bytes that came are no such header
pub record IsOtherHeader (old new : Option (List ℕ)) (e : Error) : Type 0 where
  pub theirs : List ℕ
  pub eight : length theirs ≡ 8
  pub read : Consumes old new theirs
  pub differs : theirs ≢ header
  pub kind : error_kind e ≡ InvalidData

-- Why headers are not exchanged: the writer failed, and nothing was read; or this side's was sent, and the reader failed or gave another one.
abbrev pub NotExchanged : Type 0 → Type 0 → Option (List ℕ) → Option (List ℕ) → Error → Type 0
NotExchanged unread sent old new e = (WriteFailed e × unread) ⊎ (sent × (ReadFailed e ⊎ IsOtherHeader old new e))

-- four bytes that spell a size
pub record IsSize (size : List ℕ) (n : ℕ) : Type 0 where
  pub four : length size ≡ 4
  pub spells : from_be_bytes w32 size ≡ n

-- The frame that comes next, after its size, which is within the limit; or the input has ended.
pub record TakesFrame (limit : ℕ) (old new : Option (List ℕ)) (frame : List ℕ) : Type 0 where
  pub size : List ℕ
  pub is_size : IsSize size (length frame + 4)
  pub bytes : Consumes old new (size ++ frame)
  pub least : 4 ≤ length frame
  pub within : length frame + 4 ≤ limit

-- a size was read that no frame may have: below 8, or above the limit
pub record RefusesSize (limit : ℕ) (old new : Option (List ℕ)) (e : Error) : Type 0 where
  pub size : List ℕ
  pub n : ℕ
  pub is_size : IsSize size n
  pub read : Consumes old new size
  pub bad : (n < 8) ⊎ (limit < n)
  pub kind : error_kind e ≡ InvalidData

-- why no frame is read, though the input has not ended
abbrev pub NoFrame : ℕ → Option (List ℕ) → Option (List ℕ) → Error → Type 0
NoFrame limit old new e = ReadFailed e ⊎ (NoMemory e ⊎ RefusesSize limit old new e)

-- Why so many bytes are not written after their size: the writer failed; or the size does not fit four bytes, and nothing was written.
abbrev pub NotSized : Type 0 → ℕ → Error → Type 0
NotSized unwritten len e = WriteFailed e ⊎ ((2 ^ 32 ≤ len + 4) × unwritten × (error_kind e ≡ InvalidData))
