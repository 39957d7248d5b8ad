-- Part: other calls; inner.
-- Bytes that came from a reader and are not taken yet.
use Rattle.std.specs.Prelude.{◌≡◌, ◌≤◌, ◌<◌, ◌⊎◌, ◌++◌, ℕ, List, length, Option, Result, Ok, Err}
use Rattle.std.specs.declared.io.Error.{Error}
use Rattle.std.specs.Io.KnownBytes.{Consumes, IsAtEnd, Keeps}
use Rattle.amqp_transport.specs.declared.received.Came.{Came}
use Rattle.amqp_transport.specs.declared.received.Came.TheVariants as came
use Rattle.amqp_transport.specs.Failing.{ReadFailed, NoMemory}

pub record ReceivedView : Type 0 where
  -- in the order in which they came
  pub bytes : List ℕ
  -- how many they may be
  pub bound : ℕ

-- One read: what the reader gives stands behind the others, and there are no more than there may be. Or it has ended; or there is no room, and it
-- is not read. Where the reader fails, or memory is refused, nothing is read.
abbrev pub Reads : ReceivedView → Option (List ℕ) → Option (List ℕ) → Result Came Error → ReceivedView → Type 0
Reads r coming coming' (Ok (came.Bytes n)) r' =
    (more : List ℕ) × (length more ≡ n) × (0 < n) × Consumes coming coming' more × (r' ≡ record r { bytes = r.bytes ++ more }) × (length r'.bytes ≤ r.bound)
Reads r coming coming' (Ok came.End) r' = IsAtEnd coming' × Keeps coming coming' × (r' ≡ r)
Reads r coming coming' (Ok came.Full) r' = (length r.bytes ≡ r.bound) × Keeps coming coming' × (r' ≡ r)
Reads r coming coming' (Err e) r' = (ReadFailed e ⊎ NoMemory e) × Keeps coming coming' × (r' ≡ r)

-- ---- parts

-- how many bytes a read gave
abbrev pub read_count : {E : Type 0} → Result ℕ E → ℕ
read_count (Ok n) = n
read_count (Err e) = 0
