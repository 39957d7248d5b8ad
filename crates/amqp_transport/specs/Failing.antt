-- Part: other calls.
-- Why a call over a stream fails: its reader or its writer did, or memory was refused. And that a writer was flushed.
use Rattle.std.specs.Prelude.{◌≡◌}
use Rattle.std.specs.IoError.{error_kind}
use Rattle.std.specs.declared.io.Error.{Error}
use Rattle.std.specs.declared.io.ErrorKind.TheVariants.{OutOfMemory}
use Rattle.amqp_memory.specs.Refusal.{SomeRefused}

-- A read of the reader answered this error. The bodies of these three are closed to every proof but those of the functions of
-- src/calls.rt, each of which makes the call: nothing else opens them.
unfoldable pub ReadFailed : Error → Type 0
ReadFailed e = Unit {0}

-- a write or a flush of the writer answered this error
unfoldable pub WriteFailed : Error → Type 0
WriteFailed e = Unit {0}

-- this writer, as it is, was flushed
unfoldable pub Flushed : {W : Type 0} → W → Type 0
Flushed w = Unit {0}

-- memory was refused, and the error says so
abbrev pub NoMemory : Error → Type 0
NoMemory e = (error_kind e ≡ OutOfMemory) × SomeRefused
