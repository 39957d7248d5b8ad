-- Part: other calls; inner.
-- A walk over the parts of a list, where they stand in received bytes.
use Rattle.std.specs.Prelude.{◌≡◌, ◌≤◌, ◌-◌, ◌==◌, ℕ, List, take, drop, length, slice_range, Option, Some, None, Result, Ok, Err, if◌then◌else◌}
use Rattle.amqp_values.specs.declared.error.ReadError.{ReadError}
use Rattle.amqp_values.specs.declared.error.ReadError.TheVariants.{Malformed, OutOfMemory}
use Rattle.amqp_values.specs.Slots.{PartsLeft}
use Rattle.amqp_values.specs.declared.list_walk.ListWalk.{ListWalk}
use Rattle.amqp_values.specs.Reading.{◌>>=◌, byte_at}
use Rattle.amqp_values.specs.Composite.{list_at}

-- the parts that are left, where the region of the list ends with the text
abbrev pub ahead : List ℕ → ListWalk → PartsLeft
ahead text w = record { left = w.left; bytes = drop w.at text }

-- the code of the next part; that of null also where the list has ended
unfoldable pub part_code_at : PartsLeft → Option (ℕ × PartsLeft)
part_code_at p =
    if p.left == 0 then Some (0x40, p)
    else (byte_at p.bytes >>= λ x. Some (x.0, record { left = p.left - 1; bytes = x.1 }))

-- a list stands at the front: the walk is before its parts, and they end so many bytes from the beginning
abbrev pub IsEntered : List ℕ → Result (ListWalk × ℕ) ReadError → Type 0
IsEntered bytes (Ok x) = (list_at bytes ≡ Some (ahead (take x.1 bytes) x.0, drop x.1 bytes)) × (x.0.at ≤ x.1) × (x.1 ≤ length bytes)
IsEntered bytes (Err Malformed) = list_at bytes ≡ None
IsEntered bytes (Err OutOfMemory) = Unit {0}

-- so many bytes, from this place to that one
abbrev pub IsRegion : List ℕ → ℕ → Result ℕ ReadError → Option (List ℕ × List ℕ) → Type 0
IsRegion text at (Ok from) read = (read ≡ Some (slice_range text from at, drop at text)) × (from ≤ at)
IsRegion text at (Err Malformed) read = read ≡ None
IsRegion text at (Err OutOfMemory) read = Unit {0}
