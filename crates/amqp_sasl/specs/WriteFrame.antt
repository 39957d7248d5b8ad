-- Part: other calls.
-- What is written of a SASL frame.
use Rattle.std.specs.Prelude.{◌≡◌, ◌<◌, ◌≤◌, ℕ, List, ◌++◌, length, Result, Ok, Err}
use Rattle.amqp_memory.specs.Refusal.{SomeRefused}
use Rattle.amqp_values.specs.declared.error.WriteError.{WriteError}
use Rattle.amqp_values.specs.declared.error.WriteError.TheVariants.{TooLarge, OutOfMemory}

-- This text stands after what was there; or it has more than 512 bytes, or memory was refused: then nothing is appended.
abbrev pub Appends : List ℕ → List ℕ → Result (Unit {0}) WriteError → List ℕ → Type 0
Appends text old (Ok u) new = (new ≡ old ++ text) × (length text ≤ 512)
Appends text old (Err TooLarge) new = (new ≡ old) × (512 < length text)
Appends text old (Err OutOfMemory) new = (new ≡ old) × (length text ≤ 512) × SomeRefused
