-- Part: inner.
-- The first 0 of bytes, and a response of PLAIN in a block of its own.
use Rattle.std.specs.Prelude.{◌≡◌, ◌<◌, ◌⊎◌, ℕ, List, length, take, slice_index, Result, Ok, Err}
use Rattle.amqp_memory.specs.Refusal.{SomeRefused}
use Rattle.amqp_sasl.specs.declared.plain.LoginError.{LoginError}
use Rattle.amqp_sasl.specs.declared.plain.LoginError.TheVariants as no
use Rattle.amqp_sasl.specs.Plain.{NoNul}

-- the place of the first 0, or the length where there is none
abbrev pub IsFirstNul : List ℕ → ℕ → Type 0
IsFirstNul bytes n = NoNul (take n bytes) × ((n ≡ length bytes) ⊎ ((n < length bytes) × (slice_index bytes n ≡ 0)))

abbrev pub IsResponse : List ℕ → Result (List ℕ) LoginError → Type 0
IsResponse text (Ok response) = response ≡ text
IsResponse text (Err no.HasNul) = ⊥
IsResponse text (Err no.TooLarge) = 512 < length text
IsResponse text (Err no.OutOfMemory) = SomeRefused
