-- Part: inner.
-- How an answer of a writer is told.
use Rattle.std.specs.Prelude.{Result, Ok, Err}
use Rattle.amqp_values.specs.declared.error.WriteError.{WriteError}
use Rattle.amqp_values.specs.declared.error.WriteError.TheVariants as write
use Rattle.amqp_sasl.specs.declared.told.OpeningError.{OpeningError}
use Rattle.amqp_sasl.specs.declared.told.OpeningError.TheVariants as no

abbrev pub as_told : Result (Unit {0}) WriteError → Result (Unit {0}) OpeningError
as_told (Ok u) = Ok u
as_told (Err write.TooLarge) = Err no.TooLarge
as_told (Err write.OutOfMemory) = Err no.OutOfMemory
