-- Part: other calls; inner.
-- How a call ends, as a number.
use Rattle.std.specs.Prelude.{ℕ, Result, Ok, Err}
use Rattle.amqp_driver.specs.declared.answered.BeginAnswer.{BeginAnswer}
use Rattle.amqp_driver.specs.declared.answered.BeginAnswer.TheVariants as begun
use Rattle.amqp_driver.specs.declared.answered.EndAnswer.{EndAnswer}
use Rattle.amqp_driver.specs.declared.answered.EndAnswer.TheVariants as ended
use Rattle.amqp_driver.specs.declared.answered.RecordAnswer.{RecordAnswer}
use Rattle.amqp_driver.specs.declared.answered.RecordAnswer.TheVariants as answer
use Rattle.amqp_driver.specs.declared.asked.Asked.{Asked}
use Rattle.amqp_driver.specs.declared.asked.Asked.TheVariants as asked
use Rattle.amqp_driver.specs.declared.status.Status.{Status as DriverStatus}
use Rattle.amqp_driver.specs.declared.status.Status.TheVariants as driver
use Rattle.amqp1.specs.declared.status.Status.{Status}
use Rattle.amqp1.specs.declared.status.Status.TheVariants as status

abbrev pub status_number : Status → ℕ
status_number status.Done = 0
status_number status.Refused = 1
status_number status.NoMemory = 2
status_number status.TooSmall = 3
status_number status.BadArgument = 4
status_number status.NoEngine = 5
status_number status.Full = 7
status_number status.BadSize = 8
status_number status.Short = 9
status_number status.Again = 10
status_number status.Waits = 11
status_number status.Over = 12
status_number status.TooLarge = 13
status_number status.Nothing = 14
status_number status.Lost = 15
status_number status.Broken = 16
status_number status.NotReleased = 17
status_number status.NotForgotten = 18
status_number status.NotDetached = 19
status_number status.Unsettled = 20
status_number status.NotNext = 21
status_number status.NoLink = 22
status_number status.InUse = 23
status_number status.HeldBack = 24

-- of a call of the driver that takes many
abbrev pub taken_status : DriverStatus → Status
taken_status driver.Done = status.Done
taken_status driver.Full = status.Full
taken_status driver.BadSize = status.BadSize
taken_status driver.NoMemory = status.NoMemory
taken_status driver.Short = status.Short
taken_status driver.Again = status.Again
taken_status driver.Waits = status.Waits
taken_status driver.Over = status.Over
taken_status driver.TooLarge = status.TooLarge

-- of a request
abbrev pub status_of : Asked → Status
status_of asked.Done = status.Done
status_of asked.TooLarge = status.Refused
status_of (asked.Refused e) = status.Refused
status_of asked.NoMemory = status.NoMemory
status_of asked.Over = status.Refused

-- of an answer to a Begin of the peer's: what is no Begin that answers none is a bad argument
abbrev pub begun_status : BeginAnswer → Status
begun_status begun.Done = status.Done
begun_status (begun.Unread e) = status.BadArgument
begun_status begun.NotOpened = status.Refused
begun_status begun.ChannelInUse = status.Refused
begun_status begun.TooLarge = status.Refused
begun_status begun.NoMemory = status.NoMemory
begun_status (begun.Refused e) = status.Refused
begun_status begun.Lost = status.Lost
begun_status begun.Broken = status.Broken

-- of an answer to an End of the peer's
abbrev pub ended_status : EndAnswer → Status
ended_status ended.Done = status.Done
ended_status ended.NotEnded = status.Refused
ended_status (ended.Unsent a) = status_of a
ended_status (ended.NotReleased a) = status.NotReleased
ended_status (ended.NotForgotten a) = status.NotForgotten

-- of the answer that a record asks for
abbrev pub answered_status : RecordAnswer → Status
answered_status answer.Nothing = status.Nothing
answered_status (answer.Begin a) = begun_status a
answered_status (answer.End a) = ended_status a
answered_status (answer.Asked a) = status_of a
answered_status answer.NoMemory = status.NoMemory

-- of what waits in the engine, where all is put out or memory was refused
abbrev pub flushed_status : {X E : Type 0} → Result X E → Status
flushed_status (Ok x) = status.Done
flushed_status (Err e) = status.NoMemory
