-- Part: other calls.
-- How an error of reading is told of a frame.
use Rattle.amqp_values.specs.declared.error.ReadError.{ReadError}
use Rattle.amqp_values.specs.declared.error.ReadError.TheVariants as read
use Rattle.amqp_frames.specs.declared.error.Error.{Error}
use Rattle.amqp_frames.specs.declared.error.Error.TheVariants.{DecodeError, OutOfMemory}

abbrev pub error_of : ReadError → Error
error_of read.Malformed = DecodeError
error_of read.OutOfMemory = OutOfMemory
