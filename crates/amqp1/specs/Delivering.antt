-- Part: other calls.
-- What became of a transfer on a link, and a delivery that is unsettled no longer, in the numbers that C is told.
use Rattle.std.specs.Prelude.{ℕ, Result, Ok, Err, is_some}
use Rattle.amqp_driver.specs.Record.{bit}
use Rattle.amqp_links.specs.declared.sending.SendError.TheVariants as error
use Rattle.amqp_links.specs.declared.session.sending.SendPartError.{SendPartError}
use Rattle.amqp_links.specs.declared.session.sending.SendPartError.TheVariants as part
use Rattle.amqp_endpoints.specs.declared.endpoint.sending.SendFailure.{SendFailure}
use Rattle.amqp_endpoints.specs.declared.endpoint.sending.SendFailure.TheVariants as send
use Rattle.amqp_endpoints.specs.declared.endpoint.sending.SentDelivery.{SentDelivery}
use Rattle.amqp_unsettled.specs.declared.entry.Entry.{Entry}
use Rattle.amqp1.specs.declared.delivered.Delivered.{Delivered}
use Rattle.amqp1.specs.declared.delivered.Unsettled.{Unsettled}
use Rattle.amqp1.specs.declared.status.Status.{Status}
use Rattle.amqp1.specs.declared.status.Status.TheVariants as status
use Rattle.amqp1.specs.Events.{given_or_none}
use Rattle.amqp1.specs.Status.{taken_status}

-- why a link does not send, as the number of a refusal: none for memory
abbrev pub part_refusal : SendPartError → ℕ
part_refusal part.NoSender = 111
part_refusal (part.Link error.NotAttached) = 112
part_refusal (part.Link error.TooLarge) = 113
part_refusal (part.Link error.NoneUnderWay) = 114
part_refusal (part.Link error.NoCredit) = 115
part_refusal part.NotNext = 116
part_refusal part.OutOfMemory = 0

abbrev pub send_refusal : SendFailure → ℕ
send_refusal (send.Link e) = part_refusal e
send_refusal (send.Refused why) = why
send_refusal (send.Stopped why) = 0

abbrev pub failure_status : SendFailure → Status
failure_status (send.Link part.OutOfMemory) = status.NoMemory
failure_status (send.Link e) = status.Refused
failure_status (send.Refused why) = status.Refused
failure_status (send.Stopped why) = taken_status why

abbrev pub send_status : Result SentDelivery SendFailure → Status
send_status (Ok told) = status.Done
send_status (Err e) = failure_status e

abbrev pub delivered_of : Result SentDelivery SendFailure → Delivered
delivered_of (Ok told) = record {
  given = given_or_none told.settled;
  number = told.number;
  refusal = 0;
  has_given = bit (is_some told.settled) 1;
  reserved = 0;
}
delivered_of (Err e) = record { given = 0; number = 0; refusal = send_refusal e; has_given = 0; reserved = 0 }

abbrev pub unsettled_of : Entry → Unsettled
unsettled_of e = record { given = e.given; number = e.number; link = e.link }
