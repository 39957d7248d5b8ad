-- Part: other calls.
-- What an opening tells, as a record: the table of them (AMQP 1.0 part 2, section 2.2; part 5, section 5.3).
use Rattle.std.specs.Prelude.{ℕ, ◌-◌, min, Option, Some, None}
use Rattle.amqp_sasl.specs.declared.place.Place.{Place}
use Rattle.amqp_sasl.specs.declared.told.Told.{Told}
use Rattle.amqp_sasl.specs.declared.told.Told.TheVariants as told
use Rattle.amqp_sasl.specs.Header.{protocol_id}
use Rattle.amqp_sasl.specs.SaslFrame.{code_number}
use Rattle.amqp_driver.specs.declared.record.Record.{Record}
use Rattle.amqp_driver.specs.Record.{none, empty_record}

-- a number, as far as four bytes say it
abbrev pub narrow : ℕ → ℕ
narrow n = min n none

-- a header or a SASL frame, with all of its bytes, which are the first of the input
abbrev pub taken_record : ℕ → ℕ → Record
taken_record kind len = record empty_record { kind = kind; size = narrow len }

-- what the thing carries stands there
abbrev pub carrying : Place → Record → Record
carrying p r = record r { payload_at = narrow p.from; payload = narrow (p.to - p.from) }

-- it carries that, or nothing, which is told by the place `none`
abbrev pub carrying_if : Option Place → Record → Record
carrying_if (Some p) r = carrying p r
carrying_if None r = record r { payload_at = none }

-- the name of a mechanism stands there
abbrev pub naming : Place → Record → Record
naming p r = record r { first = narrow p.from; last = narrow (p.to - p.from) }

-- the host that a client asks for stands there, or it asks for none
abbrev pub hosted_if : Option Place → Record → Record
hosted_if (Some p) r = record r { count = narrow p.from; credit = narrow (p.to - p.from) }
hosted_if None r = record r { count = none }

-- the connection is not opened, for this reason
abbrev pub refused : ℕ → ℕ → Record
refused why len = record (taken_record 20 len) { refusal = why }

-- The record of what is told of a thing that has so many bytes. What only waits has none.
abbrev pub record_of_told : ℕ → Told → Option Record
record_of_told len (told.Wants n) = None
record_of_told len told.Waits = None
record_of_told len told.Ended = None
record_of_told len told.Greeted = Some (taken_record 13 len)
record_of_told len told.Opened = Some (taken_record 14 len)
record_of_told len (told.Chosen login mechanisms) = Some (carrying mechanisms (record (taken_record 15 len) { first = narrow login }))
record_of_told len (told.LoginAsked mechanism response hostname) =
    Some (hosted_if hostname (carrying_if response (naming mechanism (taken_record 16 len))))
record_of_told len (told.Challenged p) = Some (carrying p (taken_record 17 len))
record_of_told len (told.Responded p) = Some (carrying p (taken_record 18 len))
record_of_told len (told.LoggedIn additional) = Some (carrying_if additional (taken_record 19 len))
record_of_told len (told.NoMechanism mechanisms) = Some (carrying mechanisms (refused 101 len))
record_of_told len (told.NotOffered mechanism) = Some (naming mechanism (refused 102 len))
record_of_told len (told.Refused c additional) = Some (carrying_if additional (record (refused 103 len) { outcome = code_number c }))
record_of_told len (told.OtherProtocol p) = Some (record (refused 104 len) { first = protocol_id p })
record_of_told len (told.OtherHeader came) = Some (refused 105 len)
record_of_told len told.NotAmqp = Some (refused 106 len)
record_of_told len (told.Malformed fault) = Some (refused 107 len)
record_of_told len (told.Unexpected body) = Some (refused 108 len)
