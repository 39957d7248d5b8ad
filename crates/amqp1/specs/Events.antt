-- Part: other calls.
-- What a record is to the links of its session, in the numbers that C is told; and what a link may owe for it.
use Rattle.std.specs.Prelude.{ℕ, Bool, true, false, ◌+◌, ◌/◌, ◌%◌, Option, Some, None, if◌then◌else◌, is_some, nat_eq}
use Rattle.amqp_types.specs.declared.definitions.Role.{Role}
use Rattle.amqp_types.specs.declared.definitions.Role.TheVariants.{Sender, Receiver}
use Rattle.amqp_credit.specs.declared.part.PartEnd.{PartEnd}
use Rattle.amqp_credit.specs.declared.part.PartEnd.TheVariants.{More, Last, Aborted}
use Rattle.amqp_credit.specs.declared.part.PartError.TheVariants as error
use Rattle.amqp_driver.specs.Record.{bit}
use Rattle.amqp_links.specs.declared.life.Life.{Life}
use Rattle.amqp_links.specs.declared.life.Life.TheVariants as life
use Rattle.amqp_links.specs.declared.life.LinkEnd.{LinkEnd}
use Rattle.amqp_links.specs.declared.life.LinkEnd.TheVariants as end
use Rattle.amqp_links.specs.declared.receiving.LinkFault.{LinkFault}
use Rattle.amqp_links.specs.declared.receiving.LinkFault.TheVariants as fault
use Rattle.amqp_links.specs.declared.session.taking.ReceivedPart.{ReceivedPart}
use Rattle.amqp_endpoints.specs.declared.event.LinkEvent.{LinkEvent}
use Rattle.amqp_endpoints.specs.declared.event.LinkEvent.TheVariants as event
use Rattle.amqp1.specs.declared.event.Event.{Event}

abbrev pub life_number : Life → ℕ
life_number life.Attaching = 0
life_number life.Refused = 1
life_number life.Attached = 2
life_number life.Detaching = 3
life_number life.Detached = 4

abbrev pub end_number : LinkEnd → ℕ
end_number end.Refused = 0
end_number end.ByPeer = 1
end_number end.Answered = 2
end_number end.Stray = 3

abbrev pub fault_number : LinkFault → ℕ
fault_number fault.OverCredit = 1
fault_number fault.CountPastLimit = 2
fault_number (fault.Part error.NoneUnderWay) = 3
fault_number (fault.Part error.NoNumber) = 4
fault_number (fault.Part error.NoTag) = 5
fault_number (fault.Part error.OtherDelivery) = 6
fault_number (fault.Part error.OtherFormat) = 7
fault_number (fault.Part error.TooLarge) = 8

abbrev pub fault_at : ℕ → Option LinkFault
fault_at n =
    if nat_eq n 1 then Some fault.OverCredit else if nat_eq n 2 then Some fault.CountPastLimit else
    if nat_eq n 3 then Some (fault.Part error.NoneUnderWay) else if nat_eq n 4 then Some (fault.Part error.NoNumber) else
    if nat_eq n 5 then Some (fault.Part error.NoTag) else if nat_eq n 6 then Some (fault.Part error.OtherDelivery) else
    if nat_eq n 7 then Some (fault.Part error.OtherFormat) else if nat_eq n 8 then Some (fault.Part error.TooLarge) else None

-- ---- an event

-- one of a link with nothing but a detail
abbrev pub plain_event : ℕ → ℕ → ℕ → ℕ → ℕ → Event
plain_event n kind h detail credit = record {
  given = 0;
  size = 0;
  session = n;
  kind = kind;
  link = h;
  first = 0;
  last = 0;
  detail = detail;
  credit = credit;
  flags = 0;
}

abbrev pub given_or_none : Option ℕ → ℕ
given_or_none None = 0
given_or_none (Some x) = x

abbrev pub given_flag : Option ℕ → ℕ
given_flag given = bit (is_some given) 16

abbrev pub ending_flag : PartEnd → ℕ
ending_flag More = 0
ending_flag Last = 2
ending_flag Aborted = 4

abbrev pub part_flags : ReceivedPart → ℕ
part_flags p = bit p.part.is_first 1 + ending_flag p.part.end + bit p.part.settled 8 + given_flag p.settled

abbrev pub role_flag : Role → ℕ
role_flag Sender = 0
role_flag Receiver = 64

abbrev pub part_event : ℕ → ℕ → ReceivedPart → ℕ → Event
part_event n h p credit = record (plain_event n 3 h 0 credit) {
  given = given_or_none p.settled;
  size = p.part.size;
  first = p.part.number;
  last = p.part.number;
  flags = part_flags p;
}

-- a transfer that names its delivery by this number, or names none
abbrev pub numbered_event : Option ℕ → Event → Event
numbered_event None e = e
numbered_event (Some n) e = record e { first = n; last = n; flags = 256 }

-- deliveries that are settled are of no link, so there is no credit
abbrev pub settled_event : ℕ → Role → ℕ → ℕ → Bool → Event
settled_event n role first last by_peer =
    record (plain_event n 6 4294967295 0 0) { first = first; last = last; flags = role_flag role + bit by_peer 128 }

abbrev pub event_of : ℕ → LinkEvent → ℕ → Event
event_of n event.Nothing credit = plain_event n 0 4294967295 0 credit
event_of n (event.Attached h l) credit = plain_event n 1 h (life_number l) credit
event_of n (event.Flow h used) credit = plain_event n 2 h used credit
event_of n (event.Part h p) credit = part_event n h p credit
event_of n (event.PassedOver h number) credit = numbered_event number (plain_event n 4 h 0 credit)
event_of n (event.Fault h f number) credit = numbered_event number (plain_event n 5 h (fault_number f) credit)
event_of n (event.Settled role first last by_peer) credit = settled_event n role first last by_peer
event_of n (event.Ended h e closed) credit = record (plain_event n 7 h (end_number e) credit) { flags = bit closed 32 }
event_of n (event.Due h) credit = plain_event n 8 h 0 credit

-- the link of an event, or none
abbrev pub link_of : LinkEvent → ℕ
link_of (event.Attached h l) = h
link_of (event.Flow h used) = h
link_of (event.Part h p) = h
link_of (event.PassedOver h n) = h
link_of (event.Fault h f n) = h
link_of (event.Ended h e closed) = h
link_of (event.Due h) = h
link_of e = 4294967295

-- ---- and back: what a link may owe for it

-- the number of its delivery, where it names one
abbrev pub number_asked : Event → Option ℕ
number_asked e = if nat_eq (e.flags / 256 % 2) 1 then Some e.first else None

abbrev pub fault_asked : Event → Option LinkFault → LinkEvent
fault_asked e None = event.Nothing
fault_asked e (Some f) = event.Fault e.link f (number_asked e)

-- of a delivery the number alone counts, and what was given with it
abbrev pub part_asked : Event → ReceivedPart
part_asked e = record {
  part = record { number = e.first; is_first = false; end = Last; settled = true; size = 0 };
  settled = if nat_eq (e.flags / 16 % 2) 1 then Some e.given else None;
}

-- the role of this side
abbrev pub role_asked : ℕ → Role
role_asked flags = if nat_eq (flags / 64 % 2) 1 then Receiver else Sender

-- Which Detach it was is of no matter.
abbrev pub event_asked : Event → LinkEvent
event_asked e =
    if nat_eq e.kind 1 then event.Attached e.link life.Attached else
    if nat_eq e.kind 3 then event.Part e.link (part_asked e) else
    if nat_eq e.kind 4 then event.PassedOver e.link (number_asked e) else
    if nat_eq e.kind 2 then event.Flow e.link e.detail else
    if nat_eq e.kind 5 then fault_asked e (fault_at e.detail) else
    if nat_eq e.kind 7 then event.Ended e.link end.ByPeer (nat_eq (e.flags / 32 % 2) 1) else
    if nat_eq e.kind 6 then event.Settled (role_asked e.flags) e.first e.last (nat_eq (e.flags / 128 % 2) 1) else
    if nat_eq e.kind 8 then event.Due e.link else event.Nothing
