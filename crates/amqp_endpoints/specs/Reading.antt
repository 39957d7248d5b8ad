-- Part: other calls.
-- What a record says of a link (AMQP 1.0 part 2, sections 2.7.3 to 2.7.6).
use Rattle.std.specs.Prelude.{ℕ, ◌+◌, ◌*◌, ◌%◌, ◌^◌, ◌&&◌, ◌||◌, Bool, true, nat_eq, nat_le, if◌then◌else◌, Option, Some, None}
use Rattle.std.specs.Cmp.Lexicographic.{pointwise}
use Rattle.amqp_credit.specs.declared.part.PartHead.{PartHead}
use Rattle.amqp_credit.specs.declared.part.PartTag.{PartTag}
use Rattle.amqp_credit.specs.declared.part.PartTag.TheVariants.{Absent, Same, New}
use Rattle.amqp_types.specs.declared.definitions.Role.{Role}
use Rattle.amqp_types.specs.declared.definitions.Role.TheVariants.{Sender, Receiver}
use Rattle.amqp_driver.specs.declared.record.Record.{Record}
use Rattle.amqp_driver.specs.Heads.{has}
use Rattle.amqp_links.specs.declared.sending.CreditFlow.{CreditFlow}
use Rattle.amqp_links.specs.declared.session.attaching.PeerAttach.{PeerAttach}
use Rattle.amqp_endpoints.specs.declared.event.LinkEvent.{LinkEvent}
use Rattle.amqp_endpoints.specs.declared.event.LinkEvent.TheVariants.{Nothing, Settled}
use Rattle.amqp_endpoints.specs.declared.place.LinkPlace.{LinkPlace}

-- an Attach of a receiver has a target, and one of a sender has a source: else the peer refuses the link (section 2.6.3)
abbrev pub has_terminus : Record → Bool
has_terminus r = if has r.flags 16 then nat_le 2 r.outcome else nat_eq (r.outcome % 2) 1

abbrev pub peer_attach : Record → PeerAttach
peer_attach r = record {
  is_accepted = has_terminus r;
  initial_delivery_count = r.count;
  max_message_size = Some (r.first + r.last * 2 ^ 32);
}

-- one that came before this side's refuses nothing
abbrev pub first_attach : Record → PeerAttach
first_attach r = record (peer_attach r) { is_accepted = true }

abbrev pub if_set : Record → ℕ → ℕ → Option ℕ
if_set r flag n = if has r.flags flag then Some n else None

abbrev pub credit_flow : Record → CreditFlow
credit_flow r = record {
  delivery_count = if_set r 2048 r.count;
  link_credit = if_set r 1024 r.credit;
  drain = has r.flags 64;
  echo = has r.flags 128;
}

-- the tag is that of the delivery that came last; one of more than 32 bytes never is
abbrev pub is_same_tag : LinkPlace → Record → Bool
is_same_tag p r = nat_le r.tag_size 32 && nat_eq r.tag_size p.tag_size && pointwise nat_eq r.tag p.tag

abbrev pub part_tag : LinkPlace → Record → PartTag
part_tag p r = if has r.flags 16384 then (if is_same_tag p r then Same else New) else Absent

abbrev pub part_head : PartTag → Record → PartHead
part_head tag r = record {
  number = if_set r 1 r.first;
  tag = tag;
  format = if_set r 8192 r.format;
  settled = Some (has r.flags 2);
  more = has r.flags 4;
  aborted = has r.flags 8;
  size = r.payload;
}

-- a Disposition settles: it says so, or it has a terminal state of a receiver, which the relay of a sender answers by a settled one (section 2.6.12)
abbrev pub is_settled : Record → Bool
is_settled r = has r.flags 2 || has r.flags 16 && nat_le 1 r.outcome && nat_le r.outcome 4

-- the role of this side is the other one of the peer's
abbrev pub own_role : Record → Role
own_role r = if has r.flags 16 then Sender else Receiver

abbrev pub settled_range : Record → LinkEvent
settled_range r = if is_settled r then Settled (own_role r) r.first r.last (has r.flags 2) else Nothing
