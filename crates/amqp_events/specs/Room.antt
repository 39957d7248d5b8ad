-- Part: other calls; inner.
-- Room: numbers of events by kind.
use Rattle.std.specs.Prelude.{ℕ, ◌+◌, ◌-◌, ◌≤◌, List, [], ◌∷◌}
use Rattle.amqp_events.specs.declared.room.Room.{Room}
use Rattle.amqp_events.specs.declared.event.Event.{Event}
use Rattle.amqp_events.specs.declared.event.EventKind.{EventKind}
use Rattle.amqp_events.specs.declared.event.EventKind.TheVariants as kind
use Rattle.amqp_events.specs.Event.{kind_of}

abbrev pub room_of : Room → EventKind → ℕ
room_of r kind.Link = r.links
room_of r kind.Flow = r.flows
room_of r kind.Transfer = r.transfers
room_of r kind.Disposition = r.dispositions

abbrev pub total : Room → ℕ
total r = r.links + r.flows + r.transfers + r.dispositions

-- one more of a kind, and one less
abbrev pub raised : Room → EventKind → Room
raised r kind.Link = record r { links = r.links + 1 }
raised r kind.Flow = record r { flows = r.flows + 1 }
raised r kind.Transfer = record r { transfers = r.transfers + 1 }
raised r kind.Disposition = record r { dispositions = r.dispositions + 1 }

abbrev pub lowered : Room → EventKind → Room
lowered r kind.Link = record r { links = r.links - 1 }
lowered r kind.Flow = record r { flows = r.flows - 1 }
lowered r kind.Transfer = record r { transfers = r.transfers - 1 }
lowered r kind.Disposition = record r { dispositions = r.dispositions - 1 }

abbrev pub no_room : Room
no_room = record { links = 0; flows = 0; transfers = 0; dispositions = 0 }

-- how many events of each kind are in a list
abbrev pub counted : List Event → Room
counted [] = no_room
counted (e ∷ es) = raised (counted es) (kind_of e.body)

-- no more of any kind than there is room for
abbrev pub Fits : Room → Room → Type 0
Fits used room = (k : EventKind) → room_of used k ≤ room_of room k
