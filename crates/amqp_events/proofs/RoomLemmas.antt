-- One more event of a kind, and the room that is left.
use Rattle.std.proofs.Common.{◌≡◌, ℕ, ◌+◌, ◌<◌, List, [], ◌∷◌, ◌++◌, length, true, nat_lt, refl, ap, sym, ◌∙◌, subst, arith}
use Rattle.std.proofs.lemmas.Bool.Decides.{nat_tests}
use Rattle.std.proofs.lemmas.Grind.{common_steps}
use Rattle.amqp_events.specs.declared.room.Room.{Room}
use Rattle.amqp_events.specs.declared.event.Event.{Event}
use Rattle.amqp_events.specs.declared.event.EventKind.{EventKind}
use Rattle.amqp_events.specs.declared.event.EventKind.TheVariants as kind
use Rattle.amqp_events.specs.Event.{kind_of}
use Rattle.amqp_events.specs.Room.{room_of, total, raised, counted, Fits}

raised_twice : (r : Room) (j k : EventKind) → raised (raised r j) k ≡ raised (raised r k) j
raised_twice r kind.Link kind.Link = refl
raised_twice r kind.Link kind.Flow = refl
raised_twice r kind.Link kind.Transfer = refl
raised_twice r kind.Link kind.Disposition = refl
raised_twice r kind.Flow kind.Link = refl
raised_twice r kind.Flow kind.Flow = refl
raised_twice r kind.Flow kind.Transfer = refl
raised_twice r kind.Flow kind.Disposition = refl
raised_twice r kind.Transfer kind.Link = refl
raised_twice r kind.Transfer kind.Flow = refl
raised_twice r kind.Transfer kind.Transfer = refl
raised_twice r kind.Transfer kind.Disposition = refl
raised_twice r kind.Disposition kind.Link = refl
raised_twice r kind.Disposition kind.Flow = refl
raised_twice r kind.Disposition kind.Transfer = refl
raised_twice r kind.Disposition kind.Disposition = refl

-- an event at the end counts as one at the front
pub counted_append : (es : List Event) (e : Event) → counted (es ++ e ∷ []) ≡ raised (counted es) (kind_of e.body)
counted_append [] e = refl
counted_append (x ∷ es) e = ap (λ (r : Room). raised r (kind_of x.body)) (counted_append es e) ∙ raised_twice (counted es) (kind_of e.body) (kind_of x.body)

total_raised : (r : Room) (k : EventKind) → total (raised r k) ≡ total r + 1
total_raised r kind.Link = omega arith
total_raised r kind.Flow = omega arith
total_raised r kind.Transfer = omega arith
total_raised r kind.Disposition = omega arith

pub total_counted : (es : List Event) → total (counted es) ≡ length es
total_counted [] = refl
total_counted (e ∷ es) = let i = total_counted es in let r = total_raised (counted es) (kind_of e.body) in omega (arith, i, r)

-- room of one kind is room in all
pub below_total : (used room : Room) (k : EventKind) → Fits used room → room_of used k < room_of room k → total used < total room
below_total used room kind.Link f h = omega (arith, h, f kind.Link, f kind.Flow, f kind.Transfer, f kind.Disposition)
below_total used room kind.Flow f h = omega (arith, h, f kind.Link, f kind.Flow, f kind.Transfer, f kind.Disposition)
below_total used room kind.Transfer f h = omega (arith, h, f kind.Link, f kind.Flow, f kind.Transfer, f kind.Disposition)
below_total used room kind.Disposition f h = omega (arith, h, f kind.Link, f kind.Flow, f kind.Transfer, f kind.Disposition)

pub fits_raised : (used room : Room) (k : EventKind) → Fits used room → room_of used k < room_of room k → Fits (raised used k) room
fits_raised used room kind.Link f h kind.Link = omega (arith, h)
fits_raised used room kind.Link f h kind.Flow = f kind.Flow
fits_raised used room kind.Link f h kind.Transfer = f kind.Transfer
fits_raised used room kind.Link f h kind.Disposition = f kind.Disposition
fits_raised used room kind.Flow f h kind.Link = f kind.Link
fits_raised used room kind.Flow f h kind.Flow = omega (arith, h)
fits_raised used room kind.Flow f h kind.Transfer = f kind.Transfer
fits_raised used room kind.Flow f h kind.Disposition = f kind.Disposition
fits_raised used room kind.Transfer f h kind.Link = f kind.Link
fits_raised used room kind.Transfer f h kind.Flow = f kind.Flow
fits_raised used room kind.Transfer f h kind.Transfer = omega (arith, h)
fits_raised used room kind.Transfer f h kind.Disposition = f kind.Disposition
fits_raised used room kind.Disposition f h kind.Link = f kind.Link
fits_raised used room kind.Disposition f h kind.Flow = f kind.Flow
fits_raised used room kind.Disposition f h kind.Transfer = f kind.Transfer
fits_raised used room kind.Disposition f h kind.Disposition = omega (arith, h)

is_below : (m n : ℕ) → nat_lt m n ≡ true → m < n
is_below m n h = grind (arith, nat_tests, common_steps)

-- what the test of a queue's room says of the numbers that it compares
pub is_roomy : (used room : Room) (es : List Event) (k : EventKind) → used ≡ counted es → nat_lt (room_of (counted es) k) (room_of room k) ≡ true → room_of used k < room_of room k
is_roomy used room es k u h = subst (λ (r : Room). room_of r k < room_of room k) (sym u) (is_below _ _ h)
