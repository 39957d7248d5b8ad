use Rattle.std.proofs.Common.{◌≤◌, List, sym, ◌∙◌, subst, ap, arith}
use Rattle.amqp_events.specs.declared.room.Room.{Room}
use Rattle.amqp_events.specs.declared.event.Event.{Event}
use Rattle.amqp_events.specs.declared.event.EventKind.{EventKind}
use Rattle.amqp_events.specs.Event.{kind_of}
use Rattle.amqp_events.specs.Room.{total, raised, counted, Fits}
use Rattle.amqp_events.specs.Queue.{QueueView, has_room}
use Rattle.amqp_events.proofs.RoomLemmas.{counted_append, total_counted, below_total, fits_raised, is_roomy}
use Rattle.amqp_events.proofs.queue.EventQueue.append.Goals as goal

pub push_back_reserved-requires : goal.push_back_reserved-requires
push_back_reserved-requires c =
    let q = c.self.inside in
    let k = kind_of c.args.event.body in
    let test = ap (λ (v : QueueView). has_room v k) c.self.view_is ∙ c.requires in
    let less = below_total q.used q.room k c.self.invariant.1 (is_roomy q.used q.room q.events.items k c.self.invariant.0 test) in
    let count = ap total c.self.invariant.0 ∙ total_counted q.events.items in
    omega (arith, less, count, q.events.ok, c.self.invariant.2)

pub invariant_of-self : goal.invariant_of-self
invariant_of-self c =
    let q = c.self.inside in
    let k = kind_of c.args.event.body in
    let test = ap (λ (v : QueueView). has_room v k) c.self.view_is ∙ c.requires in
    let fits = fits_raised q.used q.room k c.self.invariant.1 (is_roomy q.used q.room q.events.items k c.self.invariant.0 test) in
    let raise = c.raise.ensures ∙ ap (λ (j : EventKind). raised q.used j) c.kind-kind.ensures in
    let counts = raise ∙ ap (λ (r : Room). raised r k) c.self.invariant.0
    ∙ sym (counted_append q.events.items c.args.event) ∙ ap (λ (es : List Event). counted es) (sym c.push_back_reserved.ensures.items) in
    (counts, subst (λ (r : Room). Fits r q.room) (sym raise) fits, subst (λ n. total q.room ≤ n) (sym c.push_back_reserved.ensures.capacity) c.self.invariant.2)
