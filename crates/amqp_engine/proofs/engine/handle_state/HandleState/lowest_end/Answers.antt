use Rattle.std.proofs.Common.{rules, ap, sym, ◌∙◌}
use Rattle.std.specs.FinMap as map
use Rattle.std.specs.BinaryHeap.{heap_items}
use Rattle.amqp_engine.specs.Inner.Places.{has_entries}
use Rattle.amqp_connection.proofs.LowestChannelLemmas.{empty}
use Rattle.amqp_engine.proofs.EndQueueLemmas.{no_entry, none_noted, some_noted}
use Rattle.amqp_engine.proofs.engine.handle_state.HandleState.lowest_end.Goals as goal

pub returns-in-Some : goal.returns-in-Some
returns-in-Some c =
    sym (ap (λ v. has_entries (map.entries v.wishes.ends)) (sym c.self.view_is)
    ∙ some_noted c.self.inside.places.entries (heap_items c.self.inside.queue) c.in-Some.top.now (search rules) c.in-Some.ensures.lookup (search rules) c.self.invariant.each)

pub returns-in-None : goal.returns-in-None
returns-in-None c =
    sym (ap (λ v. has_entries (map.entries v.wishes.ends)) (sym c.self.view_is)
    ∙ ap (λ es. has_entries es) (no_entry _ (none_noted c.self.inside.places.entries (heap_items c.self.inside.queue) (empty (heap_items c.self.inside.queue) (search rules)) c.self.invariant.each)))
