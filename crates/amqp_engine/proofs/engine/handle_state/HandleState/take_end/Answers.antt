use Rattle.std.proofs.Common.{rules, ◌≡◌, ◌+◌, ◌-◌, refl, ap, sym, subst, ◌∙◌, Some, None, true}
use Rattle.std.specs.FinMap as map
use Rattle.std.specs.BinaryHeap.{heap_items, heap_len}
use Rattle.amqp_engine.specs.Inner.Places.{TakesEnd, Swaps, Queued, pick}
use Rattle.amqp_engine.proofs.EndQueueLemmas.{no_entry, none_noted}
use Rattle.amqp_connection.proofs.LowestChannelLemmas.{empty}
use Rattle.amqp_engine.proofs.SessionSlotLemmas.{same_pick, queued_taken, took_first}
use Rattle.amqp_engine.proofs.engine.handle_state.HandleState.take_end.Goals as goal

pub returns-clause-outcomes : goal.returns-clause-outcomes
returns-clause-outcomes c = ap (λ e. record { connection = c.self.inside.outcome; sessions = e }) (same_pick (λ p. p.wish) _ _ _ _ _ (λ p. p.outcome) (λ p. refl) c.swap_wish.ensures.swaps) ∙ ap (λ v. v.outcomes) c.self.view_is

pub returns-clause-places : goal.returns-clause-places
returns-clause-places c = same_pick (λ p. p.wish) _ _ _ _ _ (λ p. Some true) (λ p. refl) c.swap_wish.ensures.swaps ∙ ap (λ v. v.places) c.self.view_is

pub returns-in_default-clause-wishes : goal.returns-in_default-clause-wishes
returns-in_default-clause-wishes c = (
  ap (λ v. map.entries v.wishes.ends) (sym c.self.view_is) ∙ no_entry _ (none_noted c.self.inside.places.entries (heap_items c.self.inside.queue) (empty (heap_items c.self.inside.queue) (search rules)) c.self.invariant.each),
  ap (λ v. v.wishes) c.self.view_is,
)

pub invariant_of-self-2 : goal.invariant_of-self-2
invariant_of-self-2 c =
    let sum : c.in-Some.top + (4294967295 - c.in-Some.top) ≡ 4294967295 = search rules in
    queued_taken _ _ (4294967295 - c.in-Some.top) c.in-Some.top _ (heap_items c.self.inside.queue) (heap_items c.pop.new.self) _ _ _ c.swap_wish.ensures.swaps sum c.in-Some.ensures.permutation (search rules) (search rules) (subst (λ k. Queued c.self.inside.places.entries (heap_items c.self.inside.queue) (heap_len c.self.inside.queue) k) (sym c.pop.ensures.capacity) c.self.invariant)

pub returns-clause-wishes : goal.returns-clause-wishes
returns-clause-wishes c =
    let sum : c.in-Some.top + (4294967295 - c.in-Some.top) ≡ 4294967295 = search rules in
    let swaps = subst (λ o. Swaps (λ p. p.wish) (λ p. record p { wish = None }) (4294967295 - c.in-Some.top) c.self.inside.places.entries o c.swap_wish.new.places.entries) c.unwrap-wish.ensures c.swap_wish.ensures.swaps in
    subst (λ w. TakesEnd w (Some (record { 0 = 4294967295 - c.in-Some.top }, c.unwrap-wish.result)) (record { close = c.self.inside.close; ends = pick (λ p. p.wish) c.swap_wish.new.places.entries })) (ap (λ v. v.wishes) c.self.view_is)
    (took_first c.self.inside.close c.self.inside.places.entries c.swap_wish.new.places.entries (4294967295 - c.in-Some.top) c.in-Some.top c.unwrap-wish.result (heap_items c.self.inside.queue) (heap_items c.pop.new.self) swaps sum c.in-Some.ensures.permutation (c.in-Some.ensures.below_top c.self.invariant.ordered) c.self.invariant.each)
