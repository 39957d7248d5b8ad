use Rattle.std.proofs.Common.{rules, refl, ap, ◌<◌, ◌∙◌, None, true, length}
use Rattle.std.specs.FinMap as map
use Rattle.std.specs.BinaryHeap.{heap_capacity}
use Rattle.amqp_engine.specs.declared.engine.handle_state.SessionSlot.{SessionSlot}
use Rattle.amqp_engine.proofs.BegunSessionLemmas.{appended}
use Rattle.amqp_engine.proofs.PickedMapLemmas.{Writes}
use Rattle.amqp_engine.proofs.SessionSlotLemmas.{unknown, same_more, placed, queued_more}
use Rattle.amqp_engine.proofs.engine.handle_state.HandleState.add.Goals as goal

abbrev vacant : SessionSlot
vacant = record { outcome = None; wish = None }

pub invariant_of-self : goal.invariant_of-self
invariant_of-self c =
    let none = unknown c.self.inside.places.entries c.args.number.0 (ap (λ v. map.get v.places c.args.number.0) c.self.view_is ∙ c.requires.fresh) in
    let up : Writes c.self.inside.places.entries c.insert.new.self.entries c.args.number.0 vacant = (rw c.unwrap.ensures at c.insert.ensures.updates).0 in
    let put = rw c.unwrap.ensures at c.insert.ensures.entries in
    let wide : length c.self.inside.places.entries < heap_capacity c.self.inside.queue = search rules in
    queued_more _ _ c.args.number.0 vacant _ _ _ up (put ∙ appended _ c.args.number.0 vacant none) none refl wide c.self.invariant

pub returns-clause-places : goal.returns-clause-places
returns-clause-places c =
    let up : Writes c.self.inside.places.entries c.insert.new.self.entries c.args.number.0 vacant = (rw c.unwrap.ensures at c.insert.ensures.updates).0 in
    placed _ _ c.args.number.0 vacant up ∙ ap (λ v. map.insert v.places c.args.number.0 true) c.self.view_is

pub returns-clause-outcomes : goal.returns-clause-outcomes
returns-clause-outcomes c =
    let none = unknown c.self.inside.places.entries c.args.number.0 (ap (λ v. map.get v.places c.args.number.0) c.self.view_is ∙ c.requires.fresh) in
    let up : Writes c.self.inside.places.entries c.insert.new.self.entries c.args.number.0 vacant = (rw c.unwrap.ensures at c.insert.ensures.updates).0 in
    ap (λ m. record { connection = c.self.inside.outcome; sessions = m }) (same_more (λ p. p.outcome) _ _ c.args.number.0 vacant up none refl) ∙ ap (λ v. v.outcomes) c.self.view_is

pub returns-clause-wishes : goal.returns-clause-wishes
returns-clause-wishes c =
    let none = unknown c.self.inside.places.entries c.args.number.0 (ap (λ v. map.get v.places c.args.number.0) c.self.view_is ∙ c.requires.fresh) in
    let up : Writes c.self.inside.places.entries c.insert.new.self.entries c.args.number.0 vacant = (rw c.unwrap.ensures at c.insert.ensures.updates).0 in
    ap (λ m. record { close = c.self.inside.close; ends = m }) (same_more (λ p. p.wish) _ _ c.args.number.0 vacant up none refl) ∙ ap (λ v. v.wishes) c.self.view_is
