use Rattle.std.proofs.Common.{rules, ◌≡◌, ◌+◌, ◌-◌, refl, ap, sym, subst, ◌∙◌, Some, true, arith, IsSome}
use Rattle.std.specs.FinMap as map
use Rattle.std.specs.BinaryHeap.{heap_items}
use Rattle.amqp_engine.specs.Kept.{end_wished}
use Rattle.amqp_engine.specs.Inner.Places.{pick}
use Rattle.amqp_engine.proofs.SessionSlotLemmas.{same_pick, known, wished, wished_still, queued_noted, has_room}
use Rattle.amqp_engine.proofs.engine.handle_state.HandleState.note_end.Goals as goal

pub unwrap-requires : goal.unwrap-requires
unwrap-requires c =
    let there = known c.self.inside.places.entries c.args.number.0 (subst (λ m. IsSome (map.get m c.args.number.0)) (ap (λ v. v.places) (sym c.self.view_is)) c.requires.known) in
    let none = sym c.is_noted.ensures ∙ c.if-is_noted.false in
    let room = has_room _ _ c.args.number.0 c.of.result _ _ _ _ none there c.swap_wish.ensures.swaps c.self.invariant in
    c.push.ensures.succeeds room

pub invariant_of-self : goal.invariant_of-self
invariant_of-self c =
    let there = known c.self.inside.places.entries c.args.number.0 (subst (λ m. IsSome (map.get m c.args.number.0)) (ap (λ v. v.places) (sym c.self.view_is)) c.requires.known) in
    let none = sym c.is_noted.ensures ∙ c.if-is_noted.false in
    let sum : (4294967295 - c.args.number.0) + c.args.number.0 ≡ 4294967295 = omega arith in
    queued_noted _ _ c.args.number.0 (4294967295 - c.args.number.0) c.of.result _ (heap_items c.self.inside.queue) (heap_items c.push.new.self) _ _ _ _ none there c.swap_wish.ensures.swaps sum (search rules) (search rules) (search rules) (search rules) c.self.invariant

pub returns-then-is_noted-clause-wishes : goal.returns-then-is_noted-clause-wishes
returns-then-is_noted-clause-wishes c =
    subst (λ w. w ≡ end_wished c.args.number.0 c.args.error w) (ap (λ v. v.wishes) c.self.view_is)
    (wished_still c.self.inside.close c.self.inside.places.entries c.args.number.0 c.args.error (sym c.is_noted.ensures ∙ c.if-is_noted.true))

pub returns-clause-outcomes : goal.returns-clause-outcomes
returns-clause-outcomes c = ap (λ e. record { connection = c.self.inside.outcome; sessions = e }) (same_pick (λ p. p.wish) _ c.args.number.0 _ _ _ (λ p. p.outcome) (λ p. refl) c.swap_wish.ensures.swaps) ∙ ap (λ v. v.outcomes) c.self.view_is

pub returns-clause-wishes : goal.returns-clause-wishes
returns-clause-wishes c =
    let there = known c.self.inside.places.entries c.args.number.0 (subst (λ m. IsSome (map.get m c.args.number.0)) (ap (λ v. v.places) (sym c.self.view_is)) c.requires.known) in
    let none = sym c.is_noted.ensures ∙ c.if-is_noted.false in
    let now = wished c.self.inside.close _ _ c.args.number.0 c.of.result _ none there c.swap_wish.ensures.swaps in
    now ∙ ap (λ e. end_wished c.args.number.0 e (record { close = c.self.inside.close; ends = pick (λ p. p.wish) c.self.inside.places.entries })) c.of.ensures ∙ ap (λ v. end_wished c.args.number.0 c.args.error v.wishes) c.self.view_is

pub returns-clause-places : goal.returns-clause-places
returns-clause-places c = same_pick (λ p. p.wish) _ c.args.number.0 _ _ _ (λ p. Some true) (λ p. refl) c.swap_wish.ensures.swaps ∙ ap (λ v. v.places) c.self.view_is
