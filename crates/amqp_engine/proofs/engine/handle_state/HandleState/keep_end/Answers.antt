use Rattle.std.proofs.Common.{rules, refl, ap, subst, sym, ◌∙◌, IsSome, Some, true}
use Rattle.std.specs.FinMap as map
use Rattle.amqp_engine.specs.Kept.{end_kept}
use Rattle.amqp_engine.proofs.SessionSlotLemmas.{same_pick, queued_still, known, ended}
use Rattle.amqp_engine.proofs.engine.handle_state.HandleState.keep_end.Goals as goal

pub invariant_of-self : goal.invariant_of-self
invariant_of-self c = queued_still (λ p. p.outcome) _ c.args.number.0 _ _ _ _ _ _ (λ p. refl) c.swap_outcome.ensures.swaps c.self.invariant

pub returns-then-is_some-clause-outcomes : goal.returns-then-is_some-clause-outcomes
returns-then-is_some-clause-outcomes c =
    let is : IsSome c.args.answer = search rules in
    let there = known c.self.inside.places.entries c.args.number.0 (subst (λ m. IsSome (map.get m c.args.number.0)) (ap (λ v. v.places) (sym c.self.view_is)) (c.requires.known is)) in
    ended c.self.inside.outcome _ _ c.args.number.0 c.args.answer _ is there c.swap_outcome.ensures.swaps ∙ ap (λ v. end_kept c.args.number.0 c.args.answer v.outcomes) c.self.view_is

pub returns-then-is_some-clause-wishes : goal.returns-then-is_some-clause-wishes
returns-then-is_some-clause-wishes c = ap (λ e. record { close = c.self.inside.close; ends = e }) (same_pick (λ p. p.outcome) _ c.args.number.0 _ _ _ (λ p. p.wish) (λ p. refl) c.swap_outcome.ensures.swaps) ∙ ap (λ v. v.wishes) c.self.view_is

pub returns-then-is_some-clause-places : goal.returns-then-is_some-clause-places
returns-then-is_some-clause-places c = same_pick (λ p. p.outcome) _ c.args.number.0 _ _ _ (λ p. Some true) (λ p. refl) c.swap_outcome.ensures.swaps ∙ ap (λ v. v.places) c.self.view_is
