use Rattle.std.proofs.Common.{refl, ap, ◌∙◌, Some, true}
use Rattle.std.specs.FinMap as map
use Rattle.amqp_engine.proofs.SessionSlotLemmas.{same_pick, cleared_pick, given_is, queued_still}
use Rattle.amqp_engine.proofs.engine.handle_state.HandleState.take_end_outcome.Goals as goal

pub invariant_of-self : goal.invariant_of-self
invariant_of-self c = queued_still (λ p. p.outcome) _ c.args.number.0 _ _ _ _ _ _ (λ p. refl) c.swap_outcome.ensures.swaps c.self.invariant

pub returns-clause-value : goal.returns-clause-value
returns-clause-value c = given_is (λ p. p.outcome) _ c.args.number.0 _ _ _ c.swap_outcome.ensures.swaps ∙ ap (λ v. map.get v.outcomes.sessions c.args.number.0) c.self.view_is

pub returns-clause-outcomes : goal.returns-clause-outcomes
returns-clause-outcomes c =
    ap (λ m. record { connection = c.self.inside.outcome; sessions = m }) (cleared_pick (λ p. p.outcome) _ c.args.number.0 _ _ _ (λ p. p.outcome) (λ p. refl) c.swap_outcome.ensures.swaps)
    ∙ ap (λ v. record { connection = v.outcomes.connection; sessions = map.remove v.outcomes.sessions c.args.number.0 }) c.self.view_is

pub returns-clause-wishes : goal.returns-clause-wishes
returns-clause-wishes c = ap (λ e. record { close = c.self.inside.close; ends = e }) (same_pick (λ p. p.outcome) _ c.args.number.0 _ _ _ (λ p. p.wish) (λ p. refl) c.swap_outcome.ensures.swaps) ∙ ap (λ v. v.wishes) c.self.view_is

pub returns-clause-places : goal.returns-clause-places
returns-clause-places c = same_pick (λ p. p.outcome) _ c.args.number.0 _ _ _ (λ p. Some true) (λ p. refl) c.swap_outcome.ensures.swaps ∙ ap (λ v. v.places) c.self.view_is
