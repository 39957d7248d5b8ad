use Rattle.std.proofs.Common.{◌≡◌, ◌≤◌, length, is_some, false, true, ap, ◌∙◌, Some, arith}
use Rattle.std.specs.Map.{lookup}
use Rattle.std.specs.FinMap as map
use Rattle.std.specs.Prelude.{nat_eq}
use Rattle.amqp_engine.specs.Inner.Places.{has_wish}
use Rattle.amqp_engine.proofs.PickedMapLemmas.{gone}
use Rattle.amqp_engine.proofs.ForgottenSessionLemmas.{queued_gone, wish_at, same_wishes}
use Rattle.amqp_engine.proofs.engine.handle_state.HandleState.forget.Goals as goal

pub invariant_of-self : goal.invariant_of-self
invariant_of-self c =
    let none : has_wish (lookup (nat_eq c.args.number.0) c.self.inside.places.entries) ≡ false = wish_at c.self.inside.places.entries c.args.number.0 ∙ ap is_some (ap (λ v. map.get v.wishes.ends c.args.number.0) c.self.view_is ∙ c.requires.unwished) in
    let short : length c.swap_remove.new.self.entries ≤ length c.self.inside.places.entries = omega (arith, c.swap_remove.ensures.len) in
    queued_gone _ _ c.args.number.0 _ _ _ c.swap_remove.ensures.updates.0 c.swap_remove.ensures.entries short none c.self.invariant

pub returns-clause-outcomes : goal.returns-clause-outcomes
returns-clause-outcomes c =
    ap (λ m. record { connection = c.self.inside.outcome; sessions = m }) (gone (λ p. p.outcome) _ _ c.args.number.0 c.swap_remove.ensures.updates.0)
    ∙ ap (λ v. record v.outcomes { sessions = map.remove v.outcomes.sessions c.args.number.0 }) c.self.view_is

pub returns-clause-wishes : goal.returns-clause-wishes
returns-clause-wishes c =
    let none : has_wish (lookup (nat_eq c.args.number.0) c.self.inside.places.entries) ≡ false = wish_at c.self.inside.places.entries c.args.number.0 ∙ ap is_some (ap (λ v. map.get v.wishes.ends c.args.number.0) c.self.view_is ∙ c.requires.unwished) in
    ap (λ m. record { close = c.self.inside.close; ends = m }) (same_wishes _ _ c.args.number.0 c.swap_remove.ensures.updates.0 none) ∙ ap (λ v. v.wishes) c.self.view_is

pub returns-clause-places : goal.returns-clause-places
returns-clause-places c = gone (λ p. Some true) _ _ c.args.number.0 c.swap_remove.ensures.updates.0 ∙ ap (λ v. map.remove v.places c.args.number.0) c.self.view_is
