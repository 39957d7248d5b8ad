use Rattle.std.proofs.Common.{IsSome, nat_eq, refl, ap, sym, subst, ◌∙◌}
use Rattle.std.specs.Map.{lookup}
use Rattle.std.specs.FinMap as map
use Rattle.std.specs.Prelude.{is_some}
use Rattle.amqp_engine.specs.EngineView.{EngineView}
use Rattle.amqp_engine.proofs.BegunSessionLemmas.{not_some}
use Rattle.amqp_engine.proofs.ForgottenSessionLemmas.{used_there, used_or}
use Rattle.amqp_engine.proofs.SessionListLemmas.{viewed_none, viewed_there}
use Rattle.amqp_engine.proofs.engine.Engine.is_used.Goals as goal

pub returns-then-contains_key : goal.returns-then-contains_key
returns-then-contains_key g c =
    let there = viewed_there c.args.number.0 c.self.inside.sessions.entries _ _ refl c.contains_key.ensures c.if-contains_key.true in
    used_there c.args.self.now c.args.number.0 _ c.if-contains_key.true (subst (λ (v : EngineView _). IsSome (lookup (nat_eq c.args.number.0) v.sessions)) c.self.view_is there)

pub returns-else-contains_key : goal.returns-else-contains_key
returns-else-contains_key g c =
    let none = viewed_none c.args.number.0 c.self.inside.sessions.entries (not_some _ _ c.contains_key.ensures c.if-contains_key.false) in
    used_or c.args.self.now c.args.number.0 _ (ap (λ v. lookup (nat_eq c.args.number.0) v.sessions) (sym c.self.view_is) ∙ none) (c.contains.ensures ∙ ap (λ v. is_some (map.get v.forgotten c.args.number.0)) c.self.view_is)
