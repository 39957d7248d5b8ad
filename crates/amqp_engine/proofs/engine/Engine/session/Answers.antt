use Rattle.std.proofs.Common.{subst, Some, IfSome, is_some, ◌≡◌, nat_eq}
use Rattle.std.specs.Map.{lookup}
use Rattle.amqp_engine.specs.EngineView.{EngineView}
use Rattle.amqp_engine.proofs.SessionListLemmas.{found_in, known_in, walk_in}
use Rattle.amqp_engine.proofs.engine.Engine.session.Goals as goal

pub returns-clause-found : goal.returns-clause-found
returns-clause-found g c =
    subst (λ (v : EngineView _). IfSome c.get.result (λ s. lookup (nat_eq c.args.number.0) v.sessions ≡ Some s.now.view)) c.self.view_is
    (found_in c.get.result c.args.number.0 c.self.inside.sessions.entries c.get.ensures.value)

pub returns-clause-walk : goal.returns-clause-walk
returns-clause-walk g c =
    subst (λ (v : EngineView _). IfSome c.get.result (λ s. lookup (nat_eq c.args.number.0) v.walks ≡ Some s.now.last_walk)) c.self.view_is
    (walk_in c.get.result c.args.number.0 c.self.inside.sessions.entries c.get.ensures.value)

pub returns-clause-known : goal.returns-clause-known
returns-clause-known g c =
    subst (λ (v : EngineView _). is_some c.get.result ≡ is_some (lookup (nat_eq c.args.number.0) v.sessions)) c.self.view_is
    (known_in c.get.result c.args.number.0 c.self.inside.sessions.entries c.get.ensures.value)
