use Rattle.std.proofs.Common.{IsSome, subst, sym, nat_eq}
use Rattle.std.specs.Map.{lookup}
use Rattle.amqp_engine.specs.EngineView.{EngineView}
use Rattle.amqp_engine.proofs.OutcomeLemmas.{seat_known}
use Rattle.amqp_engine.proofs.engine.Engine.note_end.Goals as goal

pub note_end-requires : goal.note_end-requires
note_end-requires g c = record {
  known = seat_known c.self.inside.sessions.entries c.args.number.0 c.self.inside.kept.places c.self.invariant.0
      (subst (λ (v : EngineView _). IsSome (lookup (nat_eq c.args.number.0) v.sessions)) (sym c.self.view_is) c.requires);
}
