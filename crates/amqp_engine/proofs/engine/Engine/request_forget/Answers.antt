use Rattle.std.proofs.Common.{None, [], refl, ap, sym, subst, ◌∙◌, arith}
use Rattle.amqp_memory.proofs.RefusalLemmas.{some}
use Rattle.amqp_numbers.specs.Ranges.{IsAlone}
use Rattle.amqp_engine.specs.EngineView.{EngineView}
use Rattle.amqp_engine.specs.Sessions.{Over}
use Rattle.amqp_engine.proofs.SameEngineLemmas.{parts, same_keeping}
use Rattle.amqp_engine.proofs.ForgottenSessionLemmas.{lets_go, refused, seated_less}
use Rattle.amqp_engine.proofs.engine.Engine.request_forget.Goals as goal

pub returns-in-Err : goal.returns-in-Err
returns-in-Err g c = (None, None, [], c.args.self.now, (refl, refused c.args.self.now c.args.number.0 c.in-Err.error c.in-Err.ensures), refl)

pub returns-in_default-insert : goal.returns-in_default-insert
returns-in_default-insert g c = (
  None,
  None,
  [],
  c.args.self.now,
  (refl, (((refl, refl), refl), c.in_default.ensures, subst (λ (v : EngineView _). IsAlone v.forgotten c.args.number.0) c.self.view_is c.in_default-insert.ensures.alone, some (omega arith) c.in_default-insert.ensures.refused)),
  ap (λ p. parts p c.self.inside.kept.outcomes c.self.inside.kept.wishes c.self.inside.connection c.self.inside.sessions.entries c.self.inside.encoder c.self.inside.waiting) c.in_default-insert.ensures.err ∙ c.self.view_is,
)

pub invariant_of-self-2 : goal.invariant_of-self-2
invariant_of-self-2 g c = (seated_less c.self.inside.sessions.entries c.swap_remove.new.self.entries c.args.number.0 c.self.inside.kept.places c.forget.new.self.places c.swap_remove.ensures.updates.0 c.forget.ensures.places c.self.invariant.0, c.self.invariant.1)

pub returns : goal.returns
returns g c =
    let over = subst (λ (v : EngineView _). Over v c.args.number.0 None) (sym c.self.view_is) c.in_default.ensures in
    let goes = lets_go c.self.inside.connection c.self.inside.sessions.entries c.swap_remove.new.self.entries c.args.number.0 c.self.inside.encoder c.self.inside.forgotten c.insert.new.self c.self.inside.waiting c.self.inside.kept.outcomes c.self.inside.kept.wishes c.swap_remove.ensures.updates.0 c.in-Ok.ensures.ok in
    rw (← c.self.view_is) (
      None,
      None,
      [],
      parts c.insert.new.self c.self.inside.kept.outcomes c.self.inside.kept.wishes c.self.inside.connection c.swap_remove.new.self.entries c.self.inside.encoder c.self.inside.waiting,
      (refl, ((refl, refl), over, goes)),
      same_keeping _ _ _ _ _ _ refl refl c.forget.ensures.outcomes c.forget.ensures.wishes,
    )
