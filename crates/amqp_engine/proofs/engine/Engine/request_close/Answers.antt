use Rattle.std.proofs.Common.{rules, ◌≡◌, Some, subst, refl, ap, ◌∙◌}
use Rattle.amqp_connection.specs.Connection.{stopped}
use Rattle.amqp_engine.specs.declared.engine.step_error.StepError.TheVariants.{ConnectionState}
use Rattle.amqp_connection.specs.Connection.{refusal_of}
use Rattle.amqp_engine.specs.EngineView.{EngineView, views_of, walks_of}
use Rattle.amqp_engine.specs.Engine.{CloseRequest}
use Rattle.amqp_engine.proofs.SameEngineLemmas.{same_engine}
use Rattle.amqp_engine.proofs.engine.Engine.request_close.Goals as goal

pub returns : goal.returns
returns g c =
    let closed = c.set_connection_stop_reason.ensures ∙ ap (λ r. stopped c.send_close.new.self r) c.reason_of-reason.ensures in
    rw (← c.self.view_is) (c.in_ok-frame.frame, c.send_close.new.self, c.in_ok-frame.ensures, same_engine _ _ _ _ _ _ _ closed refl (c.put.ensures ∙ c.one.ensures))

pub returns-in_err-frame : goal.returns-in_err-frame
returns-in_err-frame g c =
    let told : refusal_of c.from_residual.result ≡ Some (ConnectionState c.in_err-frame.field-0.0) = search rules in
    rw told (subst (λ (v : EngineView _). CloseRequest v c.args.error (Some (ConnectionState c.in_err-frame.field-0.0)) (record { connection = c.send_close.new.self; sessions = views_of c.self.inside.sessions.entries; walks = walks_of c.self.inside.sessions.entries; forgotten = c.self.inside.forgotten; limit = c.self.inside.encoder; waiting = c.self.inside.waiting; outcomes = c.self.inside.kept.outcomes; wishes = c.self.inside.kept.wishes })) c.self.view_is (c.send_close.new.self, c.in_err-frame.ensures, refl))
