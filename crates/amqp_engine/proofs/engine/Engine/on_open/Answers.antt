use Rattle.std.proofs.Common.{rules, ◌≡◌, ℕ, None, Some, [], refl, ◌∙◌, ap, subst}
use Rattle.amqp_connection.specs.Connection.{refusal_of}
use Rattle.amqp_engine.specs.declared.engine.step_error.StepError.TheVariants.{ConnectionState}
use Rattle.amqp_engine.specs.EngineView.{EngineView, views_of, walks_of}
use Rattle.amqp_engine.specs.Engine.{ReceivedOpen}
use Rattle.amqp_engine.proofs.engine.Engine.on_open.Goals as goal

pub returns : goal.returns
returns g c =
    let limit_is = c.new-self-inside.ensures ∙ c.limit_of-limit.ensures in (
      None,
      [],
      (
        (refl, refl),
        subst (λ (v : EngineView _). ReceivedOpen v c.args.«open» None (record { connection = c.on_incoming_open.new.self; sessions = views_of c.self.inside.sessions.entries; walks = walks_of c.self.inside.sessions.entries; forgotten = c.self.inside.forgotten; limit = c.new-self-inside.result; waiting = c.self.inside.waiting; outcomes = c.self.inside.kept.outcomes; wishes = c.self.inside.kept.wishes })) c.self.view_is
            (c.on_incoming_open.new.self, c.in_ok-on_incoming_open.ensures, ap (λ (n : ℕ). record { connection = c.on_incoming_open.new.self; sessions = views_of c.self.inside.sessions.entries; walks = walks_of c.self.inside.sessions.entries; forgotten = c.self.inside.forgotten; limit = n; waiting = c.self.inside.waiting; outcomes = c.self.inside.kept.outcomes; wishes = c.self.inside.kept.wishes }) limit_is),
      ),
    )

pub returns-in_err-on_incoming_open : goal.returns-in_err-on_incoming_open
returns-in_err-on_incoming_open g c =
    let told : refusal_of c.from_residual.result ≡ Some (ConnectionState c.in_err-on_incoming_open.field-0.0) = search rules in
    rw told ((
      None,
      [],
      (
        (refl, refl),
        subst (λ (v : EngineView _). ReceivedOpen v c.args.«open» (Some (ConnectionState c.in_err-on_incoming_open.field-0.0)) (record { connection = c.on_incoming_open.new.self; sessions = views_of c.self.inside.sessions.entries; walks = walks_of c.self.inside.sessions.entries; forgotten = c.self.inside.forgotten; limit = c.self.inside.encoder; waiting = c.self.inside.waiting; outcomes = c.self.inside.kept.outcomes; wishes = c.self.inside.kept.wishes })) c.self.view_is
            (c.on_incoming_open.new.self, c.in_err-on_incoming_open.ensures, refl),
      ),
    ))
