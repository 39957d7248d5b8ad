use Rattle.std.proofs.Common.{◌≡◌, Ok, Err, refl, ap, subst}
use Rattle.amqp_types.specs.Begin.{BeginModel}
use Rattle.amqp_session.specs.declared.frame.SessionFrame.{SessionFrame}
use Rattle.amqp_connection.specs.Connection.{BeginRouteStep}
use Rattle.amqp_connection.proofs.connection.Connection.on_incoming_begin.Goals as goal

pub returns-in-Ok : goal.returns-in-Ok
returns-in-Ok c = (
  Ok c.in-Ok.number.0,
  subst (λ r. BeginRouteStep c.args.self.now c.args.channel.0 r (Ok c.in-Ok.number.0) c.route_begin.new.self) (ap (λ (b : BeginModel). b.remote_channel) c.begin.view_is) c.in-Ok.ensures,
  ap (λ (f : SessionFrame). Ok (c.in-Ok.number, f)) c.new.ensures,
)

pub returns-in-Err : goal.returns-in-Err
returns-in-Err c = (
  Err c.in-Err.error,
  subst (λ r. BeginRouteStep c.args.self.now c.args.channel.0 r (Err c.in-Err.error) c.route_begin.new.self) (ap (λ (b : BeginModel). b.remote_channel) c.begin.view_is) c.in-Err.ensures,
  refl,
)
