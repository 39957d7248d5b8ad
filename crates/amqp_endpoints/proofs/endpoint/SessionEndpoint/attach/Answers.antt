use Rattle.std.proofs.Common.{Ok, Err, refl}
use Rattle.amqp_endpoints.proofs.endpoint.SessionEndpoint.attach.Goals as goal

pub returns-in-Ok : goal.returns-in-Ok
returns-in-Ok g c = record {
  found = Ok c.in-Ok.handle;
  between = c.handle_for.new.self;
  finds = c.in-Ok.ensures;
  attaches = c.attach_on.ensures;
}

pub returns-in-Err : goal.returns-in-Err
returns-in-Err g c = record {
  found = Err c.in-Err.error;
  between = c.handle_for.new.self;
  finds = c.in-Err.ensures;
  attaches = (refl, refl, refl);
}
