use Rattle.std.proofs.Common.{inr}
use Rattle.amqp1.proofs.occupant.Occupant.attach.Goals as goal

pub returns-in-Ok : goal.returns-in-Ok
returns-in-Ok c = inr (c.provide.new.self, c.in-Ok.ensures.ok, c.attach_on.ensures)
