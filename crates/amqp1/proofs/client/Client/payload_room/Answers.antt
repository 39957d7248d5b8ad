use Rattle.std.proofs.Common.{inr, refl}
use Rattle.amqp1.proofs.client.Client.payload_room.Goals as goal

pub returns-in-Ok : goal.returns-in-Ok
returns-in-Ok c = inr (inr (c.in-Ok.transfer, c.in-Ok.ensures.0, c.room_beside.ensures, refl))
