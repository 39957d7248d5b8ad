use Rattle.std.proofs.Common.{None, [], refl}
use Rattle.amqp_engine.proofs.engine.Engine.dispatch_any.Goals as goal

pub returns-in-End : goal.returns-in-End
returns-in-End g c = rw c.in-End.is c.request_end.ensures

pub returns-in-Flow : goal.returns-in-Flow
returns-in-Flow g c = rw c.in-Flow.is c.request_flow.ensures

pub returns-in-Transfer : goal.returns-in-Transfer
returns-in-Transfer g c = rw c.in-Transfer.is c.request_transfer-done.ensures.carried

pub returns-in-Stop : goal.returns-in-Stop
returns-in-Stop g c = rw c.in-Stop.is c.request_stop.ensures

pub returns-in-AllocateLink : goal.returns-in-AllocateLink
returns-in-AllocateLink g c = rw c.in-AllocateLink.is c.request_link.ensures

pub returns-in-AllocateIncomingLink : goal.returns-in-AllocateIncomingLink
returns-in-AllocateIncomingLink g c = rw c.in-AllocateIncomingLink.is c.request_incoming_link.ensures

pub returns-in-Attach : goal.returns-in-Attach
returns-in-Attach g c = rw c.in-Attach.is c.request_attach.ensures

pub returns-in-Detach : goal.returns-in-Detach
returns-in-Detach g c = rw c.in-Detach.is c.request_detach.ensures

pub returns-in-Disposition : goal.returns-in-Disposition
returns-in-Disposition g c = rw c.in-Disposition.is c.request_disposition.ensures

pub returns-in-Settle : goal.returns-in-Settle
returns-in-Settle g c = rw c.in-Settle.is c.request_settle.ensures

pub returns-in-Received : goal.returns-in-Received
returns-in-Received g c = rw c.in-Received.is c.receive.ensures

pub returns-in-Open : goal.returns-in-Open
returns-in-Open g c = rw c.in-Open.is (None, None, [], c.request_open.new.self, (refl, (refl, refl), c.request_open.ensures), refl)

pub returns-in-Close : goal.returns-in-Close
returns-in-Close g c = rw c.in-Close.is (None, None, [], c.request_close.new.self, (refl, (refl, refl), c.request_close.ensures), refl)

pub returns-in-Begin : goal.returns-in-Begin
returns-in-Begin g c =
    let b = c.request_begin.ensures in rw c.in-Begin.is (None, b.0, b.1, c.request_begin.new.self, (refl, b.2), refl)

pub returns-in-Release : goal.returns-in-Release
returns-in-Release g c =
    let b = c.request_release.ensures in rw c.in-Release.is (None, b.0, b.1, c.request_release.new.self, (refl, b.2), refl)

pub returns-in-Forget : goal.returns-in-Forget
returns-in-Forget g c = rw c.in-Forget.is c.request_forget.ensures
