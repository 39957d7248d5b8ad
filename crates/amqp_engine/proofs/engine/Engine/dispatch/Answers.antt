use Rattle.amqp_engine.proofs.engine.Engine.dispatch.Goals as goal

pub returns-in-Received : goal.returns-in-Received
returns-in-Received g c = rw c.in-Received.is c.receive.ensures

pub returns-in-Transfer : goal.returns-in-Transfer
returns-in-Transfer g c = rw c.in-Transfer.is c.request_transfer-done.ensures.carried
