-- `amqp1_new` where a client was made: it lies there, or is let go where there is no memory for its box.
use Rattle.amqp1.proofs.PlaceLemmas.{made_there}
use Rattle.amqp1.proofs.exports.amqp1_new.Goals as goal

pub returns-in-Ok-clause-made : goal.returns-in-Ok-clause-made
returns-in-Ok-clause-made c = λ h. made_there _ c.args.how.now c.args.open_bytes.now c.args.logins.now c.args.bytes.now _ _ _ c.new.result c.in-Ok.client _ c.in-Ok.is c.new.ensures c.new-in-Ok.ensures c.put.ensures
