use Rattle.std.proofs.Common.{rules}
use Rattle.amqp1.proofs.ClientLemmas.{no_open}
use Rattle.amqp1.proofs.client.Client.new.Goals as goal

pub returns-in-Err : goal.returns-in-Err
returns-in-Err c = no_open c.args.how.now c.args.open_bytes.now c.args.heads.now c.args.bytes.now c.in-Err.error _ (search rules) c.in-Err.ensures
