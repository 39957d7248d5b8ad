use Rattle.amqp_types.proofs.CutTransferLemmas.{texts_spelled}
use Rattle.amqp_types.proofs.laws.transfer_is_spelled.Goals as goal

pub returns : goal.returns
returns c = texts_spelled c.args.p.now c.transfer.ensures
