use Rattle.amqp_sasl.proofs.PlainLemmas.{nul_tells}
use Rattle.amqp_sasl.proofs.plain.has_nul.Goals as goal

pub returns : goal.returns
returns c = nul_tells c.args.bytes.now c.nul_at.result c.nul_at.ensures
