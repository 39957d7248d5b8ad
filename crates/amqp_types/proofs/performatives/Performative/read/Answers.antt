use Rattle.amqp_values.proofs.ReaderLemmas.{is_read}
use Rattle.amqp_types.specs.Performatives.{IsPerformative, performative_at}
use Rattle.amqp_types.proofs.PerformativeLemmas.{performative_format}
use Rattle.amqp_types.proofs.performatives.Performative.read.Goals as goal

pub returns : goal.returns
returns c = is_read IsPerformative performative_at performative_format c.args.bytes c.front.result c.front.ensures
