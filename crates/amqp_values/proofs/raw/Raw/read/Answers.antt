use Rattle.amqp_values.specs.Raw.{SpellsRaw, raw_at}
use Rattle.amqp_values.proofs.ReaderLemmas.{is_read}
use Rattle.amqp_values.proofs.RawValueLemmas.{raw_format}
use Rattle.amqp_values.proofs.raw.Raw.read.Goals as goal

pub returns : goal.returns
returns c = is_read SpellsRaw raw_at raw_format c.args.bytes c.front.result c.front.ensures
