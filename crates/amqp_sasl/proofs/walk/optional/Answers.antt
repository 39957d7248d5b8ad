use Rattle.amqp_values.proofs.WalkLemmas.{part_ended}
use Rattle.amqp_sasl.specs.Inner.Reading.{bytes_at}
use Rattle.amqp_sasl.proofs.FieldLemmas.{never_empty}
use Rattle.amqp_sasl.proofs.walk.optional.Goals as goal

pub returns-in-None-clause-value : goal.returns-in-None-clause-value
returns-in-None-clause-value c = part_ended (bytes_at c.args.field_type) _ c.in-None.ensures.value (never_empty c.args.field_type)
