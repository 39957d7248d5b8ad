use Rattle.amqp_sasl.specs.Inner.Reading.{sasl_code_at}
use Rattle.amqp_sasl.proofs.FieldLemmas.{none_needed, no_code}
use Rattle.amqp_sasl.proofs.walk.mandatory_code.Goals as goal

pub returns-in-None-clause-value : goal.returns-in-None-clause-value
returns-in-None-clause-value c = none_needed sasl_code_at _ c.in-None.ensures.value no_code
