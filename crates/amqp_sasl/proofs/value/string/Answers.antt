use Rattle.amqp_values.proofs.Utf8Lemmas.{string_is, no_string}
use Rattle.amqp_sasl.proofs.value.string.Goals as goal

pub returns-in-Ok-clause-value : goal.returns-in-Ok-clause-value
returns-in-Ok-clause-value c = string_is _ _ _ c.in_ok-place.ensures.value c.in-Ok.ensures.cases.1

pub returns-in-Err-clause-value : goal.returns-in-Err-clause-value
returns-in-Err-clause-value c = no_string _ _ _ c.in_ok-place.ensures.value c.in-Err.ensures.cases.0
