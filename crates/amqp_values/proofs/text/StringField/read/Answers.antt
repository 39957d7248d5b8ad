use Rattle.std.proofs.Common.{◌≡◌, ◌∙◌, string_bytes}
use Rattle.std.specs.Prelude.{slice_range}
use Rattle.amqp_values.proofs.Utf8Lemmas.{string_is, no_string}
use Rattle.amqp_values.proofs.text.StringField.read.Goals as goal

pub returns-in_ok-text_of-in-Ok-clause-value : goal.returns-in_ok-text_of-in-Ok-clause-value
returns-in_ok-text_of-in-Ok-clause-value c =
    let e : string_bytes c.in_ok-text_of-in-Ok.field-0 ≡ slice_range c.args.text.now c.in_ok-from.from c.variable.new.at = c.in_ok-text_of-in-Ok.ensures.ok ∙ c.in-Ok.ensures.cases.0 in
    rw e (string_is _ _ _ c.in_ok-from.ensures.value.0 c.in-Ok.ensures.cases.1)

pub returns-in-Err-clause-value : goal.returns-in-Err-clause-value
returns-in-Err-clause-value c = no_string _ _ _ c.in_ok-from.ensures.value.0 c.in-Err.ensures.cases.0
