use Rattle.std.proofs.Common.{sym, ◌∙◌, subst}
use Rattle.amqp_values.specs.Raw.{IsRaw}
use Rattle.amqp_values.proofs.MapLemmas.{map_code}
use Rattle.amqp_values.proofs.fields.FieldsField.read.Goals as goal

pub invariant_of-result : goal.invariant_of-result
invariant_of-result c = record { raw = subst IsRaw c.raw.view_is c.raw.invariant; code = map_code c.in_ok-raw.raw (sym c.is_map.ensures ∙ c.if-is_map.true) }
