use Rattle.std.proofs.Common.{sym, ◌∙◌, refl, subst}
use Rattle.amqp_values.specs.Raw.{IsRaw}
use Rattle.amqp_values.proofs.MapLemmas.{map_code}
use Rattle.amqp_values.proofs.fields.Fields.new.Goals as goal

pub invariant_of-result : goal.invariant_of-result
invariant_of-result c = record { raw = subst IsRaw c.raw.view_is c.raw.invariant; code = map_code c.args.raw (sym c.is_map.ensures ∙ c.if-is_map.true) }

pub returns-then-is_map : goal.returns-then-is_map
returns-then-is_map c = (refl, map_code c.args.raw (sym c.is_map.ensures ∙ c.if-is_map.true))
