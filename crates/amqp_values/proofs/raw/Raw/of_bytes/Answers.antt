use Rattle.std.proofs.Common.{refl, sym, ap, ◌∙◌}
use Rattle.amqp_values.specs.Raw.{is_raw_text}
use Rattle.amqp_values.proofs.OutcomeLemmas.{raw_text_is_raw, other_text_is_not}
use Rattle.amqp_values.proofs.raw.Raw.of_bytes.Goals as goal

pub invariant_of-result : goal.invariant_of-result
invariant_of-result c = raw_text_is_raw c.args.bytes (ap is_raw_text (sym c.as_slice.ensures) ∙ sym c.is_raw.ensures ∙ c.if-is_raw.true)

pub returns-then-is_raw : goal.returns-then-is_raw
returns-then-is_raw c = (raw_text_is_raw c.args.bytes (ap is_raw_text (sym c.as_slice.ensures) ∙ sym c.is_raw.ensures ∙ c.if-is_raw.true), refl)

pub returns-else-is_raw : goal.returns-else-is_raw
returns-else-is_raw c = other_text_is_not c.args.bytes (ap is_raw_text (sym c.as_slice.ensures) ∙ sym c.is_raw.ensures ∙ c.if-is_raw.false)
