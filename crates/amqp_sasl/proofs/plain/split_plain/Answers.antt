use Rattle.std.proofs.Common.{sym, ◌∙◌}
use Rattle.std.proofs.lemmas.Bool.{false≢true}
use Rattle.amqp_sasl.proofs.PlainLemmas.{nul_nowhere, nul_parts, none_first, none_second, none_third, named_parts}
use Rattle.amqp_sasl.proofs.plain.split_plain.Goals as goal

pub returns-then-first-response : goal.returns-then-first-response
returns-then-first-response c = none_first c.args.response.now (nul_nowhere _ _ c.nul_at-first.ensures c.if-first-response.true)

pub returns-then-second-after : goal.returns-then-second-after
returns-then-second-after c =
    none_second c.args.response.now _ c.split_at.result.1.now (nul_parts c.args.response.now c.split_at.result.1.now c.nul_at-first.result c.nul_at-first.ensures c.if-first-response.false c.split_at.ensures.back) c.nul_at-first.ensures.0
    (nul_nowhere _ _ c.nul_at-second.ensures c.if-second-after.true)

pub returns-then-has_nul : goal.returns-then-has_nul
returns-then-has_nul c =
    none_third c.args.response.now _ c.split_at.result.1.now _ c.split_at-2.result.1.now
    (nul_parts c.args.response.now c.split_at.result.1.now c.nul_at-first.result c.nul_at-first.ensures c.if-first-response.false c.split_at.ensures.back)
    (nul_parts c.split_at.result.1.now c.split_at-2.result.1.now c.nul_at-second.result c.nul_at-second.ensures c.if-second-after.false c.split_at-2.ensures.back)
    c.nul_at-first.ensures.0 c.nul_at-second.ensures.0 (λ h. false≢true (sym (c.has_nul.ensures.1 h) ∙ c.if-has_nul.true))

pub returns : goal.returns
returns c =
    named_parts c.args.response.now c.split_at.result.1.now c.split_at-2.result.1.now c.nul_at-first.result c.nul_at-second.result c.nul_at-first.ensures c.if-first-response.false c.split_at.ensures.back c.nul_at-second.ensures c.if-second-after.false
    c.split_at-2.ensures.back (c.has_nul.ensures.0 c.if-has_nul.false)
